-- What a pass did, by the entries that it submitted.
use Rattle.std.proofs.Common.{◌≡◌, ℕ, List, [], ◌∷◌, ◌++◌, Some, refl, ◌∙◌, ap, sym, subst, append_assoc, append-nil}
use Rattle.std.specs.List.{AllZip}
use Rattle.demi_closed.proofs.Entries.{behind_on}
use Rattle.demi_memq.specs.Counting.{result_at}
use Rattle.demi_memq.specs.Steady.{result_stays}
use Rattle.demi_memq.specs.declared.op.MemOp.{MemOp}
use Rattle.demi_memq.specs.declared.out.MemOut.{MemOut}
use Rattle.demi_port_core.specs.Trails.{Behind, StartsWith}
use Rattle.demi_sharing.specs.Dealing.{Deed, DoesEach, MemSide}

-- an entry of a pass is this operation's, and it came to this
abbrev pub CameTo : List MemOp → Deed → ℕ × (ℕ × MemOp) → Type 0
CameTo heard d e = (e.1.1 ≡ d.0) × (result_at 1024 heard e.0 ≡ Some d.1)

-- The entries by which a pass did each of these.
pub record Made (deeds : List Deed) (p q : MemSide) : Type 0 where
  pub entries : List (ℕ × (ℕ × MemOp))
  pub submitted : q.submitted ≡ p.submitted ++ entries
  pub each : AllZip (CameTo q.known.heard) deeds entries
  pub grows : Behind q.known p.known

pub result_later : (later heard : List MemOp) (p : ℕ) (o : MemOut) → StartsWith later heard
    → result_at 1024 heard p ≡ Some o → result_at 1024 later p ≡ Some o
result_later later heard p o s h = subst (λ (l : List MemOp). result_at 1024 l p ≡ Some o) (sym s.1) (result_stays 1024 heard s.0 p o h)

pub made : (deeds : List Deed) (p q : MemSide) → DoesEach deeds p q → Made deeds p q
made [] p q h = record { entries = []; submitted = h.0 ∙ sym (append-nil p.submitted); each = tt; grows = h.1 }
made (d ∷ deeds) p q h =
    let m = h.0 in
    let one = h.1 in
    let rest = made deeds m q h.2 in
    record {
      entries = (one.place, (one.token, d.0)) ∷ rest.entries;
      submitted = rest.submitted ∙ ap (λ (l : List (ℕ × (ℕ × MemOp))). l ++ rest.entries) one.submitted ∙ append_assoc p.submitted ((one.place, (one.token, d.0)) ∷ []) rest.entries;
      each = ((refl, result_later q.known.heard m.known.heard one.place d.1 rest.grows.heard one.came), rest.each);
      grows = behind_on q.known m.known p.known rest.grows one.grows;
    }

-- what was done from a pass on that only learnt more was done from it
does_from : (deeds : List Deed) (p m q : MemSide) → m.submitted ≡ p.submitted → Behind m.known p.known
    → DoesEach deeds m q → DoesEach deeds p q
does_from [] p m q e grows h = (h.0 ∙ e, behind_on q.known m.known p.known h.1 grows)
does_from (d ∷ deeds) p m q e grows h =
    let one = h.1 in (
      h.0,
      record {
        place = one.place;
        token = one.token;
        submitted = one.submitted ∙ ap (λ (l : List (ℕ × (ℕ × MemOp))). l ++ (one.place, (one.token, d.0)) ∷ []) e;
        grows = behind_on h.0.known m.known p.known one.grows grows;
        came = one.came;
      },
      h.2,
    )

-- these, and then those
pub does_append : (first more : List Deed) (p m q : MemSide) → DoesEach first p m → DoesEach more m q → DoesEach (first ++ more) p q
does_append [] more p m q h k = does_from more p m q h.0 h.1 k
does_append (d ∷ first) more p m q h k = (h.0, h.1, does_append first more h.0 m q h.2 k)

-- What a pass of a closed port did, at the places of the history.
use Rattle.std.proofs.Common.{◌≡◌, ℕ, ◌⊎◌, List, [], ◌++◌, Some, arith, ◌∙◌, ap, sym, subst, inl, inr, append-nil}
use Rattle.std.specs.Prelude.{slice_get}
use Rattle.std.specs.List.{AllByRecursion, AllZip}
use Rattle.demi_closed.proofs.Entries.{behind_on, in_pass}
use Rattle.demi_heap.specs.Seen.{HeapId}
use Rattle.demi_memq.specs.Counting.{result_at}
use Rattle.demi_memq.specs.declared.op.MemOp.{MemOp}
use Rattle.demi_memq.specs.declared.op.MemOp.TheVariants.{Stop}
use Rattle.demi_memq.specs.declared.out.MemOut.{MemOut}
use Rattle.demi_pdpix.specs.Seen.{MemPass}
use Rattle.demi_port.specs.Seen.{EndValue, known_at, known_by, says}
use Rattle.demi_port_core.specs.History.{of_pass}
use Rattle.demi_port_core.specs.Trails.{Behind, StartsWith}
use Rattle.demi_port_core.specs.declared.trail.Trail.{Trail}
use Rattle.demi_served.proofs.Entries.{entry_of}
use Rattle.demi_served.specs.Sharing.{Did, MemEntry}
use Rattle.demi_sharing.proofs.Doing.{CameTo, made, result_later}
use Rattle.demi_sharing.proofs.Lists.{all_at, among_at, among_place, get_either, get_left, zip_at, zip_more, zip_other}
use Rattle.demi_sharing.specs.Dealing.{Deed, DoesEach, MemSide}

pub behind_self : {D T : Type 0} (v : Trail D T) → Behind v v
behind_self v = record {
  heard = ([], sym (append-nil v.heard));
  told = ([], sym (append-nil v.told), tt);
  floor = omega arith;
}

module _ (history : List MemEntry) where
  -- The pass with this number did each of these, and then at most stopped the port.
  pub record Ran (n : ℕ) (deeds : List Deed) : Type 0 where
    pub entries : List (ℕ × (ℕ × MemOp))
    pub tail : List (ℕ × (ℕ × MemOp))
    pub whole : of_pass n 0 history ≡ entries ++ tail
    pub each : AllZip (CameTo (says history)) deeds entries
    pub stops : AllByRecursion (λ (e : ℕ × (ℕ × MemOp)). e.1.1 ≡ Stop) tail

  -- each deed has its place
  pub did_at : (n i : ℕ) (deeds : List Deed) (d : Deed) → Ran n deeds → slice_get deeds i ≡ Some d
      → (p : ℕ) × Did history p n d.0 d.1
  did_at n i deeds d r at =
      let k = zip_at (CameTo (says history)) deeds r.entries i d r.each at in
      let among = among_at (of_pass n 0 history) i k.0 (ap (λ (l : List (ℕ × (ℕ × MemOp))). slice_get l i) r.whole ∙ get_left r.entries r.tail i k.0 k.1) in
      let f = entry_of n 0 history k.0.0 k.0.1 among in
      let place : f.0 ≡ k.0.0 = omega (arith, f.1) in (
        k.0.0,
        record {
          token = k.0.1.0;
          here = subst (λ (m : ℕ). slice_get history m ≡ Some (n, (k.0.1.0, d.0))) place (f.2 ∙ ap (λ (o : MemOp). Some (n, (k.0.1.0, o))) k.2.0);
          told = k.2.1;
        },
      )

  -- An entry of the pass is a deed's.
  pub record DeedAt (p n t : ℕ) (op : MemOp) (deeds : List Deed) : Type 0 where
    pub index : ℕ
    pub out : MemOut
    pub done : slice_get deeds index ≡ Some (op, out)
    pub told : result_at 1024 (says history) p ≡ Some out
    pub own : slice_get (of_pass n 0 history) index ≡ Some (p, (t, op))

  pub deed_at : (p n t : ℕ) (op : MemOp) (deeds : List Deed) → Ran n deeds → (op ≡ Stop → ⊥)
      → slice_get history p ≡ Some (n, (t, op)) → DeedAt p n t op deeds
  deed_at p n t op deeds r goes_on at =
      let k = among_place (of_pass n 0 history) (p, (t, op)) (in_pass history p (n, (t, op)) at) in
      split k.0 k.1 (get_either r.entries r.tail k.0 (p, (t, op)) (sym (ap (λ (l : List (ℕ × (ℕ × MemOp))). slice_get l k.0) r.whole) ∙ k.1))
    where
      split : (i : ℕ) → slice_get (of_pass n 0 history) i ≡ Some (p, (t, op))
          → (slice_get r.entries i ≡ Some (p, (t, op))) ⊎ ((j : ℕ) × (slice_get r.tail j ≡ Some (p, (t, op))))
          → DeedAt p n t op deeds
      split i own (inl e) =
          let z = zip_other (CameTo (says history)) deeds r.entries i (p, (t, op)) r.each e in
          record {
            index = i;
            out = z.0.1;
            done = z.1 ∙ ap (λ (o : MemOp). Some (o, z.0.1)) (sym z.2.0);
            told = z.2.1;
            own = own;
          }
      split i own (inr e) = absurd (goes_on (all_at (λ (x : ℕ × (ℕ × MemOp)). x.1.1 ≡ Stop) r.tail e.0 (p, (t, op)) r.stops e.1))

-- a pass that did these from nothing on, and was seen then, at the end of its port
pub ran_of : (end : EndValue MemOp (Unit {0}) HeapId) (n : ℕ) (deeds : List Deed) (p q : MemSide) (pass : MemPass)
    (tail : List (ℕ × (ℕ × MemOp))) → DoesEach deeds p q → p.submitted ≡ [] → pass.number ≡ n
    → pass.submitted ≡ q.submitted ++ tail → Behind (known_by pass) q.known
    → AllByRecursion (λ (e : ℕ × (ℕ × MemOp)). e.1.1 ≡ Stop) tail
    → pass.submitted ≡ of_pass pass.number 0 end.history → Behind (known_at end) (known_by pass)
    → end.heard ≡ says end.history → Ran end.history n deeds
ran_of end n deeds p q pass tail did none number said knew stops own behind heard =
    let m = made deeds p q did in
    let b = behind_on (known_at end) (known_by pass) q.known behind knew in
    record {
      entries = m.entries;
      tail = tail;
      whole = sym (ap (λ (k : ℕ). of_pass k 0 end.history) number) ∙ sym own ∙ said
          ∙ ap (λ (l : List (ℕ × (ℕ × MemOp))). l ++ tail) (m.submitted ∙ ap (λ (l : List (ℕ × (ℕ × MemOp))). l ++ m.entries) none);
      each = zip_more (CameTo q.known.heard) (CameTo (says end.history)) deeds m.entries (λ d e h. (h.0, result_later (says end.history) q.known.heard e.0 d.1 (subst (λ (l : List MemOp). StartsWith l q.known.heard) heard b.heard) h.1)) m.each;
      stops = stops;
    }

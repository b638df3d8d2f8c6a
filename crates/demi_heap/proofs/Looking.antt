-- A seat that looks at one slot after another.
use Rattle.std.proofs.Common.{◌≡◌, ℕ, suc, ◌+◌, ◌-◌, ◌<◌, ◌≤◌, List, [], ◌∷◌, ◌++◌, length, sym, refl, ap, ◌∙◌, subst, arith}
use mathlib.Core.Logic.{dite}
use mathlib.Core.Option.{some}
use native.Mathlib.Decide.{ℕ_discrete, dec_le}
use lib.ListN.{get_elem?}
use Rattle.std.proofs.lemmas.List.{append_assoc, length-append}
use Rattle.atomic_table.proofs.Lists.{at_longer}
use Rattle.demi_buf.specs.Bufs.{BufValue}
use Rattle.demi_heap_core.specs.declared.view.View.{View}
use Rattle.demi_heap_core.specs.Steps.{view_claimed, view_missed}
use Rattle.std.specs.Prelude.{Option, Some, None, MatchOption}
use Rattle.demi_heap.specs.Seen.{Looked, LookedOver, WentRound, looking_as}

abbrev V : Type 0
V = View BufValue

abbrev Looks : Type 0
Looks = List (ℕ × ℕ)

-- what stands in a list stands in a longer one that ends with it
at_behind : (more : Looks) (old : Looks) (q : ℕ) (x : ℕ × ℕ) → get_elem? old q ≡ some x → (p : ℕ) × (get_elem? (more ++ old) p ≡ some x)
at_behind [] old q x here = (q, here)
at_behind (m ∷ more) old q x here = let rest = at_behind more old q x here in (suc rest.0, rest.1)

-- the looks of a call lie in all looks of the pass
pub looked_over : (c a b : ℕ) (old new : Looks) → LookedOver c a b old new → Looked c a b new
looked_over c a b old new over = record {
  at = λ k low high. let x = over.all.at k low high in (x.0, x.1, x.2, subst (λ (l : Looks). get_elem? l x.1 ≡ some (x.0, k)) (sym over.grown) (at_longer over.more old x.1 (x.0, k) x.3));
}

-- it found that the next slot has an owner
pub looks_on : (v l n : V) (a k t : ℕ) → l ≡ looking_as v l → v.clock ≤ l.clock → a ≤ k → LookedOver v.clock a k v.missed l.missed → l.clock ≤ t → n ≡ view_missed l t k
    → (n ≡ looking_as v n) × (v.clock ≤ n.clock) × LookedOver v.clock a (k + 1) v.missed n.missed
looks_on v l n a k t before grown near seen late is = let clock : n.clock ≡ t + 1 = ap (λ (z : V). z.clock) is in let looks : n.missed ≡ (t, k) ∷ l.missed = ap (λ (z : V). z.missed) is in
    let once : length seen.more ≡ k - a = seen.once in (
      is ∙ (ap (λ (z : V). view_missed z t k) before ∙ sym (ap (looking_as v) is)),
      omega arith,
      record {
        more = (t, k) ∷ seen.more;
        grown = looks ∙ ap (λ (ms : Looks). (t, k) ∷ ms) seen.grown;
        once = let counted : length ((t, k) ∷ seen.more) ≡ suc (length seen.more) = refl in omega arith;
        all = record {
          at = λ j low high. dite (ℕ_discrete j k)
              (λ here. (t, 0, omega arith, ap (λ (x : ℕ). some (t, x)) (sym here)))
              (λ ne. let old = seen.all.at j low (omega arith) in (old.0, suc old.1, old.2, old.3));
        };
      },
    )

-- it won the next slot
pub looks_won : (v l n : V) (k : ℕ) → l ≡ looking_as v l → n ≡ view_claimed l k → (n ≡ view_claimed (looking_as v n) k) × (looking_as v l ≡ looking_as v n)
looks_won v l n k before is = let same : looking_as v l ≡ looking_as v n = sym (ap (looking_as v) is) in
    (is ∙ (ap (λ (z : V). view_claimed z k) before ∙ ap (λ (z : V). view_claimed z k) same), same)

-- a look is no earlier than an earlier clock
pub since_before : (c d a b : ℕ) (old new : Looks) → c ≤ d → LookedOver d a b old new → LookedOver c a b old new
since_before c d a b old new less over = record {
  more = over.more;
  grown = over.grown;
  once = over.once;
  all = record { at = λ k low high. let x = over.all.at k low high in let late : d ≤ x.0 = x.2 in (x.0, x.1, omega arith, x.3) };
}

-- it looked from s on to the end, and then from the first on as far as s
pub whole_round : (c a s b : ℕ) (old mid new : Looks) → a ≤ s → s ≤ b → LookedOver c s b old mid → LookedOver c a s mid new → LookedOver c a b old new
whole_round c a s b old mid new low high ahead behind = let x : length ahead.more ≡ b - s = ahead.once in let y : length behind.more ≡ s - a = behind.once in
    let n : length (behind.more ++ ahead.more) ≡ length behind.more + length ahead.more = length-append behind.more ahead.more in record {
      more = behind.more ++ ahead.more;
      grown = behind.grown ∙ (ap (λ (l : Looks). behind.more ++ l) ahead.grown ∙ sym (append_assoc behind.more ahead.more old));
      once = omega arith;
      all = record {
        at = λ k from to. dite (dec_le s k)
            (λ there. let f = ahead.all.at k there to in let p = at_behind behind.more ahead.more f.1 (f.0, k) f.3 in (f.0, p.0, f.2, p.1))
            (λ before. let f = behind.all.at k from (omega arith) in (f.0, f.1, f.2, at_longer behind.more ahead.more f.1 (f.0, k) f.3));
      };
    }

-- The same, where the second part may have won a slot
pub round_looks : (c d a s b : ℕ) (old mid new : Looks) (o : Option ℕ) (X : Type 0) (P : ℕ → Type 0) → a ≤ s → s ≤ b → (a < b → s < b) → c ≤ d → LookedOver c s b old mid
    → MatchOption o (LookedOver d a s mid new) (λ r. LookedOver d a r mid new) → MatchOption o X (λ r. (a ≤ r) × (r < s) × P r)
    → MatchOption o (LookedOver c a b old new) (λ r. WentRound c a b r old new)
round_looks c d a s b old mid new None X P low high inside less ahead looks won = whole_round c a s b old mid new low high ahead (since_before c d a s mid new less looks)
round_looks c d a s b old mid new (Some r) X P low high inside less ahead looks won = let from : a ≤ r = won.0 in let to : r < s = won.1 in record {
  start = s;
  in_class = (low, inside (omega arith));
  ahead = λ there. absurd (omega arith);
  behind = λ _. (mid, ahead, since_before c d a r mid new less looks);
}

-- A heap's last state.
use Rattle.std.proofs.Common.{◌≡◌, ℕ, zero, suc, ◌<◌, List, [], ◌∷◌, length, get_or, sym, subst, arith}
use mathlib.Core.Option.{some, some-injective, some-ne-none}
use lib.ListN.{get_elem?}
use Rattle.std.specs.Prelude.{Option, Some}
use Rattle.atomic_table.specs.Table.{Final, Seen}
use Rattle.demi_buf.specs.Bufs.{BufValue}
use Rattle.demi_heap_core.specs.declared.shape.Shape.{Shape}
use Rattle.demi_heap_core.specs.declared.view.View.{View}
use Rattle.demi_heap_core.proofs.Schedules.{one_owner}
use Rattle.demi_heap.specs.Rule.{Fits, HeapRule, shown}
use Rattle.demi_heap.specs.Laid.{IsHome}

at_or : (l : List ℕ) (i x : ℕ) → get_elem? l i ≡ some x → (i < length l) × (get_or l i 0 ≡ x)
at_or [] i x q = absurd (some-ne-none x (sym q))
at_or (y ∷ ys) zero x q = (omega arith, some-injective y x q)
at_or (y ∷ ys) (suc i) x q = let t = at_or ys i x q in let t₀ = t.0 in (omega arith, t.1)

-- where a word is 0, the buffer of its slot is there
pub homes : (h : Shape) (id : ℕ) (v : View BufValue) (words : List ℕ) (row : List (Option BufValue)) → Final (Seen (HeapRule h) id v) words row → IsHome words row h.blocks
homes h id v words row final = let s = final.0 in let rule = one_owner (Fits h) h (shown final.1.0.0 s) final.1.0.1 in record {
  at = λ k free. let got = at_or s.words k 0 (subst (λ (ws : List ℕ). get_elem? ws k ≡ some 0) (sym final.2) free) in let near = got.0 in let zero_word = got.1 in let wide = rule.wide in
      let ok = rule.each_slot k (omega arith) in let shows = ok.shows in let home = ok.at_home (omega arith) in
      (home.0, final.4 k (Some home.0) home.1, home.2.lies);
}

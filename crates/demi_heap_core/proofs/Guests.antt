-- A half that goes off from its seat, and one that is the guest of another seat.
use Rattle.std.proofs.Common.{◌≡◌, ℕ, ◌+◌, ◌<◌, List, [], ◌∷◌, ◌++◌, set, sym, refl, ap, ◌∙◌, subst, arith}
use mathlib.Core.Logic.{dite}
use mathlib.Core.Option.{some}
use native.Mathlib.Decide.{dec_le}
use lib.ListN.{get_elem?}
use Rattle.demi_heap_core.specs.declared.shape.Shape.{Shape}
use Rattle.demi_heap_core.specs.declared.view.Halves.{Halves}
use Rattle.demi_heap_core.specs.declared.view.Halves.TheVariants.{Neither}
use Rattle.demi_heap_core.specs.declared.view.View.{View}
use Rattle.demi_heap_core.specs.Owner.{soles, lents, devices, here, slots, at, Homes, Owned}
use Rattle.demi_heap_core.specs.Steps.{part_of, part_alone, bare, with_half, with_guest, without_guest, spent}
use Rattle.demi_heap_core.specs.Schedule.{LieApart}
use Rattle.demi_heap_core.proofs.Sums.{here_zero, part-le-total}
use Rattle.demi_heap_core.proofs.Moves.{at_here, guest_none, guest_here}
use Rattle.demi_heap_core.proofs.Cuts.{cuts, joins, none_ok, spent_ok}

module _ {B : Type 0} (good : ℕ → B → Type 0) (shape : Shape) where
  abbrev V : Type 0
  V = View B

  abbrev Rule : List ℕ → Homes B → List V → Type 0
  Rule = Owned good shape

  -- a half goes off from its seat
  pub parts_bare : (id : ℕ) (v : V) (words : List ℕ) (homes : Homes B) (views : List V) → Rule words homes views → get_elem? views id ≡ some v → Rule words homes (set views id (bare v) ++ part_alone v.shape (part_of v) ∷ [])
  parts_bare id v = cuts good shape id v (bare v) (part_alone v.shape (part_of v))
      (omega arith, omega arith, omega arith, omega arith, omega arith, (λ k. let z = here_zero k v.slot in let n = here_zero k 0 in omega arith), (λ k. let z = here_zero k v.slot in let n = here_zero k 0 in omega arith), λ k. let z = here_zero k v.slot in let n = here_zero k 0 in omega arith)
      (λ lent_of ok. (
        record { same_shape = λ q. ok.same_shape (omega arith); inside = λ q. absurd (omega arith); silent = ok.silent; knows = λ q. absurd (omega arith); guest = ok.guest },
        record { same_shape = λ q. ok.same_shape (omega arith); inside = ok.inside; silent = λ _. (refl, refl, refl, refl); knows = ok.knows; guest = none_ok good shape lent_of v.shape },
      ))

  -- a guest goes off
  pub parts_guest : (id : ℕ) (v : V) (words : List ℕ) (homes : Homes B) (views : List V) → Rule words homes views → get_elem? views id ≡ some v → Rule words homes (set views id (without_guest v) ++ part_alone v.shape v.guest ∷ [])
  parts_guest id v = cuts good shape id v (without_guest v) (part_alone v.shape v.guest)
      (omega arith, omega arith, omega arith, omega arith, omega arith, (λ k. let n = here_zero k 0 in omega arith), (λ k. let n = here_zero k 0 in omega arith), λ k. let n = here_zero k 0 in omega arith)
      (λ lent_of ok. let g = ok.guest in (
        record { same_shape = ok.same_shape; inside = ok.inside; silent = ok.silent; knows = ok.knows; guest = none_ok good shape lent_of v.shape },
        record { same_shape = λ q. g.same_shape (omega arith); inside = g.inside; silent = λ _. (refl, refl, refl, refl); knows = g.knows; guest = none_ok good shape lent_of v.shape },
      ))

  -- what a seat with no pass and no guest adds to the sums
  quiet : (words : List ℕ) (homes : Homes B) (views : List V) → Rule words homes views → (other : ℕ) (w : V) → get_elem? views other ≡ some w → w.passes ≡ 0 → (w.claimed ≡ 0) × (w.ended ≡ 0) × (w.loaned ≡ 0) × (w.returned ≡ 0)
  quiet words homes views r other w at_other silent = (r.each_view other w at_other).silent silent

  -- a seat takes in a guest
  pub takes_guest : (id other : ℕ) (v w : V) → v.guest.halves ≡ Neither → w.shape ≡ v.shape → w.passes ≡ 0 → w.guest.halves ≡ Neither → (words : List ℕ) (homes : Homes B) (views : List V) → Rule words homes views → get_elem? views id ≡ some v → ¬ (other ≡ id)
      → get_elem? views other ≡ some w → get_elem? (set views id (with_guest v w)) other ≡ some w → Rule words homes (set (set views id (with_guest v w)) other spent)
  takes_guest id other v w free same silent alone words homes views r at_id ne at_w at_other = let z = quiet words homes views r other w at_w silent in let z₀ = z.0 in let z₁ = z.1 in let z₂ = z.2 in let z₃ = z.3 in
      joins good shape id other v w (with_guest v w) spent (
        omega arith,
        omega arith,
        omega arith,
        omega arith,
        omega arith,
        (λ k. let n = here_zero k 0 in let a = guest_none soles k v refl free in let b = guest_none soles k w refl alone in omega arith),
        (λ k. let n = here_zero k 0 in let a = guest_none lents k v refl free in let b = guest_none lents k w refl alone in omega arith),
        λ k. let n = here_zero k 0 in let a = guest_none devices k v refl free in let b = guest_none devices k w refl alone in omega arith,
      )
      (λ lent_of ok okw. (
        record { same_shape = ok.same_shape; inside = ok.inside; silent = ok.silent; knows = ok.knows; guest = record { same_shape = λ q. sym same ∙ okw.same_shape (omega arith); inside = okw.inside; knows = okw.knows } },
        spent_ok good shape lent_of,
      ))
      words homes views r at_id ne at_other

  -- a half comes back to its seat
  pub takes_bare : (id other : ℕ) (v w : V) → v.halves ≡ Neither → w.shape ≡ v.shape → w.slot ≡ v.slot → w.lent ≡ v.lent → w.passes ≡ 0 → w.guest.halves ≡ Neither → (words : List ℕ) (homes : Homes B) (views : List V) → Rule words homes views → get_elem? views id ≡ some v → ¬ (other ≡ id)
      → get_elem? views other ≡ some w → get_elem? (set views id (with_half v w)) other ≡ some w → Rule words homes (set (set views id (with_half v w)) other spent)
  takes_bare id other v w none same slot lent silent alone words homes views r at_id ne at_w at_other = let z = quiet words homes views r other w at_w silent in let z₀ = z.0 in let z₁ = z.1 in let z₂ = z.2 in let z₃ = z.3 in
      joins good shape id other v w (with_half v w) spent (
        omega arith,
        omega arith,
        omega arith,
        omega arith,
        omega arith,
        (λ k. moves k soles refl),
        (λ k. moves k lents refl),
        λ k. moves k devices refl,
      )
      (λ lent_of ok okw. (
        record {
          same_shape = λ q. dite (dec_le 1 (soles w.halves + lents w.halves + devices w.halves)) (λ some_half. sym same ∙ okw.same_shape (omega arith)) (λ no_half. ok.same_shape (omega arith));
          inside = λ q. subst (λ (n : ℕ). n < slots shape) slot (okw.inside q);
          silent = ok.silent;
          knows = λ q. sym lent ∙ (okw.knows q ∙ ap lent_of slot);
          guest = ok.guest;
        },
        spent_ok good shape lent_of,
      ))
      words homes views r at_id ne at_other
    where
      moves : (k : ℕ) (f : Halves → ℕ) → f Neither ≡ 0 → at f k (with_half v w) + at f k (spent {B = B}) ≡ at f k v + at f k w
      moves k f zero_of = let n : at f k (spent {B = B}) ≡ 0 = ap (λ (m : ℕ). here k 0 m + here k 0 m) zero_of ∙ (let m = here_zero k 0 in omega arith) in let g = guest_none f k w zero_of alone in
          let a : here k v.slot (f v.halves) ≡ 0 = ap (λ (m : ℕ). here k v.slot m) (ap f none ∙ zero_of) ∙ here_zero k v.slot in let b : here k w.slot (f w.halves) ≡ here k v.slot (f w.halves) = ap (λ (i : ℕ). here k i (f w.halves)) slot in omega arith

  -- the half of a seat and its guest lie in different slots
  pub lie_apart : (words : List ℕ) (homes : Homes B) (views : List V) → Rule words homes views → (id : ℕ) (v : V) → get_elem? views id ≡ some v → LieApart v
  lie_apart words homes views r id v at_id = record {
    applications = λ mine other same. let k : ℕ = v.slot in let near : k < slots shape = (r.each_view id v at_id).inside (omega arith) in let ok = r.each_slot k near in let one = ok.one_application in
        let s = part-le-total (at soles k) views id v at_id in let l = part-le-total (at lents k) views id v at_id in
        let s₀ = at_here soles k v v.halves refl refl in let l₀ = at_here lents k v v.halves refl refl in
        let s₁ = guest_here soles k v (sym same) in let l₁ = guest_here lents k v (sym same) in omega arith;
    on_devices = λ mine other same. let k : ℕ = v.slot in let near : k < slots shape = (r.each_view id v at_id).inside (omega arith) in let ok = r.each_slot k near in let one = ok.one_holder in
        let d = part-le-total (at devices k) views id v at_id in let d₀ = at_here devices k v v.halves refl refl in let d₁ = guest_here devices k v (sym same) in omega arith;
  }

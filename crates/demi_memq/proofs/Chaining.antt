-- Chains of nodes, one step further.
use Rattle.std.proofs.Common.{◌≡◌, ◌≢◌, ℕ, zero, suc, ◌+◌, ◌<◌, ◌≤◌, List, [], ◌∷◌, ◌++◌, length, set, get_or, map, Option, Some, None, cond, true, false, refl, sym, ap, ◌∙◌, arith, subst, length-append, get_or-set_same, get_or-set_other}
use Rattle.std.specs.Prelude.{◌==◌}
use Rattle.std.proofs.lemmas.List.{map-append}
use Rattle.demi_port_core.specs.History.{Each}
use Rattle.demi_memq.specs.Chains.{ChainsValue, AllFree, AllEmpty, ChainsHold}
use Rattle.demi_memq.specs.Counting.{beside}
use Rattle.demi_memq.specs.Rooms.{rest}
use Rattle.demi_memq.proofs.Lists.{by_test, by_number, beside_same, beside_other, rest_same, rest_other, rest_length}

get_beyond : {A : Type 0} (l : List A) (d : A) (q : ℕ) → length l ≤ q → get_or l q d ≡ d
get_beyond [] d q le = refl
get_beyond (x ∷ xs) d zero le = absurd (omega arith)
get_beyond (x ∷ xs) d (suc q) le = get_beyond xs d q (omega arith)

module _ {X : Type 0} where
  pub empty_at : (ls : List (List X)) (q : ℕ) → AllEmpty ls → get_or ls q [] ≡ []
  empty_at [] q e = refl
  empty_at (l ∷ ls) zero e = e.0
  empty_at (l ∷ ls) (suc q) e = empty_at ls q e.1

  pub all_empty : (ls : List (List X)) → ((q : ℕ) → get_or ls q [] ≡ []) → AllEmpty ls
  all_empty [] f = tt
  all_empty (l ∷ ls) f = (f 0, all_empty ls (λ q. f (suc q)))

  pub empty_front : (l r : List (List X)) → AllEmpty (l ++ r) → AllEmpty l
  empty_front [] r e = tt
  empty_front (x ∷ xs) r e = (e.0, empty_front xs r e.1)

  pub empty_last : (l : List (List X)) (x : List X) → AllEmpty (l ++ x ∷ []) → x ≡ []
  empty_last [] x e = e.0
  empty_last (y ∷ ys) x e = empty_last ys x e.1

  pub empty_more : (l : List (List X)) (x : List X) → AllEmpty l → x ≡ [] → AllEmpty (l ++ x ∷ [])
  empty_more [] x e is = (is, tt)
  empty_more (y ∷ ys) x e is = (e.0, empty_more ys x e.1 is)

  pub free_more : (l : List (Option X)) → AllFree l → AllFree (l ++ None ∷ [])
  free_more [] e = (refl, tt)
  free_more (y ∷ ys) e = (e.0, free_more ys e.1)

  pub few_beside : (q : ℕ) (items : List (ℕ × X)) → length (beside q items) ≤ length items
  few_beside q [] = omega arith
  few_beside q (e ∷ es) = let h = few_beside q es in by_test (λ b. length (cond b (e.1 ∷ beside q es) (beside q es)) ≤ length (e ∷ es)) (e.0 == q) (λ _. omega arith) (λ _. omega arith)

  length_some : (l : List X) → length (map {B = Option X} Some l) ≡ length l
  length_some [] = refl
  length_some (x ∷ xs) = ap suc (length_some xs)

  pub few_held : (q : ℕ) (items : List (ℕ × X)) (chains : List (List (Option X))) → ChainsHold items chains → length (get_or chains q []) ≤ length items
  few_held q items chains h = let a = ap length (h q) in let b = length_some (beside q items) in let c = few_beside q items in omega arith

  pub holds_push : (q : ℕ) (x : X) (items : List (ℕ × X)) (chains : List (List (Option X))) (chain : List (Option X))
      → ChainsHold items chains → q < length chains → chain ≡ get_or chains q [] ++ Some x ∷ [] → ChainsHold (items ++ (q, x) ∷ []) (set chains q chain)
  holds_push q x items chains chain h lt is = λ j.
      by_number (λ j. get_or (set chains q chain) j [] ≡ map Some (beside j (items ++ (q, x) ∷ []))) q j
      (get_or-set_same chains q chain [] lt ∙ is ∙ ap (λ l. l ++ Some x ∷ []) (h q) ∙ sym (map-append Some (beside q items) (x ∷ [])) ∙ ap (map Some) (sym (beside_same q x items)))
      (λ ne. get_or-set_other chains q j chain [] (λ e. ne (sym e)) ∙ h j ∙ ap (map Some) (sym (beside_other q j x items ne)))

  first_held : (b : List X) (o : Option X) (r : List (Option X)) → o ∷ r ≡ map Some b → (x : X) × (s : List X) × (b ≡ x ∷ s) × (o ≡ Some x) × (r ≡ map Some s)
  first_held [] o r e = absurd (cc)
  first_held (x ∷ s) o r e = (x, s, refl, cc, cc)

  -- o has the first item of the queue q, and without it the items are held where r is what is left of the queue's chain
  abbrev pub Popped : ℕ → Option X → List (Option X) → List (ℕ × X) → List (List (Option X)) → Type 0
  Popped q o r items chains =
      (x : X) × (o ≡ Some x) × (beside q items ≡ x ∷ beside q (rest q items)) × (length (rest q items) + 1 ≡ length items) × ChainsHold (rest q items) (set chains q r)

  -- the first node of a queue has the first item of it, and the others have the rest
  pub holds_pop : (q : ℕ) (o : Option X) (r : List (Option X)) (items : List (ℕ × X)) (chains : List (List (Option X)))
      → ChainsHold items chains → q < length chains → get_or chains q [] ≡ o ∷ r → Popped q o r items chains
  holds_pop q o r items chains h lt is =
      let f = first_held (beside q items) o r (sym is ∙ h q) in let same = rest_same q f.0 f.1 items f.2 in (
        f.0,
        f.3,
        f.2 ∙ ap (λ l. f.0 ∷ l) (sym same),
        rest_length q f.0 f.1 items f.2,
        λ j.
            by_number (λ j. get_or (set chains q r) j [] ≡ map Some (beside j (rest q items))) q j
            (get_or-set_same chains q r [] lt ∙ f.4 ∙ ap (map Some) (sym same))
            (λ ne. get_or-set_other chains q j r [] (λ e. ne (sym e)) ∙ h j ∙ ap (map Some) (sym (rest_other q j items ne))),
      )

  pub none_first : (q : ℕ) (items : List (ℕ × X)) (chains : List (List (Option X))) → ChainsHold items chains → get_or chains q [] ≡ [] → beside q items ≡ []
  none_first q items chains h is = none_if (beside q items) (sym (h q) ∙ is)
    where
      none_if : (b : List X) → map {B = Option X} Some b ≡ [] → b ≡ []
      none_if [] e = refl
      none_if (x ∷ xs) e = absurd (cc)

  -- the node that was cut off has no item, nor have those behind it
  pub free_cut : (o : Option X) (node l l' : List (Option X)) → l ≡ node ++ l' → node ≡ o ∷ [] → AllFree l → (o ≡ None) × AllFree l'
  free_cut o node l l' e is free = subst AllFree (e ∙ ap (λ n. n ++ l') is) free

module _ {X : Type 0} where
  -- an empty order is held by empty chains
  pub holds_none : (chains : List (List (Option X))) → AllEmpty chains → ChainsHold [] chains
  holds_none chains e = λ q. empty_at chains q e

  pub none_held : (items : List (ℕ × X)) (chains : List (List (Option X))) → ChainsHold items chains → items ≡ [] → AllEmpty chains
  none_held items chains h e = all_empty chains (λ q. h q ∙ ap (λ l. map Some (beside q l)) e)

  -- nothing waits beside a number that is no queue's
  pub none_beyond : (q : ℕ) (items : List (ℕ × X)) (chains : List (List (Option X))) → ChainsHold items chains → length chains ≤ q → beside q items ≡ []
  none_beyond q items chains h le = none_first q items chains h (get_beyond chains [] q le)

-- What the entries of a closed port say of the one pass that did something there.
use Rattle.std.proofs.Common.{◌≡◌, ◌≢◌, ℕ, zero, suc, ◌+◌, ◌≤◌, ◌⊎◌, Bool, true, false, List, [], ◌∷◌, ◌++◌, Some, map, refl, arith, ◌∙◌, ap, sym, subst, cond, inl, inr, append_assoc}
use Rattle.std.specs.Prelude.{slice_get, ◌==◌}
use Rattle.std.specs.List.{AllByRecursion}
use Rattle.std.proofs.lemmas.Bool.Decides.{nat_tests}
use Rattle.demi_port.specs.Seen.{DeviceValue, EndValue, PassValue, PortId, known_at, known_by, says}
use Rattle.demi_port_core.specs.History.{Among, AnyOf, Each, of_pass}
use Rattle.demi_port_core.specs.Trails.{Behind, NoneBelow}
use Rattle.demi_port_core.specs.declared.trail.Trail.{Trail}
use Rattle.demi_link.specs.Fitting.{ops_of, places}
use Rattle.demi_link.specs.Sights.{Side}
use Rattle.demi_pdpix.specs.Lanes.{IsEndOf}
use Rattle.demi_served.proofs.Entries.{all_of_pass, get_elem}
use Rattle.demi_closed.specs.Closed.{Added, OnlyBy}

none_below_more : {T : Type 0} (p q : ℕ) (xs ys : List (ℕ × T)) → p ≤ q → NoneBelow p xs → NoneBelow q ys → NoneBelow p (xs ++ ys)
none_below_more p q [] [] l x y = tt
none_below_more p q [] (b ∷ ys) l x y = (let m = y.0 in omega arith, none_below_more p q [] ys l tt y.1)
none_below_more p q (a ∷ xs) ys l x y = (x.0, none_below_more p q xs ys l x.1 y)

pub behind_on : {D T : Type 0} (w d v : Trail D T) → Behind w d → Behind d v → Behind w v
behind_on w d v a b = record {
  heard = (b.heard.0 ++ a.heard.0, a.heard.1 ∙ ap (λ l. l ++ a.heard.0) b.heard.1 ∙ append_assoc v.heard b.heard.0 a.heard.0);
  told = (b.told.0 ++ a.told.0, a.told.1 ∙ ap (λ l. l ++ a.told.0) b.told.1 ∙ append_assoc v.told b.told.0 a.told.0, none_below_more v.floor d.floor b.told.0 a.told.0 b.floor b.told.2 a.told.2);
  floor = let x = a.floor in let y = b.floor in omega arith;
}

-- what a map has at a place it has of what stands there
pub map_at : {X Y : Type 0} (f : X → Y) (xs : List X) (i : ℕ) (y : Y) → slice_get (map f xs) i ≡ Some y → (x : X) × (slice_get xs i ≡ Some x) × (f x ≡ y)
map_at f [] i y h = absurd (cc)
map_at f (x ∷ xs) zero y h = (x, refl, some_is h)
  where
    some_is : {A : Type 0} {a b : A} → Some a ≡ Some b → a ≡ b
    some_is e = cc
map_at f (x ∷ xs) (suc i) y h = map_at f xs i y h

each_among : {X : Type 0} (xs ys : List X) → ((x : X) → Among x xs → Among x ys) → AllByRecursion (λ x. Among x ys) xs
each_among [] ys f = tt
each_among (x ∷ xs) ys f = (f x (inl refl), each_among xs ys (λ y a. f y (inr a)))

-- an entry is an operation of its pass
pub in_pass : {D : Type 0} (history : List (ℕ × D)) (i : ℕ) (e : ℕ × D) → slice_get history i ≡ Some e → Among (i, e.1) (of_pass e.0 0 history)
in_pass {D} history i e at = let zero_more : 0 + i ≡ i = omega arith in subst (λ (k : ℕ). Among (k, e.1) (of_pass e.0 0 history)) zero_more (all_of_pass (λ (y : ℕ × D). Among y (of_pass e.0 0 history)) e.0 0 history i e (each_among (of_pass e.0 0 history) (of_pass e.0 0 history) (λ x a. a)) at refl)

pub each_one : {X : Type 0} (P : X → Type 0) (xs : List X) (x : X) → Each P xs → Among x xs → P x
each_one P [] x h a = absurd a
each_one P (y ∷ xs) x h (inl e) = subst P (sym e) h.0
each_one P (y ∷ xs) x h (inr a) = each_one P xs x h.1 a

-- of a list one of which is so, that one
found_one : {X : Type 0} (P : X → Type 0) (xs : List X) → AnyOf P xs → (x : X) × Among x xs × P x
found_one P [] h = absurd h
found_one P (y ∷ xs) (inl p) = (y, inl refl, p)
found_one P (y ∷ xs) (inr h) = let r = found_one P xs h in (r.0, inr r.1, r.2)

none_in : {X : Type 0} (x : X) (xs : List X) → xs ≡ [] → Among x xs → ⊥
none_in x [] e a = a
none_in x (y ∷ xs) e a = absurd (cc)

in_front : {X : Type 0} (x l : X) (xs : List X) → Among x (xs ++ l ∷ []) → Among x xs ⊎ (x ≡ l)
in_front x l [] (inl e) = inr e
in_front x l [] (inr a) = absurd a
in_front x l (y ∷ xs) (inl e) = inl (inl e)
in_front x l (y ∷ xs) (inr a) = elim (in_front x l xs a) [ inl b ↦ inl (inr b) | inr e ↦ inr e ]

pub placed_of : {X : Type 0} (q : ℕ) (x : X) (xs : List (ℕ × X)) → Among (q, x) xs → Among q (places xs)
placed_of q x [] a = a
placed_of {X} q x (y ∷ xs) (inl e) = inl (ap (λ (z : ℕ × X). z.0) e)
placed_of q x (y ∷ xs) (inr a) = inr (placed_of q x xs a)

module _ {D T B : Type 0} (id : PortId B) (seat : DeviceValue D T B) (passes : List (PassValue D T B)) (end : EndValue D T B) (ends : IsEndOf id seat passes end)
    (n : ℕ) (only : OnlyBy n seat passes) where
  -- each entry is of the pass that did something
  pub by_it : (i : ℕ) (e : ℕ × (ℕ × D)) → slice_get end.history i ≡ Some e → e.0 ≡ n
  by_it i e at = go (e.0 == n) refl
    where
      go : (c : Bool) → (e.0 == n) ≡ c → e.0 ≡ n
      go true t = grind (arith, nat_tests)
      go false t =
          let low = ends.entries i e (get_elem end.history i e at) in
          let one = found_one (λ (p : PassValue D T B). p.number ≡ e.0) passes (only.all e.0 low) in
          let differs : one.0.number ≢ n = λ s. absurd (let u = one.2 in grind (arith, nat_tests)) in
          let empty = each_one (λ (p : PassValue D T B). p.number ≢ n → p.submitted ≡ []) passes one.0 only.others one.1 differs in
          let mine = each_one (λ (p : PassValue D T B). p.submitted ≡ of_pass p.number 0 end.history) passes one.0 ends.passes_of one.1 in
          let none : of_pass e.0 0 end.history ≡ [] = ap (λ m. of_pass m 0 end.history) (sym one.2) ∙ sym mine ∙ empty in
          absurd (none_in (i, e.1) (of_pass e.0 0 end.history) none (in_pass end.history i e at))

  -- what a history says is what its one pass submitted
  says_from : (history : List (ℕ × (ℕ × D))) (place : ℕ) → ((i : ℕ) (e : ℕ × (ℕ × D)) → slice_get history i ≡ Some e → e.0 ≡ n) → ops_of (of_pass n place history) ≡ says history
  says_from [] place h = refl
  says_from (e ∷ history) place h =
      let number = h 0 e refl in
      let test : (e.0 == n) ≡ true = grind (arith, nat_tests) in
      ap (λ (c : Bool). ops_of (cond c ((place, e.1) ∷ of_pass n (place + 1) history) (of_pass n (place + 1) history))) test
      ∙ ap (λ (l : List D). e.1.1 ∷ l) (says_from history (place + 1) (λ p x at. h (suc p) x at))

  module _ (p : PassValue D T B) (number : p.number ≡ n) (here : Among p passes) where
    mine : p.submitted ≡ of_pass n 0 end.history
    mine = each_one (λ (q : PassValue D T B). q.submitted ≡ of_pass q.number 0 end.history) passes p ends.passes_of here ∙ ap (λ m. of_pass m 0 end.history) number

    pub says_all : ops_of p.submitted ≡ end.heard
    says_all = ap (λ (l : List (ℕ × (ℕ × D))). ops_of l) mine ∙ says_from end.history 0 by_it ∙ sym ends.heard

    pub knew : Behind (known_at end) (known_by p)
    knew = each_one (λ (q : PassValue D T B). Behind (known_at end) (known_by q)) passes p ends.behind here

    module _ (said : D) (before : Side D T) (added : Added said before p) where
      -- each operation that says something else was submitted before
      pub submitted_before : (i : ℕ) (d : D) → slice_get end.heard i ≡ Some d → d ≢ said → Among i (places before.submitted)
      submitted_before i d at other =
          let there = map_at (λ (e : ℕ × (ℕ × D)). e.1.1) end.history i d (sym (ap (λ (l : List D). slice_get l i) ends.heard) ∙ at) in
          let e = there.0 in
          let in_all : Among (i, e.1) p.submitted = subst (Among (i, e.1)) (sym mine) (subst (λ m. Among (i, e.1) (of_pass m 0 end.history)) (by_it i e there.1) (in_pass end.history i e there.1)) in
          elim (in_front (i, e.1) (added.place, (added.token, said)) before.submitted (subst (Among (i, e.1)) added.submitted in_all)) [
            | inl a ↦ placed_of i e.1 before.submitted a
            | inr s ↦ absurd (other (sym there.2 ∙ ap (λ (z : ℕ × (ℕ × D)). z.1.1) s))
          ]

      ops_more : (xs : List (ℕ × (ℕ × D))) (x : ℕ × (ℕ × D)) → ops_of (xs ++ x ∷ []) ≡ ops_of xs ++ x.1.1 ∷ []
      ops_more [] x = refl
      ops_more (y ∷ xs) x = ap (λ (l : List D). y.1.1 ∷ l) (ops_more xs x)

      pub heard_is : end.heard ≡ ops_of before.submitted ++ said ∷ []
      heard_is = sym says_all ∙ ap (λ (l : List (ℕ × (ℕ × D))). ops_of l) added.submitted ∙ ops_more before.submitted (added.place, (added.token, said))

      pub knew_before : Behind (known_at end) before.known
      knew_before = behind_on (known_at end) (known_by p) before.known knew added.grows

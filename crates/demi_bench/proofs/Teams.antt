-- Passes that go to teams from the last one on, and come back.
use Rattle.std.proofs.Common.{◌≡◌, ℕ, suc, ◌+◌, ◌<◌, ◌⊎◌, ⊎_elim, inl, inr, List, [], ◌∷◌, ◌++◌, length, reverse, append_assoc, refl, ap, sym, subst, ◌∙◌, arith}
use Rattle.std.proofs.lemmas.List.{reverse-append}
use Rattle.demi_port.specs.Seen.{PassValue, PortId}
use Rattle.demi_port_core.specs.History.{AnyOf, Each}
use Rattle.demi_port_core.proofs.Lists.{each_append, each_front}
use Rattle.demi_bench.specs.Asking.{IsEven}
use Rattle.demi_bench.specs.Linking.{StayEven}

-- the last of the ones that are left is the next one of the others
pub goes_over : {A : Type 0} (ps ts : List A) (p : A) → (ps ++ p ∷ []) ++ reverse ts ≡ ps ++ reverse (ts ++ p ∷ [])
goes_over ps ts p = append_assoc ps (p ∷ []) (reverse ts) ∙ ap (λ l. ps ++ l) (sym (reverse-append ts (p ∷ [])))

module _ {A : Type 0} (P : A → Type 0) where
  any_left : (xs ys : List A) → AnyOf P xs → AnyOf P (xs ++ ys)
  any_left [] ys h = absurd h
  any_left (x ∷ xs) ys h = ⊎_elim (λ a. inl a) (λ t. inr (any_left xs ys t)) h

  any_right : (xs ys : List A) → AnyOf P ys → AnyOf P (xs ++ ys)
  any_right [] ys h = h
  any_right (x ∷ xs) ys h = inr (any_right xs ys h)

  any_either : (xs ys : List A) → AnyOf P (xs ++ ys) → AnyOf P xs ⊎ AnyOf P ys
  any_either [] ys h = inr h
  any_either (x ∷ xs) ys h = ⊎_elim (λ a. inl (inl a)) (λ t. ⊎_elim (λ l. inl (inr l)) (λ r. inr r) (any_either xs ys t)) h

  any_reverse : (xs : List A) → AnyOf P xs → AnyOf P (reverse xs)
  any_reverse [] h = absurd h
  any_reverse (x ∷ xs) h = subst (AnyOf P) (sym (reverse-append (x ∷ []) xs)) (⊎_elim (λ a. any_right (reverse xs) (x ∷ []) (inl a)) (λ t. any_left (reverse xs) (x ∷ []) (any_reverse xs t)) h)

  any_back : (xs : List A) → AnyOf P (reverse xs) → AnyOf P xs
  any_back [] h = h
  any_back (x ∷ xs) h = ⊎_elim (λ t. inr (any_back xs t)) (λ one. ⊎_elim (λ a. inl a) (λ none. absurd none) one) (any_either (reverse xs) (x ∷ []) (subst (AnyOf P) (reverse-append (x ∷ []) xs) h))

  each_reverse : (xs : List A) → Each P xs → Each P (reverse xs)
  each_reverse [] h = h
  each_reverse (x ∷ xs) h = subst (Each P) (sym (reverse-append (x ∷ []) xs)) (each_append P (reverse xs) (x ∷ []) (each_reverse xs h.1) (h.0, tt))

  each_behind : (xs ys : List A) → Each P (xs ++ ys) → Each P ys
  each_behind [] ys h = h
  each_behind (x ∷ xs) ys h = each_behind xs ys h.1

  pub each_forth : (xs : List A) → Each P (reverse xs) → Each P xs
  each_forth [] h = tt
  each_forth (x ∷ xs) h = let s = subst (Each P) (reverse-append (x ∷ []) xs) h in ((each_behind (reverse xs) (x ∷ []) s).0, each_forth xs (each_front P (reverse xs) (x ∷ []) s))

module _ {D T B : Type 0} (port : PortId B) where
  stay_any : (n : ℕ) (ts us : List (PassValue D T B)) → StayEven port ts us → AnyOf (λ (p : PassValue D T B). p.number ≡ n) ts → AnyOf (λ (p : PassValue D T B). p.number ≡ n) us
  stay_any n [] us s h = absurd h
  stay_any n (x ∷ xs) [] s h = let e = s.0 in absurd (omega (arith, e))
  stay_any n (x ∷ xs) (y ∷ ys) s h = let e = s.0 in
      ⊎_elim (λ a. inl ((s.1 0 x y (omega arith)).1 ∙ a)) (λ t. inr (stay_any n xs ys (omega (arith, e), λ i a b low. s.1 (suc i) a b (omega (arith, low))) t)) h

  stay_each : (ts us : List (PassValue D T B)) → StayEven port ts us → Each (IsEven port) us
  stay_each ts [] s = tt
  stay_each [] (y ∷ ys) s = let e = s.0 in absurd (omega (arith, e))
  stay_each (x ∷ xs) (y ∷ ys) s = let e = s.0 in ((s.1 0 x y (omega arith)).0, stay_each xs ys (omega (arith, e), λ i a b low. s.1 (suc i) a b (omega (arith, low))))

  -- even passes that were dealt, of which those that the teams had are still even
  pub still_even : (all ps ts us : List (PassValue D T B)) → all ≡ ps ++ reverse ts → StayEven port ts us → Each (IsEven port) all → Each (IsEven port) (ps ++ reverse us)
  still_even all ps ts us dealt stay even = each_append (IsEven port) ps (reverse us) (each_front (IsEven port) ps (reverse ts) (subst (Each (IsEven port)) dealt even)) (each_reverse (IsEven port) us (stay_each ts us stay))

  -- no number is lost
  pub still_there : (n : ℕ) (all ps ts us : List (PassValue D T B)) → all ≡ ps ++ reverse ts → StayEven port ts us → AnyOf (λ (p : PassValue D T B). p.number ≡ n) all → AnyOf (λ (p : PassValue D T B). p.number ≡ n) (ps ++ reverse us)
  still_there n all ps ts us dealt stay any = let P = λ (p : PassValue D T B). p.number ≡ n in
      ⊎_elim (λ l. any_left P ps (reverse us) l) (λ r. any_right P ps (reverse us) (any_reverse P us (stay_any n ts us stay (any_back P ts r))))
      (any_either P ps (reverse ts) (subst (AnyOf P) dealt any))

  -- the teams have even passes
  pub dealt_even : (all ps ts : List (PassValue D T B)) → all ≡ ps ++ reverse ts → Each (IsEven port) all → Each (IsEven port) ts
  dealt_even all ps ts dealt even = each_forth (IsEven port) ts (each_behind (IsEven port) ps (reverse ts) (subst (Each (IsEven port)) dealt even))

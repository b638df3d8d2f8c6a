-- What is told is of rising places.
use Rattle.std.proofs.Common.{◌≡◌, ℕ, ◌+◌, ◌<◌, ◌≤◌, List, [], ◌∷◌, ◌++◌, sym, subst, max, arith, append_assoc, append-nil}
use Rattle.std.specs.Prelude.{Option, Some, None}
use Rattle.demi_port_core.specs.History.{Each}
use Rattle.demi_port_core.specs.Trails.{MayTell, told_at}
use Rattle.demi_port_core.proofs.Lists.{each_more, each_snoc}
use Rattle.demi_device.specs.Serving.{AllCome, RiseFrom, above, places, trail}
use Rattle.demi_device.proofs.Outcomes.{places_append}

above_snoc : (l : List ℕ) (p : ℕ) → above (l ++ p ∷ []) ≡ max (above l) (p + 1)
above_snoc [] p = omega arith
above_snoc (q ∷ l) p = let h = above_snoc l p in omega arith

module _ {T : Type 0} where
  rise_snoc : (n : ℕ) (t : List (ℕ × T)) (x : ℕ × T) → RiseFrom n t → Each (λ (y : ℕ × T). y.0 < x.0) t → n ≤ x.0 → RiseFrom n (t ++ x ∷ [])
  rise_snoc n [] x was low le = (le, tt)
  rise_snoc n (y ∷ ys) x was low le = (was.0, rise_snoc (y.0 + 1) ys x was.1 low.1 (let less = low.0 in omega arith))

  -- what an outcome tells that may tell it is of a place above those before
  rise_told : (m p : ℕ) (o : Option T) (t : List (ℕ × T)) → RiseFrom 0 t → Each (λ (y : ℕ × T). y.0 < m) t → MayTell m p o → RiseFrom 0 (t ++ told_at p o)
  rise_told m p None t was low may = subst (RiseFrom 0) (sym (append-nil t)) was
  rise_told m p (Some x) t was low may = let le : m ≤ p = may in rise_snoc 0 t (p, x) was (each_more (λ (y : ℕ × T). y.0 < m) (λ (y : ℕ × T). y.0 < p) t (λ y less. omega arith) low) (omega arith)

  low_told : (m n p : ℕ) (o : Option T) (t : List (ℕ × T)) → Each (λ (y : ℕ × T). y.0 < m) t → m ≤ n → p < n → Each (λ (y : ℕ × T). y.0 < n) (t ++ told_at p o)
  low_told m n p None t low le less = subst (Each (λ (y : ℕ × T). y.0 < n)) (sym (append-nil t)) (each_more (λ (y : ℕ × T). y.0 < m) (λ (y : ℕ × T). y.0 < n) t (λ y k. omega arith) low)
  low_told m n p (Some x) t low le less = each_snoc (λ (y : ℕ × T). y.0 < n) t (p, x) (each_more (λ (y : ℕ × T). y.0 < m) (λ (y : ℕ × T). y.0 < n) t (λ y k. omega arith) low) less

module _ {T U : Type 0} (n : ℕ) (told : U → Option T) (admits : List (ℕ × T) → ℕ → U → Type 0) where
  more_rise : (f : List (ℕ × U)) (t : List (ℕ × T)) (added : List (ℕ × U)) → Each (λ (y : ℕ × T). y.0 < above (places f)) t → RiseFrom 0 t → AllCome n told admits t (places f) added → RiseFrom 0 (t ++ trail told added)
  more_rise f t [] low was comes = subst (RiseFrom 0) (sym (append-nil t)) was
  more_rise f t (o ∷ os) low was comes =
      let now = told_at o.0 (told o.1) in let all = f ++ o ∷ [] in let m : ℕ = above (places f) in
      let longer : places all ≡ places f ++ o.0 ∷ [] = places_append f (o ∷ []) in
      let high : above (places f ++ o.0 ∷ []) ≡ max m (o.0 + 1) = above_snoc (places f) o.0 in
      let next = subst (λ b. AllCome n told admits (t ++ now) b os) (sym longer) comes.1 in
      let below = subst (λ (l : List ℕ). Each (λ (y : ℕ × T). y.0 < above l) (t ++ now)) (sym longer) (low_told m (above (places f ++ o.0 ∷ [])) o.0 (told o.1) t low (omega arith) (omega arith)) in
      subst (RiseFrom 0) (append_assoc t now (trail told os)) (more_rise all (t ++ now) os below (rise_told m o.0 (told o.1) t was low comes.0.may_tell) next)

  trail_low : (m : ℕ) (f : List (ℕ × U)) → above (places f) ≤ m → Each (λ (y : ℕ × T). y.0 < m) (trail told f)
  trail_low m [] le = tt
  trail_low m (o ∷ os) le = front (told o.1) (trail told os) (trail_low m os (omega arith))
    where
      front : (x : Option T) (t : List (ℕ × T)) → Each (λ (y : ℕ × T). y.0 < m) t → Each (λ (y : ℕ × T). y.0 < m) (told_at o.0 x ++ t)
      front None t low = low
      front (Some x) t low = (omega arith, low)

  -- what was told is of rising places after further outcomes
  pub still_rises : (f added : List (ℕ × U)) → RiseFrom 0 (trail told f) → AllCome n told admits (trail told f) (places f) added → RiseFrom 0 (trail told f ++ trail told added)
  still_rises f added was comes = more_rise f (trail told f) added (trail_low (above (places f)) f (omega arith)) was comes

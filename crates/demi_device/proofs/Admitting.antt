-- What was admitted stays so as further outcomes come.
use Rattle.std.proofs.Common.{ℕ, ◌<◌, ◌≤◌, List, [], ◌∷◌, ◌++◌, sym, subst, arith, append_assoc, append-nil}
use Rattle.std.specs.Prelude.{Option, Some, None}
use Rattle.demi_port_core.specs.History.{AllAbove, Each}
use Rattle.demi_port_core.specs.Trails.{MayTell, told_at}
use Rattle.demi_port_core.proofs.Lists.{each_snoc}
use Rattle.demi_device.specs.Serving.{AllAdmitted, AllCome, above, places, trail}
use Rattle.demi_device.proofs.Outcomes.{places_append}

each_below : {U : Type 0} (m : ℕ) (l : List (ℕ × U)) → above (places l) ≤ m → Each (λ (o : ℕ × U). o.0 < m) l
each_below m [] le = tt
each_below m (o ∷ os) le = (omega arith, each_below m os (omega arith))

-- what an outcome tells that may tell it is of no place of those before
told_above : {T : Type 0} (m p q : ℕ) (o : Option T) → MayTell m p o → q < m → AllAbove q (told_at p o)
told_above m p q None may low = tt
told_above m p q (Some t) may low = (let k = may in omega arith, tt)

module _ {T U : Type 0} (n : ℕ) (told : U → Option T) (admits : List (ℕ × T) → ℕ → U → Type 0) (steady : (t later : List (ℕ × T)) (p : ℕ) (o : U) → admits t p o → AllAbove p later → admits (t ++ later) p o) where
  abbrev Ok : List (ℕ × T) → ℕ × U → Type 0
  Ok t o = (o.0 < n) × admits t o.0 o.1

  pub more_admitted : (f : List (ℕ × U)) (t : List (ℕ × T)) (added : List (ℕ × U)) → AllAdmitted n admits t f → AllCome n told admits t (places f) added → AllAdmitted n admits (t ++ trail told added) (f ++ added)
  more_admitted f t [] was comes = subst (λ (z : List (ℕ × T) × List (ℕ × U)). AllAdmitted n admits z.0 z.1) (λ q. (sym (append-nil t) q, sym (append-nil f) q)) was
  more_admitted f t (o ∷ os) was comes =
      let now = told_at o.0 (told o.1) in let c = comes.0 in
      let low = each_below (above (places f)) f (omega arith) in
      let stay : Each (Ok (t ++ now)) f = go f was low in
      let all = each_snoc (Ok (t ++ now)) f o stay (c.served, c.admitted) in
      let next = subst (λ b. AllCome n told admits (t ++ now) b os) (sym (places_append f (o ∷ []))) comes.1 in
      subst (λ (z : List (ℕ × T) × List (ℕ × U)). AllAdmitted n admits z.0 z.1) (λ q. (append_assoc t now (trail told os) q, append_assoc f (o ∷ []) os q)) (more_admitted (f ++ o ∷ []) (t ++ now) os all next)
    where
      go : (l : List (ℕ × U)) → Each (Ok t) l → Each (λ (x : ℕ × U). x.0 < above (places f)) l → Each (Ok (t ++ told_at o.0 (told o.1))) l
      go [] a b = tt
      go (x ∷ xs) a b = ((a.0.0, steady t (told_at o.0 (told o.1)) x.0 x.1 a.0.1 (told_above (above (places f)) o.0 x.0 (told o.1) comes.0.may_tell b.0)), go xs a.1 b.1)

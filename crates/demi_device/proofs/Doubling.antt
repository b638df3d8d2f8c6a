-- The engine of the tests.
use Rattle.std.proofs.Common.{◌≡◌, ◌≢◌, ℕ, suc, ◌+◌, ◌*◌, ◌==◌, ◌<◌, ◌≤◌, Bool, true, false, cond, List, [], ◌∷◌, ◌++◌, length, sym, ap, ◌∙◌, refl, arith}
use Rattle.std.specs.Prelude.{IfNone, IfSome, None, Option, Some, option_map}
use mathlib.Core.Option.{some}
use lib.ListN.{get_elem?}
use Rattle.demi_port_core.specs.declared.place.Place.{Place}
use Rattle.demi_port_core.specs.History.{Each}
use Rattle.demi_device.specs.Doubling.{doubled, first_zero}
use Rattle.demi_device.specs.Serving.{first_stop, places}

pub doubled_snoc : (p n : ℕ) (h : List ℕ) → doubled p (h ++ n ∷ []) ≡ doubled p h ++ (p + length h, 2 * n) ∷ []
doubled_snoc p n [] = let e : p ≡ p + 0 = omega arith in λ q. (e q, 2 * n) ∷ []
doubled_snoc p n (x ∷ h) = let e : p + 1 + length h ≡ p + suc (length h) = omega arith in λ q. (p, 2 * x) ∷ (doubled_snoc (p + 1) n h ∙ (λ k. doubled (p + 1) h ++ (e k, 2 * n) ∷ [])) q

pub none_above : (p m : ℕ) (h : List ℕ) → p + length h ≤ m → Each (λ (q : ℕ). q ≢ m) (places (doubled p h))
none_above p m [] le = tt
none_above p m (x ∷ h) le = ((λ e. omega arith), none_above (p + 1) m h (omega arith))

pub none_left : (p m : ℕ) (h : List ℕ) → p ≤ m → m < p + length h → Each (λ (q : ℕ). q ≢ m) (places (doubled p h)) → ⊥
none_left p m [] le small other = omega arith
none_left p m (x ∷ h) le small other = none_left (p + 1) m h (let ne = other.0 in omega arith) (omega arith) other.1

pub last_at : (h : List ℕ) (n : ℕ) → get_elem? (h ++ n ∷ []) (length h) ≡ some n
last_at [] n = refl
last_at (x ∷ h) n = last_at h n

module _ (stops : ℕ → Bool) where
  stop_stays : (b : Bool) (p x : ℕ) (old new : Option ℕ) → (old ≡ Some x → new ≡ Some x) → cond b (Some p) old ≡ Some x → cond b (Some p) new ≡ Some x
  stop_stays true p x old new f e = e
  stop_stays false p x old new f e = f e

  first_stays : (p d x : ℕ) (h : List ℕ) → first_stop stops p h ≡ Some x → first_stop stops p (h ++ d ∷ []) ≡ Some x
  first_stays p d x [] e = absurd (cc)
  first_stays p d x (y ∷ h) e = stop_stays (stops y) p x (first_stop stops (p + 1) h) (first_stop stops (p + 1) (h ++ d ∷ [])) (first_stays (p + 1) d x h) e

  stop_comes : (b : Bool) (p : ℕ) (old new last : Option ℕ) → (old ≡ None → new ≡ last) → cond b (Some p) old ≡ None → cond b (Some p) new ≡ last
  stop_comes true p old new last f e = absurd (cc)
  stop_comes false p old new last f e = f e

  first_comes : (p d : ℕ) (h : List ℕ) → first_stop stops p h ≡ None → first_stop stops p (h ++ d ∷ []) ≡ cond (stops d) (Some (p + length h)) None
  first_comes p d [] e = let z : p ≡ p + 0 = omega arith in λ q. cond (stops d) (Some (z q)) None
  first_comes p d (y ∷ h) e = let z : p + 1 + length h ≡ p + suc (length h) = omega arith in
      stop_comes (stops y) p (first_stop stops (p + 1) h) (first_stop stops (p + 1) (h ++ d ∷ [])) (cond (stops d) (Some (p + suc (length h))) None) (λ n. first_comes (p + 1) d h n ∙ (λ q. cond (stops d) (Some (z q)) None)) e

mapped : (b : Bool) (p : Place) → option_map (λ (z : Place). z.0) (cond b (Some p) None) ≡ cond b (Some p.0) None
mapped true p = refl
mapped false p = refl

-- the first stop after one more operation
pub stop_next : (stop after : Option Place) (place : Place) (op : ℕ) (h : List ℕ) → option_map (λ (z : Place). z.0) stop ≡ first_zero h → place.0 ≡ length h → IfSome stop (λ p. after ≡ Some p) → IfNone stop (after ≡ cond (op == 0) (Some place) None)
    → option_map (λ (z : Place). z.0) after ≡ first_zero (h ++ op ∷ [])
stop_next None after place op h e at stays comes = let z : place.0 ≡ 0 + length h = at ∙ (omega arith) in
    ap (option_map (λ (z : Place). z.0)) comes ∙ mapped (op == 0) place ∙ (λ q. cond (op == 0) (Some (z q)) None) ∙ sym (first_comes (λ n. n == 0) 0 op h (sym e))
stop_next (Some p) after place op h e at stays comes = ap (option_map (λ (z : Place). z.0)) stays ∙ sym (first_stays (λ n. n == 0) 0 op p.0 h (sym e))

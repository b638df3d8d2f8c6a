-- New callers are set out.
use Rattle.std.proofs.Common.{◌≡◌, ℕ, zero, suc, ◌+◌, ◌<◌, ◌≤◌, List, [], ◌∷◌, None, length, get_or, set, take, drop, refl, arith, ap, sym, subst}
use Rattle.demi_port.specs.Seen.{PassValue, PortId}
use Rattle.demi_pdpix.specs.Seen.{AreNewAt, AreNewCallers, IsNewCaller}
use Rattle.demi_pdpix.proofs.Outstanding.{new_owes}
use Rattle.demi_context.specs.ContextPorts.{Caller, Whole, side_at}
use Rattle.demi_sharing.specs.Setting.{AreSetOut, IsSetOut}

module _ {D T B : Type 0} where
  new_none : (n : ℕ) (ps : List (PassValue D T B)) (xs : List (PortId B)) → AreNewAt n ps xs → (k : ℕ) → (side_at ps k).submitted ≡ []
  new_none n [] xs are k = refl
  new_none n (p ∷ ps) [] are k = absurd are
  new_none n (p ∷ ps) (x ∷ xs) are zero = ap (λ (q : PassValue D T B). q.submitted) are.0
  new_none n (p ∷ ps) (x ∷ xs) are (suc k) = new_none n ps xs are.1 k

pub new_set_out : (d : Whole) (n : ℕ) (c : Caller) → IsNewCaller d n c → IsSetOut d n None c
new_set_out d n c new = record {
  memory = ap (λ (p : PassValue _ _ _). p.submitted) new.memory;
  store = ap (λ (p : PassValue _ _ _). p.submitted) new.service;
  rx = new_none n c.rx d.rx new.rx;
  tx = new_none n c.tx d.tx new.tx;
  owes = new_owes d n c new;
}

pub new_all_set_out : (d : Whole) (n : ℕ) (cs : List Caller) → AreNewCallers d n cs → AreSetOut d n None cs
new_all_set_out d n [] new = tt
new_all_set_out d n (c ∷ cs) new = (new_set_out d n c new.0, new_all_set_out d (n + 1) cs new.1)

-- one of these, and one in its place
pub set_out_at : (d : Whole) (n i : ℕ) (cs : List Caller) (c : Caller) → i < length cs → AreSetOut d n None cs → IsSetOut d (n + i) None (get_or cs i c)
set_out_at d n i [] c low are = absurd (omega arith)
set_out_at d n zero (x ∷ cs) c low are = let e : n ≡ n + 0 = omega arith in subst (λ m. IsSetOut d m None x) e are.0
set_out_at d n (suc i) (x ∷ cs) c low are = let e : n + 1 + i ≡ n + suc i = omega arith in subst (λ m. IsSetOut d m None (get_or cs i c)) e (set_out_at d (n + 1) i cs c (omega arith) are.1)

pub set_out_set : (d : Whole) (n i : ℕ) (cs : List Caller) (c : Caller) → AreSetOut d n None cs → IsSetOut d (n + i) None c → AreSetOut d n None (set cs i c)
set_out_set d n i [] c are one = tt
set_out_set d n zero (x ∷ cs) c are one = let e : n + 0 ≡ n = omega arith in (subst (λ m. IsSetOut d m None c) e one, are.1)
set_out_set d n (suc i) (x ∷ cs) c are one = let e : n + suc i ≡ n + 1 + i = omega arith in (are.0, set_out_set d (n + 1) i cs c are.1 (subst (λ m. IsSetOut d m None c) e one))

-- the first of these, and the others
pub first_set_out : (d : Whole) (cs front : List Caller) (c : Caller) → AreNewCallers d 0 cs → 1 ≤ length cs → front ≡ take 1 cs → IsSetOut d 0 None (get_or front 0 c)
first_set_out d [] front c new there is = absurd (omega arith)
first_set_out d (x ∷ cs) front c new there is = subst (λ (l : List Caller). IsSetOut d 0 None (get_or l 0 c)) (sym is) (new_set_out d 0 x new.0)

pub others_set_out : (d : Whole) (cs back : List Caller) → AreNewCallers d 0 cs → 1 ≤ length cs → back ≡ drop 1 cs → AreSetOut d 1 None back
others_set_out d [] back new there is = absurd (omega arith)
others_set_out d (x ∷ cs) back new there is = subst (AreSetOut d 1 None) (sym is) (new_all_set_out d 1 cs new.1)

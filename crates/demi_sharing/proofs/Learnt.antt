-- A caller that learnt, or of which another learnt, is set out as before.
use Rattle.std.proofs.Common.{◌≡◌, ℕ, zero, suc, ◌<◌, List, [], ◌∷◌, None, Option, length, map, get_or, refl, arith, ◌∙◌, sym, subst}
use Rattle.demi_context.specs.ContextPorts.{Caller, Whole, side_at}
use Rattle.demi_pdpix.specs.Notes.{all_learnt, all_noted, each_learnt, noted}
use Rattle.demi_pdpix.specs.Owing.{IsDue, IsFirstDue}
use Rattle.demi_pdpix.specs.Seen.{IsOf}
use Rattle.demi_port.specs.Seen.{PassValue}
use Rattle.demi_port_core.specs.declared.place.QToken.{QToken}
use Rattle.demi_sharing.specs.Setting.{IsSetOut}

module _ {D T B : Type 0} where
  noted_same : (ps : List (PassValue D T B)) (k : ℕ) → (side_at (map noted ps) k).submitted ≡ (side_at ps k).submitted
  noted_same [] k = refl
  noted_same (p ∷ ps) zero = refl
  noted_same (p ∷ ps) (suc k) = noted_same ps k

  learnt_same : (ps qs : List (PassValue D T B)) (k : ℕ) → (side_at (each_learnt ps qs) k).submitted ≡ (side_at ps k).submitted
  learnt_same [] qs k = refl
  learnt_same (p ∷ ps) [] k = refl
  learnt_same (p ∷ ps) (q ∷ qs) zero = refl
  learnt_same (p ∷ ps) (q ∷ qs) (suc k) = learnt_same ps qs k

  noted_due : (n : ℕ) (f : ℕ → ℕ) (ps : List (PassValue D T B)) → ((k : ℕ) (p : PassValue D T B) → k < length ps → IsDue n (f k) (get_or ps k p))
      → (k : ℕ) (p : PassValue D T B) → k < length (map noted ps) → IsDue n (f k) (get_or (map noted ps) k p)
  noted_due n f [] due k p low = absurd (omega arith)
  noted_due n f (x ∷ ps) due zero p low = due 0 x (omega arith)
  noted_due n f (x ∷ ps) due (suc k) p low = noted_due n (λ j. f (suc j)) ps (λ j q l. due (suc j) q (omega arith)) k p (omega arith)

  learnt_due : (n : ℕ) (f : ℕ → ℕ) (ps qs : List (PassValue D T B)) → ((k : ℕ) (p : PassValue D T B) → k < length ps → IsDue n (f k) (get_or ps k p))
      → (k : ℕ) (p : PassValue D T B) → k < length (each_learnt ps qs) → IsDue n (f k) (get_or (each_learnt ps qs) k p)
  learnt_due n f [] qs due k p low = absurd (omega arith)
  learnt_due n f (x ∷ ps) [] due k p low = due k p low
  learnt_due n f (x ∷ ps) (q ∷ qs) due zero p low = due 0 x (omega arith)
  learnt_due n f (x ∷ ps) (q ∷ qs) due (suc k) p low = learnt_due n (λ j. f (suc j)) ps qs (λ j r l. due (suc j) r (omega arith)) k p (omega arith)

  noted_first : (n m : ℕ) (ps : List (PassValue D T B)) → IsFirstDue n m ps → (p : PassValue D T B) → 0 < length (map noted ps) → IsDue n m (get_or (map noted ps) 0 p)
  noted_first n m [] due p low = absurd (omega arith)
  noted_first n m (x ∷ ps) due p low = due x (omega arith)

  learnt_first : (n m : ℕ) (ps qs : List (PassValue D T B)) → IsFirstDue n m ps → (p : PassValue D T B) → 0 < length (each_learnt ps qs) → IsDue n m (get_or (each_learnt ps qs) 0 p)
  learnt_first n m [] qs due p low = absurd (omega arith)
  learnt_first n m (x ∷ ps) [] due p low = due p low
  learnt_first n m (x ∷ ps) (q ∷ qs) due p low = due x (omega arith)

pub noted_set : (d : Whole) (n : ℕ) (t : Option QToken) (c e : Caller) → e ≡ all_noted c → IsOf d e → IsSetOut d n t c → IsSetOut d n t e
noted_set d n t c e is of was =
    let o = was.owes.1 in
    subst (IsSetOut d n t) (sym is) (record {
      memory = was.memory;
      store = was.store;
      rx = λ k. noted_same c.rx k ∙ was.rx k;
      tx = λ k. noted_same c.tx k ∙ was.tx k;
      owes = (subst (IsOf d) is of, (o.0, o.1, noted_first n _ c.journal o.2, noted_due n _ c.rx o.3, noted_due n _ c.tx o.4));
    })

pub learnt_set : (d : Whole) (n : ℕ) (c f e : Caller) → e ≡ all_learnt c f → IsOf d e → IsSetOut d n None c → IsSetOut d n None e
learnt_set d n c f e is of was =
    let o = was.owes.1 in
    subst (IsSetOut d n None) (sym is) (record {
      memory = was.memory;
      store = was.store;
      rx = λ k. learnt_same c.rx f.rx k ∙ was.rx k;
      tx = λ k. learnt_same c.tx f.tx k ∙ was.tx k;
      owes = (subst (IsOf d) is of, (o.0, o.1, learnt_first n _ c.journal f.journal o.2, learnt_due n _ c.rx f.rx o.3, learnt_due n _ c.tx f.tx o.4));
    })

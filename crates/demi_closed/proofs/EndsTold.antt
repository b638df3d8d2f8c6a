-- Where a receiving port told an end, its outcomes have one.
use Rattle.std.proofs.Common.{◌≡◌, ℕ, ◌⊎◌, Bool, true, false, List, [], ◌∷◌, ◌++◌, Some, None, Option, refl, ◌∙◌, ap, sym, subst, cond, inl, inr}
use Rattle.std.specs.Prelude.{slice_get, take, ltb, length, ◌==◌}
use Rattle.demi_device.specs.Serving.{first_stop, trail}
use Rattle.demi_port_core.specs.Trails.{told_at as told_there}
use Rattle.demi_streamq.specs.Receiving.{RxAdmits, RxAnswer, at, bytes_before, is_stop, over, told, told_at}
use Rattle.demi_streamq.specs.RxKept.{HasEnd, IsEnd}
use Rattle.demi_streamq.specs.declared.rx_op.RxOp.{RxOp}
use Rattle.demi_streamq.specs.declared.rx_op.RxOp.TheVariants.{Pop, Stop}
use Rattle.demi_streamq.specs.declared.rx_out.RxOut.{RxOut}
use Rattle.demi_streamq.specs.declared.rx_out.RxOut.TheVariants.{Piece, End, Fault, Broken, NoSlot, Stopped, Halted}
use Rattle.demi_streamq.specs.declared.rx_told.RxTold.{RxTold}
use Rattle.demi_streamq.specs.declared.rx_told.RxTold.TheVariants.{AtEnd}

over_end : (p : ℕ) (f : List (ℕ × RxOut)) → over p (trail told f) ≡ Some End → HasEnd f
over_end p [] e = absurd (cc)
over_end p (o ∷ os) e = go (λ h. over_end p os h) o.1 refl
  where
    go : (over p (trail told os) ≡ Some End → HasEnd os) → (x : RxOut) → o.1 ≡ x → IsEnd o.1 ⊎ HasEnd os
    go rest End s = inl (subst IsEnd (sym s) tt)
    go rest (Piece v) s = inr (rest (skip (ltb o.0 p) refl))
      where
        is : over p (trail told ((o.0, Piece v) ∷ os)) ≡ Some End
        is = ap (λ (y : RxOut). over p (trail told ((o.0, y) ∷ os))) (sym s) ∙ e

        skip : (c : Bool) → ltb o.0 p ≡ c → over p (trail told os) ≡ Some End
        skip true t = sym (ap (λ (b : Bool). cond b (over p (trail told os)) (over p (trail told os))) t) ∙ is
        skip false t = sym (ap (λ (b : Bool). cond b (over p (trail told os)) (over p (trail told os))) t) ∙ is
    go rest (Fault k) s = inr (rest (skip (ltb o.0 p) refl))
      where
        is : over p (trail told ((o.0, Fault k) ∷ os)) ≡ Some End
        is = ap (λ (y : RxOut). over p (trail told ((o.0, y) ∷ os))) (sym s) ∙ e

        skip : (c : Bool) → ltb o.0 p ≡ c → over p (trail told os) ≡ Some End
        skip true t = absurd (let broken : Some (Broken (at o.0)) ≡ Some End = sym (ap (λ (b : Bool). cond b (Some (Broken (at o.0))) (over p (trail told os))) t) ∙ is in cc)
        skip false t = sym (ap (λ (b : Bool). cond b (Some (Broken (at o.0))) (over p (trail told os))) t) ∙ is
    go rest NoSlot s = inr (rest (skip (ltb o.0 p) refl))
      where
        is : over p (trail told ((o.0, NoSlot) ∷ os)) ≡ Some End
        is = ap (λ (y : RxOut). over p (trail told ((o.0, y) ∷ os))) (sym s) ∙ e

        skip : (c : Bool) → ltb o.0 p ≡ c → over p (trail told os) ≡ Some End
        skip true t = sym (ap (λ (b : Bool). cond b (over p (trail told os)) (over p (trail told os))) t) ∙ is
        skip false t = sym (ap (λ (b : Bool). cond b (over p (trail told os)) (over p (trail told os))) t) ∙ is
    go rest (Broken q) s = inr (rest (ap (λ (y : RxOut). over p (trail told ((o.0, y) ∷ os))) (sym s) ∙ e))
    go rest (Stopped q) s = inr (rest (ap (λ (y : RxOut). over p (trail told ((o.0, y) ∷ os))) (sym s) ∙ e))
    go rest Halted s = inr (rest (ap (λ (y : RxOut). over p (trail told ((o.0, y) ∷ os))) (sym s) ∙ e))

told_end : (p : ℕ) (f : List (ℕ × RxOut)) → told_at p (trail told f) ≡ Some AtEnd → HasEnd f
told_end p [] e = absurd (cc)
told_end p (o ∷ os) e = go (λ h. told_end p os h) o.1 refl
  where
    other : (x : RxOut) (t : RxTold) → o.1 ≡ x → told x ≡ Some t → (t ≡ AtEnd → ⊥) → told_at p (trail told os) ≡ Some AtEnd
    other x t s is differs = skip (o.0 == p) refl
      where
        there : told_at p ((o.0, t) ∷ trail told os) ≡ Some AtEnd
        there = ap (λ (k : Option RxTold). told_at p (told_there o.0 k ++ trail told os)) (sym is) ∙ ap (λ (y : RxOut). told_at p (trail told ((o.0, y) ∷ os))) (sym s) ∙ e

        skip : (c : Bool) → (o.0 == p) ≡ c → told_at p (trail told os) ≡ Some AtEnd
        skip true c = absurd (differs (let same : Some t ≡ Some AtEnd = sym (ap (λ (b : Bool). cond b (Some t) (told_at p (trail told os))) c) ∙ there in cc))
        skip false c = sym (ap (λ (b : Bool). cond b (Some t) (told_at p (trail told os))) c) ∙ there

    go : (told_at p (trail told os) ≡ Some AtEnd → HasEnd os) → (x : RxOut) → o.1 ≡ x → IsEnd o.1 ⊎ HasEnd os
    go rest End s = inl (subst IsEnd (sym s) tt)
    go rest (Piece v) s = inr (rest (other (Piece v) _ s refl (λ t. cc)))
    go rest (Fault k) s = inr (rest (other (Fault k) _ s refl (λ t. cc)))
    go rest NoSlot s = inr (rest (other NoSlot _ s refl (λ t. cc)))
    go rest (Broken q) s = inr (rest (ap (λ (y : RxOut). told_at p (trail told ((o.0, y) ∷ os))) (sym s) ∙ e))
    go rest (Stopped q) s = inr (rest (ap (λ (y : RxOut). told_at p (trail told ((o.0, y) ∷ os))) (sym s) ∙ e))
    go rest Halted s = inr (rest (ap (λ (y : RxOut). told_at p (trail told ((o.0, y) ∷ os))) (sym s) ∙ e))

-- an end that is admitted was told
pub end_told : (h : List RxOp) (f : List (ℕ × RxOut)) (p : ℕ) (o : RxOut) → IsEnd o → RxAdmits h (trail told f) p o → HasEnd f
end_told h f p End is a = go (first_stop is_stop 0 (take p h)) (slice_get h p) (over p (trail told f)) refl a
  where
    go : (stop : Option ℕ) (op : Option RxOp) (found : Option RxOut) → over p (trail told f) ≡ found → RxAnswer stop op found (told_at p (trail told f)) (length (bytes_before p (trail told f))) End → HasEnd f
    go (Some s) op found e b = absurd (let no = b.0 in cc)
    go None None found e b = absurd b
    go None (Some Stop) found e b = absurd (let no : End ≡ Halted = b in cc)
    go None (Some (Pop max)) (Some r) e b = over_end p f (e ∙ ap Some (sym b))
    go None (Some (Pop max)) None e b = told_end p f (sym b.0)
end_told h f p (Piece v) is a = absurd is
end_told h f p (Fault k) is a = absurd is
end_told h f p (Broken q) is a = absurd is
end_told h f p NoSlot is a = absurd is
end_told h f p (Stopped q) is a = absurd is
end_told h f p Halted is a = absurd is

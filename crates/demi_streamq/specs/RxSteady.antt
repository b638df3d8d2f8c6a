-- What is admitted stays as it is.
use mathlib.Core.Logic.{◌↔◌}
use Rattle.std.specs.Prelude.{◌≡◌, ℕ, zero, suc, ◌<◌, List, [], ◌∷◌, ◌++◌, take, Option, Some, None, false, ◌==◌, ltb, cond, slice_get, refl}
use Rattle.std.proofs.Common.{sym, ap, ◌∙◌, arith, subst}
use Rattle.std.proofs.lemmas.Bool.Decides.{nat_tests}
use Rattle.demi_port_core.specs.History.{AllAbove}
use Rattle.demi_streamq.specs.declared.rx_op.RxOp.{RxOp}
use Rattle.demi_streamq.specs.declared.rx_out.RxOut.{RxOut}
use Rattle.demi_streamq.specs.declared.rx_told.RxTold.{RxTold}
use Rattle.demi_heap.specs.Seen.{HeapId}
use Rattle.demi_streamq.specs.Receiving.{IsFrom, over, over_by, told_at, bytes_in, bytes_before, RxAnswer, RxAdmits}

pub not_below : (a p : ℕ) → p < a → ltb a p ≡ false
not_below a p lt = grind (arith, nat_tests)

pub not_same : (a p : ℕ) → p < a → (a == p) ≡ false
not_same a p lt = grind (arith, nat_tests)

pub append_none : {X : Type 0} (a : List X) → a ++ [] ≡ a
append_none [] = refl
append_none (x ∷ xs) = λ i. x ∷ append_none xs i

over_later : (p : ℕ) (later : List (ℕ × RxTold)) → AllAbove p later → over p later ≡ None
over_later p [] all = refl
over_later p (e ∷ es) all = ap (λ b. cond b (over_by e.1 e.0 (over p es)) (over p es)) (not_below e.0 p all.0) ∙ over_later p es all.1

pub over_same : (p : ℕ) (t later : List (ℕ × RxTold)) → AllAbove p later → over p (t ++ later) ≡ over p t
over_same p [] later all = over_later p later all
over_same p (e ∷ es) later all = ap (λ o. cond (ltb e.0 p) (over_by e.1 e.0 o) o) (over_same p es later all)

told_later : {T : Type 0} (p : ℕ) (later : List (ℕ × T)) → AllAbove p later → told_at p later ≡ None
told_later p [] all = refl
told_later p (e ∷ es) all = ap (λ b. cond b (Some e.1) (told_at p es)) (not_same e.0 p all.0) ∙ told_later p es all.1

pub told_same : {T : Type 0} (p : ℕ) (t later : List (ℕ × T)) → AllAbove p later → told_at p (t ++ later) ≡ told_at p t
told_same p [] later all = told_later p later all
told_same p (e ∷ es) later all = ap (λ o. cond (e.0 == p) (Some e.1) o) (told_same p es later all)

bytes_later : (p : ℕ) (later : List (ℕ × RxTold)) → AllAbove p later → bytes_before p later ≡ []
bytes_later p [] all = refl
bytes_later p (e ∷ es) all = ap (λ b. cond b (bytes_in e.1) [] ++ bytes_before p es) (not_below e.0 p all.0) ∙ bytes_later p es all.1

pub bytes_same : (p : ℕ) (t later : List (ℕ × RxTold)) → AllAbove p later → bytes_before p (t ++ later) ≡ bytes_before p t
bytes_same p [] later all = bytes_later p later all
bytes_same p (e ∷ es) later all = ap (λ l. cond (ltb e.0 p) (bytes_in e.1) [] ++ l) (bytes_same p es later all)

pub got_append : {A : Type 0} (h more : List A) (p : ℕ) (d : A) → slice_get h p ≡ Some d → slice_get (h ++ more) p ≡ Some d
got_append [] more p d e = absurd (cc)
got_append (x ∷ xs) more zero d e = e
got_append (x ∷ xs) more (suc p) d e = got_append xs more p d e

pub take_got : {A : Type 0} (h more : List A) (p : ℕ) (d : A) → slice_get h p ≡ Some d → take p (h ++ more) ≡ take p h
take_got [] more p d e = absurd (cc)
take_got (x ∷ xs) more zero d e = refl
take_got (x ∷ xs) more (suc p) d e = λ i. x ∷ take_got xs more p d e i

there : (s : Option ℕ) (g : Option RxOp) (f : Option RxOut) (t : Option RxTold) (n : ℕ) (o : RxOut) → RxAnswer s g f t n o → (d : RxOp) × (g ≡ Some d)
there None None f t n o is = absurd is
there None (Some d) f t n o is = (d, refl)
there (Some s) None f t n o is = absurd is.1
there (Some s) (Some d) f t n o is = (d, refl)

pub both : {P Q : Type 0} → ◌≡◌ {A = Type 0} P Q → (P ↔ Q)
both e = ((λ p. subst (λ (X : Type 0). X) e p), λ q. subst (λ (X : Type 0). X) (sym e) q)

pub rx_steady : (h more : List RxOp) (t later : List (ℕ × RxTold)) (p : ℕ) (o x : RxOut) → RxAdmits h t p o → AllAbove p later → (RxAdmits (h ++ more) (t ++ later) p x ↔ RxAdmits h t p x)
rx_steady h more t later p o x is above =
    let d = there _ (slice_get h p) _ _ _ o is in
    let same : ◌≡◌ {A = Type 0} (RxAdmits (h ++ more) (t ++ later) p x) (RxAdmits h t p x) = rw (over_same p t later above, told_same p t later above, bytes_same p t later above, take_got h more p d.0 d.1, got_append h more p d.0 d.1 ∙ sym d.1) refl in
    both same

pub steady_on : (b : HeapId) (h more : List RxOp) (t later : List (ℕ × RxTold)) (p : ℕ) (o x : RxOut) → RxAdmits h t p o × IsFrom b o → AllAbove p later → ((RxAdmits (h ++ more) (t ++ later) p x × IsFrom b x) ↔ (RxAdmits h t p x × IsFrom b x))
steady_on b h more t later p o x is above = let s = rx_steady h more t later p o x is.0 above in ((λ a. (s.0 a.0, a.1)), λ a. (s.1 a.0, a.1))

-- What is admitted at a sending port stays as it is.
use mathlib.Core.Logic.{◌↔◌}
use Rattle.std.specs.Prelude.{◌≡◌, ℕ, List, [], ◌∷◌, ◌++◌, Option, Some, None, Bool, ltb, cond, slice_get, refl}
use Rattle.std.proofs.Common.{sym, ap, ◌∙◌}
use Rattle.demi_port_core.specs.History.{AllAbove}
use Rattle.demi_streamq.specs.declared.tx_op.TxOp.{TxOp}
use Rattle.demi_streamq.specs.declared.tx_out.TxOut.{TxOut}
use Rattle.demi_streamq.specs.RxSteady.{both, got_append, not_below, take_got, told_same}
use Rattle.demi_streamq.specs.Sending.{broken_at, TxAnswer, TxAdmits}

broken_later : (p : ℕ) (later : List (ℕ × ℕ)) → AllAbove p later → broken_at p later ≡ None
broken_later p [] all = refl
broken_later p (e ∷ es) all = ap (λ b. cond b (Some e.0) (broken_at p es)) (not_below e.0 p all.0) ∙ broken_later p es all.1

pub broken_same : (p : ℕ) (t later : List (ℕ × ℕ)) → AllAbove p later → broken_at p (t ++ later) ≡ broken_at p t
broken_same p [] later all = broken_later p later all
broken_same p (e ∷ es) later all = ap (λ o. cond (ltb e.0 p) (Some e.0) o) (broken_same p es later all)

there : (s : Option ℕ) (g : Option TxOp) (b : Option ℕ) (c : Bool) (t : Option ℕ) (o : TxOut) → TxAnswer s g b c t o → (d : TxOp) × (g ≡ Some d)
there None None b c t o is = absurd is
there None (Some d) b c t o is = (d, refl)
there (Some s) None b c t o is = absurd is.1
there (Some s) (Some d) b c t o is = (d, refl)

pub tx_steady : (h more : List TxOp) (t later : List (ℕ × ℕ)) (p : ℕ) (o x : TxOut) → TxAdmits h t p o → AllAbove p later → (TxAdmits (h ++ more) (t ++ later) p x ↔ TxAdmits h t p x)
tx_steady h more t later p o x is above =
    let d = there _ (slice_get h p) _ _ _ o is in
    let same : ◌≡◌ {A = Type 0} (TxAdmits (h ++ more) (t ++ later) p x) (TxAdmits h t p x) = rw (broken_same p t later above, told_same p t later above, take_got h more p d.0 d.1, got_append h more p d.0 d.1 ∙ sym d.1) refl in
    both same

-- Where a link heard of a fault, an outcome of its port is one.
use Rattle.std.proofs.Common.{◌≡◌, ℕ, ◌⊎◌, Bool, true, false, List, [], ◌∷◌, ◌++◌, Some, None, Option, refl, ◌∙◌, sym, subst, cond, inl, inr}
use Rattle.std.specs.Prelude.{slice_get, take, ltb, length, ◌==◌}
use Rattle.demi_device.specs.Serving.{first_stop, trail}
use Rattle.demi_port_core.specs.Trails.{told_at as told_there}
use Rattle.demi_streamq.specs.Receiving as rx
use Rattle.demi_streamq.specs.Receiving.{RxAdmits, RxAnswer, over, over_by, told_at, bytes_before}
use Rattle.demi_streamq.specs.RxKept as rx_kept
use Rattle.demi_streamq.specs.Sending as tx
use Rattle.demi_streamq.specs.Sending.{TxAdmits, TxAnswer, has_close}
use Rattle.demi_streamq.specs.TxKept as tx_kept
use Rattle.demi_streamq.specs.declared.rx_op.RxOp.{RxOp}
use Rattle.demi_streamq.specs.declared.rx_op.RxOp.TheVariants as rx_op
use Rattle.demi_streamq.specs.declared.rx_out.RxOut.{RxOut}
use Rattle.demi_streamq.specs.declared.rx_out.RxOut.TheVariants as rx_out
use Rattle.demi_streamq.specs.declared.rx_told.RxTold.{RxTold}
use Rattle.demi_streamq.specs.declared.rx_told.RxTold.TheVariants.{Bytes, AtEnd, Failed, Refused}
use Rattle.demi_streamq.specs.declared.tx_op.TxOp.{TxOp}
use Rattle.demi_streamq.specs.declared.tx_op.TxOp.TheVariants as tx_op
use Rattle.demi_streamq.specs.declared.tx_out.TxOut.{TxOut}
use Rattle.demi_streamq.specs.declared.tx_out.TxOut.TheVariants as tx_out
use Rattle.demi_link.specs.Heard.{IsReadFault, IsWriteFault}

-- it tells no failure
abbrev IsCalm : RxTold → Type 0
IsCalm (Bytes bytes) = Unit {0}
IsCalm AtEnd = Unit {0}
IsCalm (Failed count) = ⊥
IsCalm Refused = Unit {0}

abbrev AllCalm : List (ℕ × RxTold) → Type 0
AllCalm [] = Unit {0}
AllCalm (x ∷ t) = IsCalm x.1 × AllCalm t

-- without a fault no failure was told
calm_or : (f : List (ℕ × RxOut)) → rx_kept.HasFault f ⊎ AllCalm (trail rx.told f)
calm_or [] = inr tt
calm_or (o ∷ os) = go o.1 (calm_or os)
  where
    go : (x : RxOut) → rx_kept.HasFault os ⊎ AllCalm (trail rx.told os) → (rx_kept.IsFault x ⊎ rx_kept.HasFault os) ⊎ AllCalm (told_there o.0 (rx.told x) ++ trail rx.told os)
    go x (inl h) = inl (inr h)
    go (rx_out.Fault k) (inr h) = inl (inl tt)
    go (rx_out.Piece v) (inr h) = inr (tt, h)
    go rx_out.End (inr h) = inr (tt, h)
    go rx_out.NoSlot (inr h) = inr (tt, h)
    go (rx_out.Broken q) (inr h) = inr h
    go (rx_out.Stopped q) (inr h) = inr h
    go rx_out.Halted (inr h) = inr h

-- then a pop finds nothing over but an end
over_calm : (p : ℕ) (t : List (ℕ × RxTold)) → AllCalm t → (r : RxOut) → over p t ≡ Some r → r ≡ rx_out.End
over_calm p [] all r e = absurd (cc)
over_calm p (x ∷ t) all r e = go (λ s. over_calm p t all.1 r s) x.1 all.0 (ltb x.0 p) e
  where
    go : (over p t ≡ Some r → r ≡ rx_out.End) → (u : RxTold) → IsCalm u → (b : Bool) → cond b (over_by u x.0 (over p t)) (over p t) ≡ Some r → r ≡ rx_out.End
    go rest u calm false s = rest s
    go rest (Bytes bytes) calm true s = rest s
    go rest AtEnd calm true s = cc
    go rest (Failed count) calm true s = absurd calm
    go rest Refused calm true s = rest s

-- and no failure is told of its own place
told_calm : (p count : ℕ) (t : List (ℕ × RxTold)) → AllCalm t → told_at p t ≡ Some (Failed count) → ⊥
told_calm p count [] all e = cc
told_calm p count (x ∷ t) all e = go (λ s. told_calm p count t all.1 s) x.1 all.0 (x.0 == p) e
  where
    go : (told_at p t ≡ Some (Failed count) → ⊥) → (u : RxTold) → IsCalm u → (b : Bool) → cond b (Some u) (told_at p t) ≡ Some (Failed count) → ⊥
    go rest u calm false s = rest s
    go rest (Bytes bytes) calm true s = cc
    go rest AtEnd calm true s = cc
    go rest (Failed n) calm true s = calm
    go rest Refused calm true s = cc

-- a failed read that is admitted was told
calm_read : (h : List RxOp) (t : List (ℕ × RxTold)) (p : ℕ) (o : RxOut) → AllCalm t → IsReadFault o → RxAdmits h t p o → ⊥
calm_read h t p (rx_out.Fault k) all is a = go (first_stop rx.is_stop 0 (take p h)) (slice_get h p) (over p t) refl a
  where
    go : (stop : Option ℕ) (op : Option RxOp) (found : Option RxOut) → over p t ≡ found → RxAnswer stop op found (told_at p t) (length (bytes_before p t)) (rx_out.Fault k) → ⊥
    go (Some s) op found e b = let no : rx_out.Fault k ≡ rx_out.Stopped (rx.at s) = b.0 in cc
    go None None found e b = b
    go None (Some rx_op.Stop) found e b = let no : rx_out.Fault k ≡ rx_out.Halted = b in cc
    go None (Some (rx_op.Pop max)) (Some r) e b = let end : r ≡ rx_out.End = over_calm p t all r e in let same : rx_out.Fault k ≡ r = b in cc
    go None (Some (rx_op.Pop max)) None e b = told_calm p k t all (sym b.0)
calm_read h t p (rx_out.Broken q) all is a = go (first_stop rx.is_stop 0 (take p h)) (slice_get h p) (over p t) refl a
  where
    go : (stop : Option ℕ) (op : Option RxOp) (found : Option RxOut) → over p t ≡ found → RxAnswer stop op found (told_at p t) (length (bytes_before p t)) (rx_out.Broken q) → ⊥
    go (Some s) op found e b = let no : rx_out.Broken q ≡ rx_out.Stopped (rx.at s) = b.0 in cc
    go None None found e b = b
    go None (Some rx_op.Stop) found e b = let no : rx_out.Broken q ≡ rx_out.Halted = b in cc
    go None (Some (rx_op.Pop max)) (Some r) e b = let end : r ≡ rx_out.End = over_calm p t all r e in let same : rx_out.Broken q ≡ r = b in cc
    go None (Some (rx_op.Pop max)) None e b = b.1
calm_read h t p (rx_out.Piece v) all is a = is
calm_read h t p rx_out.End all is a = is
calm_read h t p rx_out.NoSlot all is a = is
calm_read h t p (rx_out.Stopped q) all is a = is
calm_read h t p rx_out.Halted all is a = is

pub read_fault_told : (h : List RxOp) (f : List (ℕ × RxOut)) (p : ℕ) (o : RxOut) → IsReadFault o → RxAdmits h (trail rx.told f) p o → rx_kept.HasFault f
read_fault_told h f p o is a = elim (calm_or f) [ inl has ↦ has | inr calm ↦ absurd (calm_read h (trail rx.told f) p o calm is a) ]

-- without a fault nothing was told of a sending port
silent_or : (f : List (ℕ × TxOut)) → tx_kept.HasFault f ⊎ (trail tx.told f ≡ [])
silent_or [] = inr refl
silent_or (o ∷ os) = go o.1 (silent_or os)
  where
    go : (x : TxOut) → tx_kept.HasFault os ⊎ (trail tx.told os ≡ []) → (tx_kept.IsFault x ⊎ tx_kept.HasFault os) ⊎ (told_there o.0 (tx.told x) ++ trail tx.told os ≡ [])
    go x (inl h) = inl (inr h)
    go (tx_out.Fault k) (inr h) = inl (inl tt)
    go tx_out.Pushed (inr h) = inr h
    go (tx_out.Broken q) (inr h) = inr h
    go tx_out.Shut (inr h) = inr h
    go tx_out.Closed (inr h) = inr h
    go (tx_out.Stopped q) (inr h) = inr h
    go tx_out.Halted (inr h) = inr h

silent_write : (h : List TxOp) (p : ℕ) (o : TxOut) → IsWriteFault o → TxAdmits h [] p o → ⊥
silent_write h p (tx_out.Fault k) is a = go (first_stop tx.is_stop 0 (take p h)) (slice_get h p) (has_close (take p h)) a
  where
    go : (stop : Option ℕ) (op : Option TxOp) (closed : Bool) → TxAnswer stop op None closed None (tx_out.Fault k) → ⊥
    go (Some s) op closed b = let no : tx_out.Fault k ≡ tx_out.Stopped (rx.at s) = b.0 in cc
    go None None closed b = b
    go None (Some tx_op.Stop) closed b = let no : tx_out.Fault k ≡ tx_out.Halted = b in cc
    go None (Some tx_op.Close) true b = let no : tx_out.Fault k ≡ tx_out.Closed = b in cc
    go None (Some tx_op.Close) false b = let no : tx_out.Fault k ≡ tx_out.Shut = b in cc
    go None (Some (tx_op.Push sga)) true b = let no : tx_out.Fault k ≡ tx_out.Closed = b in cc
    go None (Some (tx_op.Push sga)) false b = let no : Some k ≡ None = b.0 in cc
silent_write h p (tx_out.Broken q) is a = go (first_stop tx.is_stop 0 (take p h)) (slice_get h p) (has_close (take p h)) a
  where
    go : (stop : Option ℕ) (op : Option TxOp) (closed : Bool) → TxAnswer stop op None closed None (tx_out.Broken q) → ⊥
    go (Some s) op closed b = let no : tx_out.Broken q ≡ tx_out.Stopped (rx.at s) = b.0 in cc
    go None None closed b = b
    go None (Some tx_op.Stop) closed b = let no : tx_out.Broken q ≡ tx_out.Halted = b in cc
    go None (Some tx_op.Close) true b = let no : tx_out.Broken q ≡ tx_out.Closed = b in cc
    go None (Some tx_op.Close) false b = let no : tx_out.Broken q ≡ tx_out.Shut = b in cc
    go None (Some (tx_op.Push sga)) true b = let no : tx_out.Broken q ≡ tx_out.Closed = b in cc
    go None (Some (tx_op.Push sga)) false b = b.1
silent_write h p tx_out.Pushed is a = is
silent_write h p tx_out.Shut is a = is
silent_write h p tx_out.Closed is a = is
silent_write h p (tx_out.Stopped q) is a = is
silent_write h p tx_out.Halted is a = is

front_none : {A : Type 0} (first more : List A) → first ++ more ≡ [] → first ≡ []
front_none [] more e = refl
front_none (x ∷ first) more e = absurd (cc)

-- a failed write that is admitted by a beginning of what was told was told
pub write_fault_told : (h : List TxOp) (known more : List (ℕ × ℕ)) (f : List (ℕ × TxOut)) (p : ℕ) (o : TxOut) → trail tx.told f ≡ known ++ more → IsWriteFault o → TxAdmits h known p o → tx_kept.HasFault f
write_fault_told h known more f p o begins is a = elim (silent_or f) [
  | inl has ↦ has
  | inr silent ↦ absurd (silent_write h p o is (subst (λ (t : List (ℕ × ℕ)). TxAdmits h t p o) (front_none known more (sym begins ∙ silent)) a))
]

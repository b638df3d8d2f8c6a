-- What a sending engine keeps, one operation further.
use Rattle.std.proofs.Common.{◌≡◌, ◌≢◌, ℕ, ◌+◌, ◌<◌, ◌≤◌, List, [], ◌∷◌, ◌++◌, length, take, Option, Some, None, Bool, true, false, cond, refl, sym, ap, ◌∙◌, arith, subst, length-append}
use Rattle.std.specs.Prelude.{ltb, slice_get}
use Rattle.std.proofs.Math.Seq.{take-append_seam}
use Rattle.demi_port_core.specs.Trails.{told_at as telling}
use Rattle.demi_port_core.specs.History.{Each}
use Rattle.demi_device.specs.Serving.{first_stop, trail, places, above, AllCome}
use Rattle.demi_heap.specs.Seen.{HalfValue}
use Rattle.demi_sga.specs.Arrays.{byte_count}
use Rattle.demi_streamq.specs.declared.tx_op.TxOp.{TxOp}
use Rattle.demi_streamq.specs.declared.tx_op.TxOp.TheVariants.{Push, Close, Stop}
use Rattle.demi_streamq.specs.declared.tx_out.TxOut.{TxOut}
use Rattle.demi_streamq.specs.declared.tx_out.TxOut.TheVariants.{Pushed, Fault, Broken, Shut, Closed, Stopped, Halted}
use Rattle.demi_streamq.specs.Receiving.{at, told_at}
use Rattle.demi_streamq.specs.RxKept.{InOrder}
use Rattle.demi_streamq.specs.Sending.{broken_at, has_close, is_close, is_stop, told, TxAdmits, TxAnswer, TxCalm}
use Rattle.demi_streamq.specs.TxKept.{TxKept}
use Rattle.demi_streamq.proofs.Orders.{or, low, not_low, Lows, lows_of, trail_more, told_past, told_here, or_none, stop_append, order_more, get_last, fresh, none_above, may_tell}

broken_append : (p : ℕ) (a b : List (ℕ × ℕ)) → broken_at p (a ++ b) ≡ or (broken_at p a) (broken_at p b)
unfolding or
broken_append p [] b = refl
broken_append p (e ∷ es) b = pick (ltb e.0 p) (broken_append p es b)
  where
    pick : (c : Bool) → broken_at p (es ++ b) ≡ or (broken_at p es) (broken_at p b) → cond c (Some e.0) (broken_at p (es ++ b)) ≡ or (cond c (Some e.0) (broken_at p es)) (broken_at p b)
    pick true h = refl
    pick false h = h

broken_next : (p : ℕ) (t : List (ℕ × ℕ)) → Lows p t → broken_at (p + 1) t ≡ broken_at p t
broken_next p [] l = refl
broken_next p (e ∷ es) l =
    let lt = l.0 in
    ap (λ b. cond b (Some e.0) (broken_at (p + 1) es)) (low e.0 (p + 1) (omega arith)) ∙ sym (ap (λ b. cond b (Some e.0) (broken_at p es)) (low e.0 p lt))

broken_here : (p : ℕ) (t : Option ℕ) → broken_at p (telling p t) ≡ None
broken_here p None = refl
broken_here p (Some t) = ap (λ b. cond b (Some p) None) (not_low p)

broken_now : (n k : ℕ) → broken_at (n + 1) (telling n (Some k)) ≡ Some n
broken_now n k = ap (λ b. cond b (Some n) None) (low n (n + 1) (omega arith))

close_more : (h : List TxOp) (op : TxOp) → has_close (h ++ op ∷ []) ≡ cond (has_close h) true (is_close op)
close_more [] op = pick (is_close op)
  where
    pick : (c : Bool) → cond c true false ≡ c
    pick true = refl
    pick false = refl
close_more (x ∷ xs) op = pick (is_close x) (close_more xs op)
  where
    pick : (c : Bool) → has_close (xs ++ op ∷ []) ≡ cond (has_close xs) true (is_close op) → cond c true (has_close (xs ++ op ∷ [])) ≡ cond (cond c true (has_close xs)) true (is_close op)
    pick true e = refl
    pick false e = e

no_none : {A : Type 0} (o : Option A) (a : A) → o ≡ Some a → o ≡ None → ⊥
no_none o a e n = let x = sym e ∙ n in absurd (cc)

abbrev pub Both : List TxOp → List (ℕ × TxOut) → TxOp → TxOut → Bool → Option ℕ → Option ℕ → Type 0
Both h f op o closed broken stop = TxKept (h ++ op ∷ []) (f ++ (length h, o) ∷ []) closed broken stop × TxAdmits (h ++ op ∷ []) (trail told (f ++ (length h, o) ∷ [])) (length h) o

module _ (h : List TxOp) (f : List (ℕ × TxOut)) (closed : Bool) (broken stop : Option ℕ) (k : TxKept h f closed broken stop) where
  lows : Lows (length h) (trail told f)
  lows = lows_of told (length h) 0 f k.order (let c = k.count in omega arith)

  -- the outcome o is admitted, where the state says so
  admits : (op : TxOp) (o : TxOut) → TxAnswer stop (Some op) broken (has_close h) (told o) o → TxAdmits (h ++ op ∷ []) (trail told (f ++ (length h, o) ∷ [])) (length h) o
  admits op o is =
      let n = length h in let t = trail told f in
      let e1 : broken_at n (trail told (f ++ (n, o) ∷ [])) ≡ broken = ap (broken_at n) (trail_more told f n o) ∙ broken_append n t (telling n (told o)) ∙ ap (or (broken_at n t)) (broken_here n (told o)) ∙ or_none (broken_at n t) ∙ sym k.broken_is in
      let e2 : told_at n (trail told (f ++ (n, o) ∷ [])) ≡ told o = ap (told_at n) (trail_more told f n o) ∙ told_past n t (telling n (told o)) lows ∙ told_here n (told o) in
      let e3 : take n (h ++ op ∷ []) ≡ h = take-append_seam h (op ∷ []) in
      let e4 : slice_get (h ++ op ∷ []) n ≡ Some op = get_last h op in
      rw (e1, e2, e3, e4, sym k.stop_is) is

  -- the state afterwards
  kept : (op : TxOp) (o : TxOut) (closed' : Bool) (broken' stop' : Option ℕ) → broken' ≡ or broken (broken_at (length h + 1) (telling (length h) (told o))) → stop' ≡ or stop (first_stop is_stop (length h) (op ∷ [])) → (stop' ≡ None → broken' ≡ None → closed' ≡ has_close (h ++ op ∷ [])) → TxKept (h ++ op ∷ []) (f ++ (length h, o) ∷ []) closed' broken' stop'
  kept op o closed' broken' stop' eb es ec =
      let n = length h in let t = trail told f in let len : length (h ++ op ∷ []) ≡ n + 1 = length-append h (op ∷ []) in
      record {
        order = order_more 0 n f o k.order (let c = k.count in omega arith);
        count = let a = length-append f ((n, o) ∷ []) in let c = k.count in omega arith;
        broken_is =
            eb ∙ ap (λ b. or b (broken_at (n + 1) (telling n (told o)))) (k.broken_is ∙ sym (broken_next n t lows)) ∙ sym (broken_append (n + 1) t (telling n (told o))) ∙ sym (ap (broken_at (n + 1)) (trail_more told f n o))
            ∙ sym (ap (λ i. broken_at i (trail told (f ++ (n, o) ∷ []))) len);
        stop_is = es ∙ ap (λ s. or s (first_stop is_stop n (op ∷ []))) k.stop_is ∙ sym (stop_append is_stop 0 n h op (omega arith));
        closed_is = ec;
      }

  -- each place has its outcome
  pub tx_all : (p : ℕ) → p < length h → Each (λ q. q ≢ p) (places f) → ⊥
  tx_all p lt pends = none 0 p f k.order (omega arith) (let c = k.count in omega arith) pends
    where
      none : (i p : ℕ) (f : List (ℕ × TxOut)) → InOrder i f → i ≤ p → p < i + length f → Each (λ q. q ≢ p) (places f) → ⊥
      none i p [] o le lt pends = omega arith
      none i p (x ∷ xs) o le lt pends = let ne = pends.0 in let e = o.0 in none (i + 1) p xs o.1 (let d : i ≢ p = λ s. ne (e ∙ s) in omega arith) (omega arith) pends.1

  -- the flags stay
  same_broken : broken ≡ or broken None
  same_broken = sym (or_none broken)

  same_stop : (op : TxOp) → is_stop op ≡ false → stop ≡ or stop (first_stop is_stop (length h) (op ∷ []))
  same_stop op ns = sym (or_none stop) ∙ ap (λ c. or stop (cond c (Some (length h)) None)) (sym ns)

  pub tx_stopped : (op : TxOp) (s : ℕ) → stop ≡ Some s → Both h f op (Stopped (at s)) closed broken stop
  unfolding or
  tx_stopped op s e = (
    kept op (Stopped (at s)) closed broken stop same_broken (e ∙ ap (λ x. or x (first_stop is_stop (length h) (op ∷ []))) (sym e)) (λ n b. absurd (no_none stop s e n)),
    admits op (Stopped (at s)) (subst (λ x. TxAnswer x (Some op) broken (has_close h) None (Stopped (at s))) (sym e) (refl, tt)),
  )

  broken_answer : (op : TxOp) (b : ℕ) (c : Bool) → is_stop op ≡ false → TxCalm (Some op) (Some b) c None (Broken (at b))
  broken_answer (Push sga) b c ns = refl
  broken_answer Close b c ns = refl
  broken_answer Stop b c ns = absurd (cc)

  pub tx_broken : (op : TxOp) (b : ℕ) → is_stop op ≡ false → stop ≡ None → broken ≡ Some b → Both h f op (Broken (at b)) closed broken stop
  tx_broken op b ns e g = (
    kept op (Broken (at b)) closed broken stop same_broken (same_stop op ns) (λ n m. absurd (no_none broken b g m)),
    admits op (Broken (at b)) (subst (λ x. TxAnswer x (Some op) broken (has_close h) None (Broken (at b))) (sym e) (subst (λ x. TxCalm (Some op) x (has_close h) None (Broken (at b))) (sym g) (broken_answer op b (has_close h) ns))),
  )

  closed_answer : (op : TxOp) → is_stop op ≡ false → TxCalm (Some op) None true None Closed
  closed_answer (Push sga) ns = refl
  closed_answer Close ns = refl
  closed_answer Stop ns = absurd (cc)

  -- before a stop and a failure the outcome is by the flag
  by_flag : (op : TxOp) (o : TxOut) (c : Bool) → stop ≡ None → broken ≡ None → closed ≡ c → TxCalm (Some op) None c (told o) o → TxAnswer stop (Some op) broken (has_close h) (told o) o
  by_flag op o c e g is calm =
      subst (λ x. TxAnswer x (Some op) broken (has_close h) (told o) o) (sym e) (subst (λ x. TxCalm (Some op) x (has_close h) (told o) o) (sym g) (subst (λ x. TxCalm (Some op) None x (told o) o) (sym is ∙ k.closed_is e g) calm))

  -- the flag afterwards
  flag_more : (op : TxOp) (c : Bool) → stop ≡ None → broken ≡ None → closed ≡ c → cond c true (is_close op) ≡ has_close (h ++ op ∷ [])
  flag_more op c e g is = ap (λ x. cond x true (is_close op)) (sym is ∙ k.closed_is e g) ∙ sym (close_more h op)

  pub tx_closed : (op : TxOp) → is_stop op ≡ false → stop ≡ None → broken ≡ None → closed ≡ true → Both h f op Closed closed broken stop
  tx_closed op ns e g is =
      (kept op Closed closed broken stop same_broken (same_stop op ns) (λ n m. is ∙ flag_more op true e g is), admits op Closed (by_flag op Closed true e g is (closed_answer op ns)))

  pub tx_shut : stop ≡ None → broken ≡ None → closed ≡ false → Both h f Close Shut true broken stop
  tx_shut e g is = (kept Close Shut true broken stop same_broken (same_stop Close refl) (λ n m. flag_more Close false e g is), admits Close Shut (by_flag Close Shut false e g is refl))

  pub tx_halted : (s : ℕ) → s ≡ length h → stop ≡ None → Both h f Stop Halted closed broken (Some s)
  unfolding or
  tx_halted s here e = (
    kept Stop Halted closed broken (Some s) same_broken (ap Some here ∙ ap (λ x. or x (Some (length h))) (sym e)) (λ n m. absurd (no_none (Some s) s refl n)),
    admits Stop Halted (subst (λ x. TxAnswer x (Some Stop) broken (has_close h) None Halted) (sym e) refl),
  )

  pub tx_pushed : (sga : List HalfValue) → stop ≡ None → broken ≡ None → closed ≡ false → Both h f (Push sga) Pushed closed broken stop
  tx_pushed sga e g is = (kept (Push sga) Pushed closed broken stop same_broken (same_stop (Push sga) refl) (λ n m. is ∙ flag_more (Push sga) false e g is), admits (Push sga) Pushed (by_flag (Push sga) Pushed false e g is (refl, tt)))

  pub tx_fault : (sga : List HalfValue) (n b : ℕ) → stop ≡ None → broken ≡ None → closed ≡ false → n < byte_count sga → b ≡ length h → Both h f (Push sga) (Fault n) closed (Some b) stop
  unfolding or
  tx_fault sga n b e g is lt here = (
    kept (Push sga) (Fault n) closed (Some b) stop (ap Some here ∙ sym (broken_now (length h) n) ∙ ap (λ x. or x (broken_at (length h + 1) (telling (length h) (Some n)))) (sym g)) (same_stop (Push sga) refl) (λ m l. absurd (no_none (Some b) b refl l)),
    admits (Push sga) (Fault n) (by_flag (Push sga) (Fault n) false e g is (refl, lt)),
  )

-- the outcome of one operation comes rightly
pub tx_comes : (h : List TxOp) (f : List (ℕ × TxOut)) (closed : Bool) (broken stop : Option ℕ) → TxKept h f closed broken stop → (p : ℕ) → p ≡ length h → (op : TxOp) (o : TxOut) → TxAdmits (h ++ op ∷ []) (trail told (f ++ (p, o) ∷ [])) p o → (hv : List TxOp) → hv ≡ h ++ op ∷ [] → (added : List (ℕ × TxOut)) → added ≡ (p, o) ∷ [] → AllCome (length hv) told (λ t p o. TxAdmits hv t p o) (trail told f) (places f) added
tx_comes h f closed broken stop k p next op o is hv eh added ea =
    let len = length-append h (op ∷ []) in let c = k.count in
    subst (λ l. AllCome (length hv) told (λ t p o. TxAdmits hv t p o) (trail told f) (places f) l) (sym ea)
    (subst (λ v. AllCome (length v) told (λ t p o. TxAdmits v t p o) (trail told f) (places f) ((p, o) ∷ [])) (sym eh)
    (record { served = omega arith; open_yet = fresh p 0 f k.order (omega arith); may_tell = may_tell (above (places f)) p (told o) (none_above p 0 f k.order (omega arith)); admitted = subst (λ t. TxAdmits (h ++ op ∷ []) t p o) (trail_more told f p o) is }, tt))

pub tx_none : (h hv : List TxOp) (f fv : List (ℕ × TxOut)) (closed : Bool) (broken stop : Option ℕ) → TxKept h f closed broken stop → hv ≡ h → fv ≡ f → (p : ℕ) → p < length hv → Each (λ q. q ≢ p) (places fv) → ⊥
tx_none h hv f fv closed broken stop k eh ef p lt pends = tx_all h f closed broken stop k p (subst (λ l. p < length l) eh lt) (subst (λ l. Each (λ q. q ≢ p) (places l)) ef pends)

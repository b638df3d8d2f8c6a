-- What a receiving engine keeps, one operation further.
use Rattle.std.proofs.Common.{◌≡◌, ◌≢◌, ℕ, ◌+◌, ◌<◌, ◌≤◌, List, [], ◌∷◌, ◌++◌, length, take, Option, Some, None, Bool, true, false, cond, refl, sym, ap, ◌∙◌, arith, subst, length-append, append_assoc}
use Rattle.std.specs.Prelude.{ltb, slice_get}
use Rattle.std.proofs.Math.Seq.{take-append_seam}
use Rattle.demi_port_core.specs.declared.place.Place.{Place}
use Rattle.demi_port_core.specs.Trails.{told_at as telling}
use Rattle.demi_port_core.specs.History.{Each}
use Rattle.demi_device.specs.Serving.{first_stop, trail, places, above, AllCome}
use Rattle.demi_streamq.specs.declared.rx_op.RxOp.{RxOp}
use Rattle.demi_streamq.specs.declared.rx_out.RxOut.{RxOut}
use Rattle.demi_streamq.specs.declared.rx_op.RxOp.TheVariants.{Pop, Stop}
use Rattle.demi_streamq.specs.declared.rx_out.RxOut.TheVariants.{End, Fault, Broken, NoSlot, Stopped, Halted}
use Rattle.demi_streamq.specs.declared.rx_told.RxTold.{RxTold}
use Rattle.demi_streamq.specs.declared.rx_told.RxTold.TheVariants.{Bytes, AtEnd, Failed, Refused}
use Rattle.demi_streamq.specs.Receiving.{IsFrom, is_stop, told, at, over, over_by, told_at, bytes_in, bytes_before, IsRead, RxAnswer, RxAdmits}
use Rattle.demi_heap.specs.Seen.{HeapId}
use Rattle.demi_streamq.specs.RxSteady.{append_none}
use Rattle.demi_streamq.proofs.Orders.{or, low, not_low, Lows, lows_of, trail_more, told_past, told_here, or_none, stop_append, order_more, get_last, fresh, none_above, may_tell}
use Rattle.demi_streamq.specs.RxKept.{InOrder, over_of, RxKept}

by_or : (e : RxTold) (k : ℕ) (a b : Option RxOut) → over_by e k (or a b) ≡ or (over_by e k a) b
unfolding or
by_or AtEnd k a b = refl
by_or (Failed n) k a b = refl
by_or (Bytes bs) k a b = refl
by_or Refused k a b = refl

pub over_append : (p : ℕ) (a b : List (ℕ × RxTold)) → over p (a ++ b) ≡ or (over p a) (over p b)
unfolding or
over_append p [] b = refl
over_append p (e ∷ es) b = pick (ltb e.0 p) (over_append p es b)
  where
    pick : (c : Bool) → over p (es ++ b) ≡ or (over p es) (over p b) → cond c (over_by e.1 e.0 (over p (es ++ b))) (over p (es ++ b)) ≡ or (cond c (over_by e.1 e.0 (over p es)) (over p es)) (over p b)
    pick true h = ap (over_by e.1 e.0) h ∙ by_or e.1 e.0 (over p es) (over p b)
    pick false h = h

pub over_next : (p : ℕ) (t : List (ℕ × RxTold)) → Lows p t → over (p + 1) t ≡ over p t
over_next p [] l = refl
over_next p (e ∷ es) l = let lt = l.0 in ap (λ b. cond b (over_by e.1 e.0 (over (p + 1) es)) (over (p + 1) es)) (low e.0 (p + 1) (omega arith)) ∙ ap (over_by e.1 e.0) (over_next p es l.1) ∙ sym (ap (λ b. cond b (over_by e.1 e.0 (over p es)) (over p es)) (low e.0 p lt))

pub bytes_append : (p : ℕ) (a b : List (ℕ × RxTold)) → bytes_before p (a ++ b) ≡ bytes_before p a ++ bytes_before p b
bytes_append p [] b = refl
bytes_append p (e ∷ es) b = ap (λ l. cond (ltb e.0 p) (bytes_in e.1) [] ++ l) (bytes_append p es b) ∙ sym (append_assoc (cond (ltb e.0 p) (bytes_in e.1) []) (bytes_before p es) (bytes_before p b))

pub bytes_next : (p : ℕ) (t : List (ℕ × RxTold)) → Lows p t → bytes_before (p + 1) t ≡ bytes_before p t
bytes_next p [] l = refl
bytes_next p (e ∷ es) l = let lt = l.0 in ap (λ b. cond b (bytes_in e.1) [] ++ bytes_before (p + 1) es) (low e.0 (p + 1) (omega arith)) ∙ ap (λ m. bytes_in e.1 ++ m) (bytes_next p es l.1) ∙ sym (ap (λ b. cond b (bytes_in e.1) [] ++ bytes_before p es) (low e.0 p lt))

pub over_here : (p : ℕ) (t : Option RxTold) → over p (telling p t) ≡ None
over_here p None = refl
over_here p (Some t) = ap (λ b. cond b (over_by t p None) None) (not_low p)

pub bytes_here : (p : ℕ) (t : Option RxTold) → bytes_before p (telling p t) ≡ []
bytes_here p None = refl
bytes_here p (Some t) = ap (λ b. cond b (bytes_in t) [] ++ []) (not_low p)

module _ (h : List RxOp) (f : List (ℕ × RxOut)) (at_end : Bool) (broken : Option Place) (stop : Option ℕ) (taken : ℕ) (k : RxKept h f at_end broken stop taken) where
  lows : Lows (length h) (trail told f)
  lows = lows_of told (length h) 0 f k.order (let c = k.count in omega arith)

  -- the outcome o is admitted, where the state says so
  pub rx_admits : (op : RxOp) (o : RxOut) → RxAnswer stop (Some op) (over_of at_end broken) (told o) taken o → RxAdmits (h ++ op ∷ []) (trail told (f ++ (length h, o) ∷ [])) (length h) o
  rx_admits op o is =
      let n = length h in let t = trail told f in
      let e1 : over n (trail told (f ++ (n, o) ∷ [])) ≡ over_of at_end broken = ap (over n) (trail_more told f n o) ∙ over_append n t (telling n (told o)) ∙ ap (or (over n t)) (over_here n (told o)) ∙ or_none (over n t) ∙ k.found in
      let e2 : told_at n (trail told (f ++ (n, o) ∷ [])) ≡ told o = ap (told_at n) (trail_more told f n o) ∙ told_past n t (telling n (told o)) lows ∙ told_here n (told o) in
      let e3 : length (bytes_before n (trail told (f ++ (n, o) ∷ []))) ≡ taken = ap (λ l. length (bytes_before n l)) (trail_more told f n o) ∙ ap length (bytes_append n t (telling n (told o)) ∙ ap (λ l. bytes_before n t ++ l) (bytes_here n (told o)) ∙ append_none (bytes_before n t)) ∙ sym k.taken_is in
      let e4 : first_stop is_stop 0 (take n (h ++ op ∷ [])) ≡ stop = ap (first_stop is_stop 0) (take-append_seam h (op ∷ [])) ∙ sym k.stop_is in
      let e5 : slice_get (h ++ op ∷ []) n ≡ Some op = get_last h op in
      rw (e1, e2, e3, e4, e5) is

  -- the state afterwards
  pub rx_kept : (op : RxOp) (o : RxOut) (at_end' : Bool) (broken' : Option Place) (stop' : Option ℕ) (taken' : ℕ) → or (over_of at_end broken) (over (length h + 1) (telling (length h) (told o))) ≡ over_of at_end' broken' → stop' ≡ or stop (first_stop is_stop (length h) (op ∷ [])) → taken' ≡ taken + length (bytes_before (length h + 1) (telling (length h) (told o))) → RxKept (h ++ op ∷ []) (f ++ (length h, o) ∷ []) at_end' broken' stop' taken'
  rx_kept op o at_end' broken' stop' taken' eo es et =
      let n = length h in let t = trail told f in let len : length (h ++ op ∷ []) ≡ n + 1 = length-append h (op ∷ []) in
      record {
        order = order_more 0 n f o k.order (let c = k.count in omega arith);
        count = let a = length-append f ((n, o) ∷ []) in let c = k.count in omega arith;
        found = ap (λ i. over i (trail told (f ++ (n, o) ∷ []))) len ∙ ap (over (n + 1)) (trail_more told f n o) ∙ over_append (n + 1) t (telling n (told o)) ∙ ap (λ a. or a (over (n + 1) (telling n (told o)))) (over_next n t lows ∙ k.found) ∙ eo;
        stop_is = es ∙ ap (λ s. or s (first_stop is_stop n (op ∷ []))) k.stop_is ∙ sym (stop_append is_stop 0 n h op (omega arith));
        taken_is =
            let a = ap length (ap (λ i. bytes_before i (trail told (f ++ (n, o) ∷ []))) len ∙ ap (bytes_before (n + 1)) (trail_more told f n o) ∙ bytes_append (n + 1) t (telling n (told o)) ∙ ap (λ l. l ++ bytes_before (n + 1) (telling n (told o))) (bytes_next n t lows)) in
            let b = length-append (bytes_before n t) (bytes_before (n + 1) (telling n (told o))) in let c = k.taken_is in omega arith;
      }

  -- each place has its outcome
  pub rx_all : (p : ℕ) → p < length h → Each (λ q. q ≢ p) (places f) → ⊥
  rx_all p lt pends = none 0 p f k.order (omega arith) (let c = k.count in omega arith) pends
    where
      none : (i p : ℕ) (f : List (ℕ × RxOut)) → InOrder i f → i ≤ p → p < i + length f → Each (λ q. q ≢ p) (places f) → ⊥
      none i p [] o le lt pends = omega arith
      none i p (x ∷ xs) o le lt pends = let ne = pends.0 in let e = o.0 in none (i + 1) p xs o.1 (let d : i ≢ p = λ s. ne (e ∙ s) in omega arith) (omega arith) pends.1

abbrev pub Both : List RxOp → List (ℕ × RxOut) → RxOp → ℕ → RxOut → Bool → Option Place → Option ℕ → ℕ → Type 0
Both h f op p o at_end broken stop taken = RxKept (h ++ op ∷ []) (f ++ (p, o) ∷ []) at_end broken stop taken × RxAdmits (h ++ op ∷ []) (trail told (f ++ (p, o) ∷ [])) p o

over_one : (n : ℕ) (t : RxTold) → over (n + 1) (telling n (Some t)) ≡ over_by t n None
over_one n t = ap (λ b. cond b (over_by t n None) None) (low n (n + 1) (omega arith))

bytes_one : (n : ℕ) (t : RxTold) → length (bytes_before (n + 1) (telling n (Some t))) ≡ length (bytes_in t)
bytes_one n t = ap (λ b. length (cond b (bytes_in t) [] ++ [])) (low n (n + 1) (omega arith)) ∙ ap length (append_none (bytes_in t))

module _ (h : List RxOp) (f : List (ℕ × RxOut)) (at_end : Bool) (broken : Option Place) (stop : Option ℕ) (taken : ℕ) (k : RxKept h f at_end broken stop taken) (p : ℕ) (next : p ≡ length h) where
  step : (op : RxOp) (o : RxOut) (at_end' : Bool) (broken' : Option Place) (stop' : Option ℕ) (taken' : ℕ) → RxAnswer stop (Some op) (over_of at_end broken) (told o) taken o → or (over_of at_end broken) (over (length h + 1) (telling (length h) (told o))) ≡ over_of at_end' broken' → stop' ≡ or stop (first_stop is_stop (length h) (op ∷ [])) → taken' ≡ taken + length (bytes_before (length h + 1) (telling (length h) (told o))) → Both h f op p o at_end' broken' stop' taken'
  step op o at_end' broken' stop' taken' is eo es et = subst (λ n. Both h f op n o at_end' broken' stop' taken') (sym next) (rx_kept h f at_end broken stop taken k op o at_end' broken' stop' taken' eo es et, rx_admits h f at_end broken stop taken k op o is)

  pub rx_stopped : (op : RxOp) (s : ℕ) → stop ≡ Some s → Both h f op p (Stopped (at s)) at_end broken stop taken
  unfolding or
  rx_stopped op s e =
      step op (Stopped (at s)) at_end broken stop taken (subst (λ s'. RxAnswer s' (Some op) (over_of at_end broken) None taken (Stopped (at s))) (sym e) (refl, tt)) (or_none (over_of at_end broken)) (e ∙ ap (λ s. or s (first_stop is_stop (length h) (op ∷ []))) (sym e)) (omega arith)

  pub rx_halted : (op : RxOp) → stop ≡ None → op ≡ Stop → Both h f op p Halted at_end broken (Some p) taken
  unfolding or
  rx_halted op e is =
      subst (λ o. Both h f o p Halted at_end broken (Some p) taken) (sym is)
      (step Stop Halted at_end broken (Some p) taken (subst (λ s'. RxAnswer s' (Some Stop) (over_of at_end broken) None taken Halted) (sym e) refl) (or_none (over_of at_end broken)) (ap Some next ∙ ap (λ s. or s (Some (length h))) (sym e)) (omega arith))

  calm : (max : ℕ) → stop ≡ None → stop ≡ or stop (first_stop is_stop (length h) (Pop max ∷ []))
  unfolding or
  calm max e = e ∙ ap (λ s. or s None) (sym e)

  pub rx_end_again : (op : RxOp) (max : ℕ) → stop ≡ None → op ≡ Pop max → at_end ≡ true → Both h f op p End at_end broken stop taken
  unfolding or
  rx_end_again op max e is ended =
      subst (λ o. Both h f o p End at_end broken stop taken) (sym is)
      (step (Pop max) End at_end broken stop taken (subst (λ s'. RxAnswer s' (Some (Pop max)) (over_of at_end broken) (Some AtEnd) taken End) (sym e) (subst (λ b. Rattle.demi_streamq.specs.Receiving.RxRead max (over_of b broken) (Some AtEnd) taken End) (sym ended) refl))
      (ap (λ b. or (over_of b broken) (over (length h + 1) (telling (length h) (Some AtEnd)))) ended ∙ sym (ap (λ b. over_of b broken) ended)) (calm max e) (let b = bytes_one (length h) AtEnd in omega arith))

  pub rx_broken : (op : RxOp) (max : ℕ) (b : Place) → stop ≡ None → op ≡ Pop max → at_end ≡ false → broken ≡ Some b → Both h f op p (Broken b) at_end broken stop taken
  unfolding or
  rx_broken op max b e is open_ gone =
      let found : over_of at_end broken ≡ Some (Broken b) = ap (λ b. over_of b broken) open_ ∙ ap (over_of false) gone in
      subst (λ o. Both h f o p (Broken b) at_end broken stop taken) (sym is)
      (step (Pop max) (Broken b) at_end broken stop taken (subst (λ s'. RxAnswer s' (Some (Pop max)) (over_of at_end broken) None taken (Broken b)) (sym e) (subst (λ r. Rattle.demi_streamq.specs.Receiving.RxRead max r None taken (Broken b)) (sym found) refl))
      (or_none (over_of at_end broken)) (calm max e) (omega arith))

  -- a read was made
  read : (op : RxOp) (max : ℕ) (t : RxTold) (o : RxOut) (at_end' : Bool) (broken' : Option Place) (taken' : ℕ) → stop ≡ None → op ≡ Pop max → at_end ≡ false → broken ≡ None → told o ≡ Some t → IsRead max taken o → over_by t (length h) None ≡ over_of at_end' broken' → taken' ≡ taken + length (bytes_in t) → Both h f op p o at_end' broken' stop taken'
  unfolding or
  read op max t o at_end' broken' taken' e is open_ whole tells got eo et =
      let found : over_of at_end broken ≡ None = ap (λ b. over_of b broken) open_ ∙ ap (over_of false) whole in
      subst (λ q. Both h f q p o at_end' broken' stop taken') (sym is)
      (step (Pop max) o at_end' broken' stop taken' (subst (λ s'. RxAnswer s' (Some (Pop max)) (over_of at_end broken) (told o) taken o) (sym e) (subst (λ r. Rattle.demi_streamq.specs.Receiving.RxRead max r (told o) taken o) (sym found) (refl, got)))
      (ap (λ r. or r (over (length h + 1) (telling (length h) (told o)))) found ∙ ap (λ x. over (length h + 1) (telling (length h) x)) tells ∙ over_one (length h) t ∙ eo) (calm max e)
      (let b = ap (λ x. length (bytes_before (length h + 1) (telling (length h) x))) tells in let c = bytes_one (length h) t in omega arith))

  pub rx_end : (op : RxOp) (max : ℕ) → stop ≡ None → op ≡ Pop max → at_end ≡ false → broken ≡ None → Both h f op p End true broken stop taken
  rx_end op max e is open_ whole = read op max AtEnd End true broken taken e is open_ whole refl tt refl (omega arith)

  pub rx_fault : (op : RxOp) (max n : ℕ) (b : Place) → stop ≡ None → op ≡ Pop max → at_end ≡ false → broken ≡ None → n ≡ taken → b.0 ≡ p → Both h f op p (Fault n) at_end (Some b) stop taken
  rx_fault op max n b e is open_ whole got here =
      read op max (Failed n) (Fault n) at_end (Some b) taken e is open_ whole refl got (ap (λ i. Some (Broken (at i))) (sym (here ∙ next)) ∙ sym (ap (λ c. over_of c (Some b)) open_)) (omega arith)

  pub rx_refused : (op : RxOp) (max : ℕ) → stop ≡ None → op ≡ Pop max → at_end ≡ false → broken ≡ None → Both h f op p NoSlot at_end broken stop taken
  rx_refused op max e is open_ whole = read op max Refused NoSlot at_end broken taken e is open_ whole refl tt (sym (ap (λ b. over_of b broken) open_ ∙ ap (over_of false) whole)) (omega arith)

  pub rx_piece : (op : RxOp) (max : ℕ) (bs : List ℕ) (o : RxOut) (taken' : ℕ) → stop ≡ None → op ≡ Pop max → at_end ≡ false → broken ≡ None → told o ≡ Some (Bytes bs) → IsRead max taken o → taken' ≡ taken + length bs → Both h f op p o at_end broken stop taken'
  rx_piece op max bs o taken' e is open_ whole tells got et = read op max (Bytes bs) o at_end broken taken' e is open_ whole tells got (sym (ap (λ b. over_of b broken) open_ ∙ ap (over_of false) whole)) et

-- the outcome of one operation comes rightly
pub rx_comes : (heap : HeapId) (h : List RxOp) (f : List (ℕ × RxOut)) (at_end : Bool) (broken : Option Place) (stop : Option ℕ) (taken : ℕ) → RxKept h f at_end broken stop taken → (p : ℕ) → p ≡ length h → (op : RxOp) (o : RxOut) → RxAdmits (h ++ op ∷ []) (trail told (f ++ (p, o) ∷ [])) p o → IsFrom heap o → (hv : List RxOp) → hv ≡ h ++ op ∷ [] → (added : List (ℕ × RxOut)) → added ≡ (p, o) ∷ [] → AllCome (length hv) told (λ t p o. RxAdmits hv t p o × IsFrom heap o) (trail told f) (places f) added
rx_comes heap h f at_end broken stop taken k p next op o is from hv eh added ea =
    let len = length-append h (op ∷ []) in let c = k.count in
    subst (λ l. AllCome (length hv) told (λ t p o. RxAdmits hv t p o × IsFrom heap o) (trail told f) (places f) l) (sym ea)
    (subst (λ v. AllCome (length v) told (λ t p o. RxAdmits v t p o × IsFrom heap o) (trail told f) (places f) ((p, o) ∷ [])) (sym eh)
    (record { served = omega arith; open_yet = fresh p 0 f k.order (omega arith); may_tell = may_tell (above (places f)) p (told o) (none_above p 0 f k.order (omega arith)); admitted = (subst (λ t. RxAdmits (h ++ op ∷ []) t p o) (trail_more told f p o) is, from) }, tt))

pub rx_none : (h hv : List RxOp) (f fv : List (ℕ × RxOut)) (at_end : Bool) (broken : Option Place) (stop : Option ℕ) (taken : ℕ) → RxKept h f at_end broken stop taken → hv ≡ h → fv ≡ f → (p : ℕ) → p < length hv → Each (λ q. q ≢ p) (places fv) → ⊥
rx_none h hv f fv at_end broken stop taken k eh ef p lt pends = rx_all h f at_end broken stop taken k p (subst (λ l. p < length l) eh lt) (subst (λ l. Each (λ q. q ≢ p) (places l)) ef pends)

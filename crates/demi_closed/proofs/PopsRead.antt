-- The pops of a link before each read that the outcomes of its receiving port say.
use Rattle.std.proofs.Common.{◌≡◌, ◌≢◌, ℕ, zero, suc, ◌+◌, ◌<◌, ◌≤◌, Bool, true, false, List, [], ◌∷◌, ◌++◌, Some, None, Option, length, refl, arith, ◌∙◌, ap, sym, subst, cond, inl, inr, append-nil}
use Rattle.std.specs.Prelude.{ltb, slice_get, take, unwrap_or}
use Rattle.std.proofs.lemmas.Bool.{cases_eq, cases_lt}
use Rattle.demi_core.specs.Outside.{bytes_given}
use Rattle.demi_device.specs.Serving.{RiseFrom, first_stop}
use Rattle.demi_link.specs.Dues.{AllMore, IsMore}
use Rattle.demi_port_core.specs.History.{Each}
use Rattle.demi_served.specs.Reading.{IsPlaceOf}
use Rattle.demi_streamq.specs.Receiving.{IsRead, RxAdmits, RxAnswer, at, bytes_before, is_stop, over, over_by, told, told_at}
use Rattle.demi_streamq.specs.RxKept.{InOrder, all_bytes, bytes_of, ended_after}
use Rattle.demi_streamq.specs.declared.rx_op.RxOp.{RxOp}
use Rattle.demi_streamq.specs.declared.rx_op.RxOp.TheVariants.{Pop, Stop}
use Rattle.demi_streamq.specs.declared.rx_out.RxOut.{RxOut}
use Rattle.demi_streamq.specs.declared.rx_out.RxOut.TheVariants.{Piece, End, Fault, Broken, NoSlot, Stopped, Halted}
use Rattle.demi_streamq.specs.declared.rx_told.RxTold.{RxTold}
use Rattle.demi_streamq.specs.declared.rx_told.RxTold.TheVariants.{AtEnd, Bytes, Failed, Refused}
use Rattle.demi_closed.specs.Reading.{EachGaveSome}
use Rattle.demi_closed.proofs.ReadsOf.{few, read_of, reads_of}

some_is : {X : Type 0} {x y : X} → Some x ≡ Some y → x ≡ y
some_is e = cc

-- behind what a pop finds over the input does not go on
no_more : (p : ℕ) (t : List (ℕ × RxTold)) (r : RxOut) → over p t ≡ Some r → IsMore r → ⊥
no_more p [] r e more = absurd (cc)
no_more p (x ∷ t) r e more = go (λ h. no_more p t r h more) (ltb x.0 p) e
  where
    by : (over p t ≡ Some r → ⊥) → (y : RxTold) → over_by y x.0 (over p t) ≡ Some r → ⊥
    by rest AtEnd h = subst IsMore (sym (some_is h)) more
    by rest (Failed n) h = subst IsMore (sym (some_is h)) more
    by rest (Bytes bytes) h = rest h
    by rest Refused h = rest h

    go : (over p t ≡ Some r → ⊥) → (c : Bool) → cond c (over_by x.1 x.0 (over p t)) (over p t) ≡ Some r → ⊥
    go rest true h = by rest x.1 h
    go rest false h = rest h

-- the read of an outcome gave some bytes, if it was made, and these in all
abbrev Gave : List (Option (List ℕ)) → List ℕ → Type 0
Gave reads bytes = EachGaveSome reads × (bytes_given reads ≡ bytes)

told_is : {x y : RxTold} → Some x ≡ Some y → x ≡ y
told_is e = cc

bytes_are : {a b : List ℕ} → Bytes a ≡ Bytes b → a ≡ b
bytes_are e = cc

told_piece : (ended : Bool) (max n : ℕ) (bytes : List ℕ) (o : RxOut) → told o ≡ Some (Bytes bytes) → IsRead max n o → Gave (read_of ended o) bytes
told_piece ended max n bytes (Piece v) e i = ((let some = i.0 in omega arith, tt), append-nil v.bytes ∙ bytes_are (told_is e))
told_piece ended max n bytes End e i = absurd (cc)
told_piece ended max n bytes (Fault k) e i = absurd (cc)
told_piece ended max n bytes (Broken q) e i = absurd i
told_piece ended max n bytes NoSlot e i = absurd (cc)
told_piece ended max n bytes (Stopped s) e i = absurd i
told_piece ended max n bytes Halted e i = absurd i

told_refused : (ended : Bool) (max n : ℕ) (o : RxOut) → told o ≡ Some Refused → IsRead max n o → Gave (read_of ended o) []
told_refused ended max n (Piece v) e i = absurd (cc)
told_refused ended max n End e i = absurd (cc)
told_refused ended max n (Fault k) e i = absurd (cc)
told_refused ended max n (Broken q) e i = absurd i
told_refused ended max n NoSlot e i = (tt, refl)
told_refused ended max n (Stopped s) e i = absurd i
told_refused ended max n Halted e i = absurd i

told_same : (ended : Bool) (max n : ℕ) (o x : RxOut) → told o ≡ told x → IsRead max n o → IsMore x → Gave (read_of ended o) (bytes_of x)
told_same ended max n o (Piece w) e i more = told_piece ended max n w.bytes o e i
told_same ended max n o NoSlot e i more = told_refused ended max n o e i
told_same ended max n o End e i more = absurd more
told_same ended max n o (Fault k) e i more = absurd more
told_same ended max n o (Broken q) e i more = absurd more
told_same ended max n o (Stopped s) e i more = absurd more
told_same ended max n o Halted e i more = absurd more

-- of two outcomes that are admitted at one place, where the input goes on behind the second, the first read what the second has
same_read : (ended : Bool) (stop : Option ℕ) (op : Option RxOp) (found : Option RxOut) (here : Option RxTold) (n : ℕ) (o x : RxOut) → ((r : RxOut) → found ≡ Some r → IsMore r → ⊥)
    → RxAnswer stop op found here n o → RxAnswer stop op found here n x → IsMore x → Gave (read_of ended o) (bytes_of x)
same_read ended (Some s) op found here n o x none a b more = absurd (let no : IsMore (Stopped (at s)) = subst IsMore b.0 more in no)
same_read ended None None found here n o x none a b more = absurd a
same_read ended None (Some Stop) found here n o x none a b more = absurd (let no : IsMore Halted = subst IsMore b more in no)
same_read ended None (Some (Pop max)) (Some r) here n o x none a b more = absurd (none r refl (subst IsMore b more))
same_read ended None (Some (Pop max)) None here n o x none a b more = told_same ended max n o x (a.0 ∙ sym b.0) a.1 more

-- what is no pop reads nothing
no_read : (ended : Bool) (stop : Option ℕ) (op : Option RxOp) (found : Option RxOut) (here : Option RxTold) (n : ℕ) (o : RxOut) → RxAnswer stop op found here n o → ((max : ℕ) → op ≡ Some (Pop max) → ⊥) → read_of ended o ≡ []
no_read ended (Some s) op found here n o a none = ap (read_of ended) a.0
no_read ended None None found here n o a none = absurd a
no_read ended None (Some Stop) found here n o a none = ap (read_of ended) a
no_read ended None (Some (Pop max)) found here n o a none = absurd (none max refl)

-- The read of this number is that of a pop; where the input goes on behind each pop before it, the reads before it gave some bytes each,
-- and in all those of these pops.
pub record ReadAt (reads : List (Option (List ℕ))) (pops : List (ℕ × RxOut)) (n : ℕ) : Type 0 where
  pub before : List (ℕ × RxOut)
  pub here : ℕ × RxOut
  pub after : List (ℕ × RxOut)
  pub is : pops ≡ before ++ here ∷ after
  pub gave : AllMore before → Gave (take n reads) (all_bytes before)

-- an outcome without a read
passed : (one rest : List (Option (List ℕ))) (pops : List (ℕ × RxOut)) (n : ℕ) → one ≡ [] → n < length (one ++ rest) → (n < length rest → ReadAt rest pops n) → ReadAt (one ++ rest) pops n
passed [] rest pops n none less next = next less
passed (g ∷ one) rest pops n none less next = absurd (cc)

-- an outcome and the pop of its place
paired : (one rest : List (Option (List ℕ))) (x : ℕ × RxOut) (pops : List (ℕ × RxOut)) (n : ℕ) → (IsMore x.1 → Gave one (bytes_of x.1)) → length one ≤ 1 → n < length (one ++ rest)
    → ((m : ℕ) → m < length rest → ReadAt rest pops m) → ReadAt (one ++ rest) (x ∷ pops) n
paired [] rest x pops n same short less next =
    let r = next n less in
    record {
      before = x ∷ r.before;
      here = r.here;
      after = r.after;
      is = ap (λ (l : List (ℕ × RxOut)). x ∷ l) r.is;
      gave = λ more. ((r.gave more.1).0, (r.gave more.1).1 ∙ ap (λ (l : List ℕ). l ++ all_bytes r.before) (same more.0).1);
    }
paired (g ∷ []) rest x pops zero same short less next = record { before = []; here = x; after = pops; is = refl; gave = λ more. (tt, refl) }
paired (g ∷ []) rest x pops (suc n) same short less next =
    let r = next n (omega arith) in
    record {
      before = x ∷ r.before;
      here = r.here;
      after = r.after;
      is = ap (λ (l : List (ℕ × RxOut)). x ∷ l) r.is;
      gave = λ more. (
        ((same more.0).0.0, (r.gave more.1).0),
        ap (λ (l : List ℕ). unwrap_or g [] ++ l) (r.gave more.1).1 ∙ ap (λ (l : List ℕ). l ++ all_bytes r.before) (sym (append-nil (unwrap_or g [])) ∙ (same more.0).1),
      );
    }
paired (g ∷ k ∷ one) rest x pops n same short less next = absurd (omega arith)

not_before : {U : Type 0} (n p : ℕ) (xs : List (ℕ × U)) → RiseFrom n xs → p < n → IsPlaceOf p xs → ⊥
not_before n p [] rise less h = h
not_before n p (x ∷ xs) rise less (inl e) = let le = rise.0 in absurd (omega (arith, e))
not_before n p (x ∷ xs) rise less (inr h) = let le = rise.0 in not_before (x.0 + 1) p xs rise.1 (omega arith) h

first : {a b : ℕ} → b ≡ a → a ≤ b
first e = omega (arith, e)

next : {a b : ℕ} → b ≡ a → b < a + 1
next e = omega (arith, e)

below : {a b : ℕ} → a + 1 ≤ b → a ≤ b
below l = omega arith

above : {a b : ℕ} → a ≤ b → b ≢ a → a + 1 ≤ b
above {a} {b} l n = elim (cases_lt a b) [ inl less ↦ omega arith | inr not_less ↦ absurd (n (omega arith)) ]

module _ (h : List RxOp) (t : List (ℕ × RxTold)) where
  abbrev IsAdmitted : ℕ × RxOut → Type 0
  IsAdmitted o = RxAdmits h t o.0 o.1

  idle : (ended : Bool) (o : ℕ × RxOut) → IsAdmitted o → ((max : ℕ) → slice_get h o.0 ≡ Some (Pop max) → ⊥) → read_of ended o.1 ≡ []
  idle ended o a none = no_read ended (first_stop is_stop 0 (take o.0 h)) (slice_get h o.0) (over o.0 t) (told_at o.0 t) (length (bytes_before o.0 t)) o.1 a none

  as_popped : (ended : Bool) (o x : ℕ × RxOut) → x.0 ≡ o.0 → IsAdmitted o → IsAdmitted x → IsMore x.1 → Gave (read_of ended o.1) (bytes_of x.1)
  as_popped ended o x place a b more =
      same_read ended (first_stop is_stop 0 (take o.0 h)) (slice_get h o.0) (over o.0 t) (told_at o.0 t) (length (bytes_before o.0 t)) o.1 x.1 (no_more o.0 t) a (subst (λ (p : ℕ). RxAdmits h t p x.1) place b) more

  -- each read of these outcomes, from the place k on, is of one of these pops
  pub read_at : (k : ℕ) (ended : Bool) (f pops : List (ℕ × RxOut)) → InOrder k f → Each IsAdmitted f → RiseFrom k pops → Each IsAdmitted pops
      → ((p max : ℕ) → k ≤ p → slice_get h p ≡ Some (Pop max) → IsPlaceOf p pops) → (n : ℕ) → n < length (reads_of ended f) → ReadAt (reads_of ended f) pops n
  read_at k ended [] pops order af rise ap_ each n less = absurd (omega arith)
  read_at k ended (o ∷ f) [] order af rise ap_ each n less =
      passed (read_of ended o.1) (reads_of (ended_after ended o.1) f) [] n (idle ended o af.0 (λ max e. each o.0 max (first order.0) e)) less
      (λ l. read_at (k + 1) (ended_after ended o.1) f [] order.1 af.1 tt tt (λ p max le e. each p max (below le) e) n l)
  read_at k ended (o ∷ f) (x ∷ pops) order af rise ap_ each n less = elim (cases_eq x.0 k) [
    | inl same ↦
        paired (read_of ended o.1) (reads_of (ended_after ended o.1) f) x pops n (as_popped ended o x (same ∙ sym order.0) af.0 ap_.0) (few ended o.1) less
        (λ m l. read_at (k + 1) (ended_after ended o.1) f pops order.1 af.1 (subst (λ (j : ℕ). RiseFrom (j + 1) pops) same rise.1) ap_.1 (λ p max le e. later p le same (each p max (below le) e)) m l)
    | inr differ ↦
        let rises : RiseFrom (k + 1) (x ∷ pops) = (above rise.0 differ, rise.1) in
        passed (read_of ended o.1) (reads_of (ended_after ended o.1) f) (x ∷ pops) n (idle ended o af.0 (λ max e. not_before (k + 1) o.0 (x ∷ pops) rises (next order.0) (each o.0 max (first order.0) e))) less
        (λ l. read_at (k + 1) (ended_after ended o.1) f (x ∷ pops) order.1 af.1 rises ap_ (λ p max le e. each p max (below le) e) n l)
  ]
    where
      later : (p : ℕ) → k + 1 ≤ p → x.0 ≡ k → IsPlaceOf p (x ∷ pops) → IsPlaceOf p pops
      later p le same (inl e) = absurd (omega (arith, e, same))
      later p le same (inr i) = i

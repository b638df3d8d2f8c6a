-- What comes back from the store, by what it was asked and says.
use Rattle.std.specs.Prelude.{◌≡◌, ℕ, ◌+◌, ◌≤◌, ◌==◌, nat_le, cond, Bool, true, false, List, [], ◌∷◌, ◌++◌, Option, Some, None, length, refl}
use Rattle.std.proofs.Common.{sym, ◌∙◌, ap, arith, subst, length-append, append-nil}
use Rattle.std.proofs.lemmas.Bool.Decides.{nat_tests}
use Rattle.demi_buf.specs.Bufs.{size_of}
use Rattle.demi_buf.specs.declared.class.Class.{Class}
use Rattle.demi_heap.specs.Seen.{HalfValue, HeapId}
use Rattle.demi_logq.specs.Folding.{bytes_of}
use Rattle.demi_sga.specs.Arrays.{AreOf, LentValue, SameSlots, byte_count}
use Rattle.demi_spec.specs.Request as request
use Rattle.demi_spec.specs.Input.{Request_of}
use Rattle.demi_spec.specs.Reply.{Stored, Found, Missing, Refused, Bye, Full}
use Rattle.demi_spec.specs.Store.{found}
use Rattle.demi_spec.specs.Store as store
use Rattle.demi_store.specs.History.{Said, Told, Fault, NoMemory, Broken, Stopped, Halted, Standing, answered, get_open, put_open, said_at, said_by, said_open, value_bytes}
use Rattle.demi_store.specs.Laws.{AllSame, AnswerIs, BackIs, IsProperOp, SaysTo}
use Rattle.demi_store.specs.declared.answer.StoreAnswer.{StoreAnswer}
use Rattle.demi_store.specs.declared.answer.StoreAnswer.TheVariants as said
use Rattle.demi_store.specs.declared.ask.StoreAsk.{StoreAsk}
use Rattle.demi_store.specs.declared.back.Back.{Back}
use Rattle.demi_store.specs.declared.back.Back.TheVariants.{Nothing, Value, Room}
use Rattle.demi_store.specs.declared.op.StoreOp.{StoreOp}
use Rattle.demi_store.specs.declared.op.StoreOp.TheVariants as op
use Rattle.demi_store.specs.declared.out.StoreOut.{StoreOut}
use Rattle.demi_store.specs.declared.told.StoreTold.{StoreTold}
use Rattle.demi_store.specs.declared.told.StoreTold.TheVariants.{ByDisk, ByMemory}
use Rattle.demi_streamq.specs.Sending.{array_bytes}
use Rattle.demi_served.specs.Asking.{answer_with, reply_for}
use Rattle.demi_link.specs.Fitting.{HasHalves, answer_as, body_of, lent_out}
use Rattle.demi_link.specs.Giving.{IsPaired, RoomHolds, segments_of, where_bytes}
use Rattle.demi_link.specs.Stores.{given_back}

-- a put is stored or full, and a get found or missing
abbrev pub IsPut : StoreOp → Type 0
IsPut (op.Put link index key value) = Unit {0}
IsPut (op.Get key room) = ⊥
IsPut op.Stop = ⊥

abbrev pub IsGet : StoreOp → Type 0
IsGet (op.Put link index key value) = ⊥
IsGet (op.Get key room) = Unit {0}
IsGet op.Stop = ⊥

abbrev IsOfPut : Said → Type 0
IsOfPut (Told (Stored v value)) = Unit {0}
IsOfPut (Told (Found v value)) = ⊥
IsOfPut (Told (Missing v)) = Unit {0}
IsOfPut (Told (Refused code)) = Unit {0}
IsOfPut (Told Bye) = Unit {0}
IsOfPut (Told (Full v)) = Unit {0}
IsOfPut Fault = Unit {0}
IsOfPut NoMemory = Unit {0}
IsOfPut (Broken p) = Unit {0}
IsOfPut (Stopped p) = Unit {0}
IsOfPut Halted = Unit {0}

abbrev IsOfGet : Said → Type 0
IsOfGet (Told (Stored v value)) = ⊥
IsOfGet (Told (Found v value)) = Unit {0}
IsOfGet (Told (Missing v)) = Unit {0}
IsOfGet (Told (Refused code)) = Unit {0}
IsOfGet (Told Bye) = Unit {0}
IsOfGet (Told (Full v)) = Unit {0}
IsOfGet Fault = Unit {0}
IsOfGet NoMemory = Unit {0}
IsOfGet (Broken p) = Unit {0}
IsOfGet (Stopped p) = Unit {0}
IsOfGet Halted = Unit {0}

put_answer : (b : Bool) (n : ℕ) (value : List ℕ) → IsOfPut (Told (cond b (Full n) (Stored (n + 1) value)))
put_answer true n value = tt
put_answer false n value = tt

get_answer : (n : ℕ) (o : Option (List ℕ)) → IsOfGet (Told (found n o))
get_answer n None = tt
get_answer n (Some value) = tt

put_says : (limit place link index : ℕ) (s : Standing) (key value : List ℕ) (k : Option StoreTold) → IsOfPut (put_open limit place link index s (Request_of (request.Put key value)) k).0
put_says limit place link index s key value None = put_answer (nat_le limit (length s.records)) (length s.records) value
put_says limit place link index s key value (Some ByDisk) = go (nat_le limit (length s.records))
  where
    go : (b : Bool) → IsOfPut (cond b (answered limit link index s (Request_of (request.Put key value))) (Fault, record s { fault = Some place })).0
    go true = put_answer (nat_le limit (length s.records)) (length s.records) value
    go false = tt
put_says limit place link index s key value (Some ByMemory) = go (nat_le limit (length s.records))
  where
    go : (b : Bool) → IsOfPut (cond b (answered limit link index s (Request_of (request.Put key value))) (NoMemory, s)).0
    go true = put_answer (nat_le limit (length s.records)) (length s.records) value
    go false = tt

get_says : (limit place : ℕ) (s : Standing) (key : List ℕ) (k : Option StoreTold) → IsOfGet (get_open limit place s (Request_of (request.Get key)) k).0
get_says limit place s key None = get_answer (length s.records) (store.map s.records key)
get_says limit place s key (Some ByDisk) = tt
get_says limit place s key (Some ByMemory) = get_answer (length s.records) (store.map s.records key)

-- what is said to an operation is of its kind
abbrev OfOp : StoreOp → Said → Type 0
OfOp (op.Put link index key value) x = IsOfPut x
OfOp (op.Get key room) x = IsOfGet x
OfOp op.Stop x = IsOfGet x × IsOfPut x

open_says : (limit place : ℕ) (s : Standing) (o : StoreOp) (k : Option StoreTold) (fault : Option ℕ) → OfOp o (said_open limit place s o k fault).0
open_says limit place s (op.Put link index key value) k None = put_says limit place link index s key.items (value_bytes value) k
open_says limit place s (op.Put link index key value) k (Some at) = tt
open_says limit place s (op.Get key room) k None = get_says limit place s key.items k
open_says limit place s (op.Get key room) k (Some at) = tt
open_says limit place s op.Stop k None = (tt, tt)
open_says limit place s op.Stop k (Some at) = (tt, tt)

by_says : (limit place : ℕ) (s : Standing) (o : StoreOp) (k : Option StoreTold) (stop : Option ℕ) → OfOp o (said_by limit place s o k stop).0
by_says limit place s o k None = open_says limit place s o k s.fault
by_says limit place s (op.Put link index key value) k (Some at) = tt
by_says limit place s (op.Get key room) k (Some at) = tt
by_says limit place s op.Stop k (Some at) = (tt, tt)

pub of_op : (limit place : ℕ) (s : Standing) (ask : StoreAsk) (k : Option StoreTold) → OfOp ask.op (said_at limit place s ask k).0
of_op limit place s ask k = by_says limit place s ask.op k s.stop

not_get : (x : Said) (v : ℕ) → IsOfGet x → AnswerIs x (said.Stored v) → ⊥
not_get (Told (Stored w value)) v g a = g
not_get (Told (Found w value)) v g a = absurd (cc)
not_get (Told (Missing w)) v g a = absurd (cc)
not_get (Told (Refused code)) v g a = a
not_get (Told Bye) v g a = a
not_get (Told (Full w)) v g a = absurd (cc)
not_get Fault v g a = absurd (cc)
not_get NoMemory v g a = absurd (cc)
not_get (Broken p) v g a = absurd (cc)
not_get (Stopped p) v g a = absurd (cc)
not_get Halted v g a = absurd (cc)

not_put : (x : Said) (v : ℕ) → IsOfPut x → AnswerIs x (said.Found v) → ⊥
not_put (Told (Stored w value)) v g a = absurd (cc)
not_put (Told (Found w value)) v g a = g
not_put (Told (Missing w)) v g a = absurd (cc)
not_put (Told (Refused code)) v g a = a
not_put (Told Bye) v g a = a
not_put (Told (Full w)) v g a = absurd (cc)
not_put Fault v g a = absurd (cc)
not_put NoMemory v g a = absurd (cc)
not_put (Broken p) v g a = absurd (cc)
not_put (Stopped p) v g a = absurd (cc)
not_put Halted v g a = absurd (cc)

pub stored_put : (o : StoreOp) (x : Said) (v : ℕ) → OfOp o x → AnswerIs x (said.Stored v) → IsPut o
stored_put (op.Put link index key value) x v g a = tt
stored_put (op.Get key room) x v g a = not_get x v g a
stored_put op.Stop x v g a = not_get x v g.0 a

pub found_get : (o : StoreOp) (x : Said) (v : ℕ) → OfOp o x → AnswerIs x (said.Found v) → IsGet o
found_get (op.Put link index key value) x v g a = not_put x v g a
found_get (op.Get key room) x v g a = tt
found_get op.Stop x v g a = not_put x v g.1 a

-- Bytes.
pub array_is : (sga : List HalfValue) → array_bytes sga ≡ bytes_of sga
array_is [] = refl
array_is (a ∷ sga) = ap (λ (l : List ℕ). a.bytes ++ l) (array_is sga)

pub array_count : (sga : List HalfValue) → length (array_bytes sga) ≡ byte_count sga
array_count [] = refl
array_count (a ∷ sga) = length-append a.bytes (array_bytes sga) ∙ ap (λ (n : ℕ). length a.bytes + n) (array_count sga)

same_bytes : (sga back : List HalfValue) → AllSame sga back → array_bytes back ≡ array_bytes sga
same_bytes [] [] h = refl
same_bytes [] (y ∷ back) h = absurd h
same_bytes (x ∷ sga) [] h = absurd h
same_bytes (x ∷ sga) (y ∷ back) h = ap (λ (l : List ℕ). l ++ array_bytes back) h.1 ∙ ap (λ (l : List ℕ). x.bytes ++ l) (same_bytes sga back h.2)

same_length : (sga back : List HalfValue) → AllSame sga back → length back ≡ length sga
same_length [] [] h = refl
same_length [] (y ∷ back) h = absurd h
same_length (x ∷ sga) [] h = absurd h
same_length (x ∷ sga) (y ∷ back) h = let e = same_length sga back h.2 in omega arith

same_slots : (sga back : List HalfValue) → AllSame sga back → SameSlots sga back
same_slots [] [] h = tt
same_slots [] (y ∷ back) h = absurd h
same_slots (x ∷ sga) [] h = absurd h
same_slots (x ∷ sga) (y ∷ back) h = (sym h.0.1, same_slots sga back h.2)

same_heap : (heap : HeapId) (sga back : List HalfValue) → AllSame sga back → AreOf heap sga → AreOf heap back
same_heap heap [] [] h a = tt
same_heap heap [] (y ∷ back) h a = absurd h
same_heap heap (x ∷ sga) [] h a = absurd h
same_heap heap (x ∷ sga) (y ∷ back) h a = (h.0.0 ∙ a.0, same_heap heap sga back h.2 a.1)

-- What comes back of an operation with these halves.
pub record GivesBack (heap : HeapId) (half : Option LentValue) (back : Back) : Type 0 where
  pub paired : IsPaired heap half back
  pub heap_is : AreOf heap (body_of (segments_of back))
  pub count : length (body_of (segments_of back)) ≡ lent_out half + given_back back
  pub few : length (body_of (segments_of back)) ≤ 1
  pub bytes : RoomHolds back → length (array_bytes (body_of (segments_of back))) ≤ 65536

one_long : (n : ℕ) → n ≡ 1 → n ≤ 1
one_long n e = omega arith

pub gives_back : (heap : HeapId) (told : Bool) (x : Said) (o : StoreOp) (half : Option LentValue) (back : Back) → IsProperOp o → HasHalves heap half o → BackIs told x o back → GivesBack heap half back
gives_back heap told x (op.Put link index key None) None Nothing p h b = record { paired = tt; heap_is = tt; count = refl; few = omega arith; bytes = λ r. omega arith }
gives_back heap told x (op.Put link index key None) None (Value back) p h b = absurd b
gives_back heap told x (op.Put link index key None) None (Room room) p h b = absurd b
gives_back heap told x (op.Put link index key None) (Some half) back p h b = absurd h
gives_back heap told x (op.Put link index key (Some sga)) None back p h b = absurd h
gives_back heap told x (op.Put link index key (Some sga)) (Some half) Nothing p h b = absurd b
gives_back heap told x (op.Put link index key (Some sga)) (Some half) (Room room) p h b = absurd b
gives_back heap told x (op.Put link index key (Some sga)) (Some half) (Value back) p h b =
    let long : length half.segments ≡ length sga = ap length h.0 in
    let back_long = same_length sga back b in
    let bytes : length (array_bytes back) ≡ length (value_bytes (Some sga)) = ap length (same_bytes sga back b ∙ array_is sga) in
    let one = h.3 in
    record {
      paired = (subst (AreOf heap) (sym h.0) h.2, same_heap heap sga back b h.2, subst (λ (l : List HalfValue). SameSlots l back) (sym h.0) (same_slots sga back b), h.1);
      heap_is = same_heap heap sga back b h.2;
      count = omega arith;
      few = omega arith;
      bytes = λ r. (let most = p.1 in omega arith);
    }
gives_back heap told x (op.Get key room) None Nothing p h b = absurd b
gives_back heap told x (op.Get key room) None (Value back) p h b = absurd b
gives_back heap told x (op.Get key room) None (Room back) p h b = record {
  paired = b.0.0 ∙ h.0;
  heap_is = (b.0.0 ∙ h.0, tt);
  count = refl;
  few = omega arith;
  bytes = λ r. (let most : length back.bytes ≤ 65536 = subst (λ (c : Class). length back.bytes ≤ size_of c) (b.0.2 ∙ h.1) r in let all = length-append back.bytes [] in omega (arith, all));
}
gives_back heap told x (op.Get key room) (Some half) back p h b = absurd h
gives_back heap told x op.Stop None back p h b = absurd h
gives_back heap told x op.Stop (Some half) back p h b = absurd h

-- What is replied.
stored_reply : (told : Bool) (x : Said) (o : StoreOp) (back : Back) (v : ℕ) → IsPut o → BackIs told x o back → answer_with (said.Stored v) back ≡ Some (answer_as (said.Stored v) (array_bytes (body_of (segments_of back))))
stored_reply told x o Nothing v put b = refl
stored_reply told x o (Value sga) v put b = ap (λ (l : List ℕ). Some (Stored v l)) (sym (array_is sga))
stored_reply told x (op.Put link index key None) (Room room) v put b = absurd b
stored_reply told x (op.Put link index key (Some sga)) (Room room) v put b = absurd b
stored_reply told x (op.Get key r) (Room room) v put b = absurd put
stored_reply told x op.Stop (Room room) v put b = absurd put

no_bytes : (bytes : List ℕ) → length bytes + 0 ≡ 0 → bytes ≡ []
no_bytes [] e = refl
no_bytes (b ∷ bytes) e = absurd (omega (arith, e))

found_reply : (told : Bool) (x : Said) (o : StoreOp) (back : Back) (v : ℕ) → IsGet o → BackIs told x o back → answer_with (said.Found v) back ≡ Some (answer_as (said.Found v) (array_bytes (body_of (where_bytes (segments_of back)))))
found_reply told x (op.Get key r) (Room room) v get b = go (byte_count (room ∷ []) == 0) refl
  where
    go : (c : Bool) → (byte_count (room ∷ []) == 0) ≡ c → Some (Found v room.bytes) ≡ Some (Found v (array_bytes (body_of (cond c None (Some (room ∷ []))))))
    go true e = ap (λ (l : List ℕ). Some (Found v l)) (no_bytes room.bytes (grind (arith, nat_tests)))
    go false e = ap (λ (l : List ℕ). Some (Found v l)) (sym (append-nil room.bytes))
found_reply told x (op.Get key r) Nothing v get b = absurd b
found_reply told x (op.Get key r) (Value sga) v get b = absurd b
found_reply told x (op.Put link index key value) back v get b = absurd get
found_reply told x op.Stop back v get b = absurd get

pub stored_as : (told : Bool) (x : Said) (o : StoreOp) (out : StoreOut) (v : ℕ) → OfOp o x → SaysTo told o x out → out.answer ≡ said.Stored v → reply_for out ≡ Some (answer_as out.answer (array_bytes (body_of (segments_of out.back))))
stored_as told x o out v g s e =
    let put = stored_put o x v g (subst (AnswerIs x) e s.0) in
    subst (λ (a : StoreAnswer). answer_with a out.back ≡ Some (answer_as a (array_bytes (body_of (segments_of out.back))))) (sym e) (stored_reply told x o out.back v put s.1)

pub found_as : (told : Bool) (x : Said) (o : StoreOp) (out : StoreOut) (v : ℕ) → OfOp o x → SaysTo told o x out → out.answer ≡ said.Found v → reply_for out ≡ Some (answer_as out.answer (array_bytes (body_of (where_bytes (segments_of out.back)))))
found_as told x o out v g s e =
    let get = found_get o x v g (subst (AnswerIs x) e s.0) in
    subst (λ (a : StoreAnswer). answer_with a out.back ≡ Some (answer_as a (array_bytes (body_of (where_bytes (segments_of out.back)))))) (sym e) (found_reply told x o out.back v get s.1)

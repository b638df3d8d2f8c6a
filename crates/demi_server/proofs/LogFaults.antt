-- Where a link heard that the log failed, it has failed.
use Rattle.std.proofs.Common.{◌≡◌, ℕ, zero, suc, ◌+◌, Bool, true, false, List, [], ◌∷◌, Some, None, Option, refl, arith, sym, subst, cond, nat_le, length, take}
use Rattle.std.specs.Prelude.{slice_get}
use Rattle.demi_spec.specs.Input.{Asked, Request_of}
use Rattle.demi_spec.specs.Reply as reply
use Rattle.demi_spec.specs.Request as request
use Rattle.demi_store.specs.History.{Broken, Fault, Halted, NoMemory, Said, Standing, Stopped, Told, answered, get_open, opened, put_open, said_at, said_by, said_open, standing_from, struck_at, value_bytes}
use Rattle.demi_store.specs.Laws.{Admits, AnswerIs, StoreBasis, said_to}
use Rattle.demi_store.specs.declared.answer.StoreAnswer.{StoreAnswer}
use Rattle.demi_store.specs.declared.ask.StoreAsk.{StoreAsk}
use Rattle.demi_store.specs.declared.op.StoreOp.{StoreOp}
use Rattle.demi_store.specs.declared.op.StoreOp.TheVariants.{Get, Put, Stop}
use Rattle.demi_store.specs.declared.out.StoreOut.{StoreOut}
use Rattle.demi_store.specs.declared.told.StoreTold.{StoreTold}
use Rattle.demi_store.specs.declared.told.StoreTold.TheVariants.{ByDisk, ByMemory}
use Rattle.demi_served.specs.Accounts.{standing_at_end}
use Rattle.demi_link.specs.Heard.{IsLogFault}

-- the disk has failed
abbrev pub Failed : Standing → Type 0
Failed s = (at : ℕ) × (s.fault ≡ Some at)

-- it is said that the disk failed, now or before
abbrev IsBad : Said → Type 0
IsBad (Told answer) = ⊥
IsBad Fault = Unit {0}
IsBad NoMemory = ⊥
IsBad (Broken place) = Unit {0}
IsBad (Stopped place) = ⊥
IsBad Halted = ⊥

-- where that is said, it has
abbrev IsTrueOf : Said × Standing → Type 0
IsTrueOf x = IsBad x.0 → Failed x.1

either : (b : Bool) (x y : Said × Standing) → IsTrueOf x → IsTrueOf y → IsTrueOf (cond b x y)
either true x y p q = p
either false x y p q = q

put_true : (limit place link index : ℕ) (s : Standing) (ask : Asked) (struck : Option StoreTold) → IsTrueOf (put_open limit place link index s ask struck)
put_true limit place link index s ask None = λ bad. absurd bad
put_true limit place link index s ask (Some ByDisk) = either (nat_le limit (length s.records)) (answered limit link index s ask) (Fault, record s { fault = Some place }) (λ bad. absurd bad) (λ bad. (place, refl))
put_true limit place link index s ask (Some ByMemory) = either (nat_le limit (length s.records)) (answered limit link index s ask) (NoMemory, s) (λ bad. absurd bad) (λ bad. absurd bad)

get_true : (limit place : ℕ) (s : Standing) (ask : Asked) (struck : Option StoreTold) → IsTrueOf (get_open limit place s ask struck)
get_true limit place s ask None = λ bad. absurd bad
get_true limit place s ask (Some ByDisk) = λ bad. (place, refl)
get_true limit place s ask (Some ByMemory) = λ bad. absurd bad

open_true : (limit place : ℕ) (s : Standing) (op : StoreOp) (struck : Option StoreTold) (fault : Option ℕ) → s.fault ≡ fault → IsTrueOf (said_open limit place s op struck fault)
open_true limit place s Stop struck fault is = λ bad. absurd bad
open_true limit place s (Put link index key value) struck None is = put_true limit place link index s (Request_of (request.Put key.items (value_bytes value))) struck
open_true limit place s (Put link index key value) struck (Some at) is = λ bad. (at, is)
open_true limit place s (Get key room) struck None is = get_true limit place s (Request_of (request.Get key.items)) struck
open_true limit place s (Get key room) struck (Some at) is = λ bad. (at, is)

by_true : (limit place : ℕ) (s : Standing) (op : StoreOp) (struck : Option StoreTold) (stop : Option ℕ) → IsTrueOf (said_by limit place s op struck stop)
by_true limit place s op struck None = open_true limit place s op struck s.fault refl
by_true limit place s op struck (Some at) = λ bad. absurd bad

at_true : (limit place : ℕ) (s : Standing) (a : StoreAsk) (struck : Option StoreTold) → IsTrueOf (said_at limit place s a struck)
at_true limit place s a struck = by_true limit place s a.op struck s.stop

-- a disk that has failed stays so
open_stays : (limit place : ℕ) (s : Standing) (op : StoreOp) (struck : Option StoreTold) (at : ℕ) → s.fault ≡ Some at → Failed (said_open limit place s op struck (Some at)).1
open_stays limit place s Stop struck at is = (at, is)
open_stays limit place s (Put link index key value) struck at is = (at, is)
open_stays limit place s (Get key room) struck at is = (at, is)

by_stays : (limit place : ℕ) (s : Standing) (op : StoreOp) (struck : Option StoreTold) (stop : Option ℕ) → Failed s → Failed (said_by limit place s op struck stop).1
by_stays limit place s op struck None f = subst (λ (z : Option ℕ). Failed (said_open limit place s op struck z).1) (sym f.1) (open_stays limit place s op struck f.0 f.1)
by_stays limit place s op struck (Some at) f = f

rest_stays : (limit : ℕ) (struck : ℕ → Option StoreTold) (place : ℕ) (s : Standing) (asks : List StoreAsk) → Failed s → Failed (standing_from limit struck place s asks)
rest_stays limit struck place s [] f = f
rest_stays limit struck place s (a ∷ asks) f = rest_stays limit struck (place + 1) (said_at limit place s a (struck place)).1 asks (by_stays limit place s a.op (struck place) s.stop f)

some_is : {A : Type 0} {a b : A} → Some a ≡ Some b → a ≡ b
some_is e = cc

-- where it is said at a place that the disk failed, it has failed behind all operations
behind_all : (limit : ℕ) (struck : ℕ → Option StoreTold) (place : ℕ) (s : Standing) (asks : List StoreAsk) (i n : ℕ) (a : StoreAsk) → n ≡ place + i → slice_get asks i ≡ Some a
    → IsBad (said_at limit n (standing_from limit struck place s (take i asks)) a (struck n)).0 → Failed (standing_from limit struck place s asks)
behind_all limit struck place s [] i n a here at bad = absurd (cc)
behind_all limit struck place s (x ∷ asks) zero n a here at bad =
    let now : n ≡ place = omega arith in
    let same : a ≡ x = sym (some_is at) in
    let first : IsBad (said_at limit place s x (struck place)).0 = subst (λ (z : StoreAsk). IsBad (said_at limit place s z (struck place)).0) same (subst (λ (m : ℕ). IsBad (said_at limit m s a (struck m)).0) now bad) in
    rest_stays limit struck (place + 1) (said_at limit place s x (struck place)).1 asks (at_true limit place s x (struck place) first)
behind_all limit struck place s (x ∷ asks) (suc i) n a here at bad = behind_all limit struck (place + 1) (said_at limit place s x (struck place)).1 asks i n a (omega arith) at bad

bad_said : (s : Said) (a : StoreAnswer) → AnswerIs s a → IsLogFault a → IsBad s
bad_said (Told (reply.Stored v value)) a e is = subst IsLogFault e is
bad_said (Told (reply.Full v)) a e is = subst IsLogFault e is
bad_said (Told (reply.Found v value)) a e is = subst IsLogFault e is
bad_said (Told (reply.Missing v)) a e is = subst IsLogFault e is
bad_said (Told (reply.Refused code)) a e is = e
bad_said (Told reply.Bye) a e is = e
bad_said Fault a e is = tt
bad_said NoMemory a e is = subst IsLogFault e is
bad_said (Broken place) a e is = tt
bad_said (Stopped place) a e is = subst IsLogFault e is
bad_said Halted a e is = subst IsLogFault e is

-- an outcome that is admitted and says that the disk failed
pub log_has_failed : (b : StoreBasis) (h : List StoreAsk) (t : List (ℕ × StoreTold)) (p : ℕ) (o : StoreOut) → IsLogFault o.answer → Admits b h t p o → Failed (standing_at_end b h t)
log_has_failed b h t p o is a = behind_all b.limit (struck_at t) 0 (opened b.records) h p p a.0 (omega arith) a.1 (bad_said (said_to b h t p a.0) o.answer a.2.0 is)

-- Where a link's input came to an end, the disk failed no append: at the place of the fault a fault was said, and each put of the link
-- was told an answer.
use Rattle.std.proofs.Common.{◌≡◌, ◌⊎◌, ◌∙◌, ℕ, zero, suc, ◌+◌, Bool, true, false, List, [], ◌∷◌, length, take, Option, None, Some, refl, sym, ap, subst, cond, inl, inr, arith}
use Rattle.std.specs.Prelude.{nat_le, slice_get}
use Rattle.demi_port.specs.Seen.{says}
use Rattle.demi_spec.specs.Input.{Asked, Request_of}
use Rattle.demi_spec.specs.Record.{Record}
use Rattle.demi_spec.specs.Reply.{Answer, Reply}
use Rattle.demi_spec.specs.Request.{Put}
use Rattle.demi_store.specs.History.{Said, Told, Fault, NoMemory, Standing, answered, opened, put_open, said_at, said_by, said_open, standing_from, struck_at, value_bytes}
use Rattle.demi_store.specs.Laws.{StoreBasis, said_to}
use Rattle.demi_store.specs.declared.ask.StoreAsk.{StoreAsk}
use Rattle.demi_store.specs.declared.op.StoreOp.{StoreOp}
use Rattle.demi_store.specs.declared.op.StoreOp.TheVariants as op
use Rattle.demi_store.specs.declared.told.StoreTold.{StoreTold}
use Rattle.demi_store.specs.declared.told.StoreTold.TheVariants.{ByDisk, ByMemory}
use Rattle.demi_served.specs.Accounts.{Accounted, IsAccounted, StoreEntry, asked_in, asks_at, standing_at_end}
use Rattle.demi_served.specs.Asking.{Ask, IsSaid, Puts, ask_of}
use Rattle.demi_served.specs.Links.{LinkPorts}
use Rattle.demi_served.specs.Talks.{LinkRun, Run, Talk}
use Rattle.demi_link.specs.Ends.{IsDone}
use Rattle.demi_link.specs.declared.phase.Cause.{Cause}
use Rattle.demi_closed.specs.OnlyLink.{OneServed, run_of}

some_is : {X : Type 0} {x y : X} → Some x ≡ Some y → x ≡ y
some_is h = cc

-- where no fault stood, none stands after an operation, or this one has it and is told so
abbrev Strikes : ℕ → Said × Standing → Type 0
Strikes place x = (x.1.fault ≡ None) ⊎ ((x.1.fault ≡ Some place) × (x.0 ≡ Fault))

put_strikes : (limit place link index : ℕ) (s : Standing) (q : Asked) (k : Option StoreTold) → s.fault ≡ None
    → Strikes place (put_open limit place link index s q k)
put_strikes limit place link index s q None none = inl none
put_strikes limit place link index s q (Some ByDisk) none = by (nat_le limit (length s.records))
  where
    by : (b : Bool) → Strikes place (cond b (answered limit link index s q) (Fault, record s { fault = Some place }))
    by true = inl none
    by false = inr (refl, refl)
put_strikes limit place link index s q (Some ByMemory) none = by (nat_le limit (length s.records))
  where
    by : (b : Bool) → Strikes place (cond b (answered limit link index s q) (NoMemory, s))
    by true = inl none
    by false = inl none

strikes : (limit place : ℕ) (s : Standing) (a : StoreAsk) (k : Option StoreTold) → s.fault ≡ None
    → Strikes place (said_at limit place s a k)
strikes limit place s a k none = by s.stop
  where
    calm : (o : StoreOp) (k : Option StoreTold) → Strikes place (said_open limit place s o k None)
    calm op.Stop k = inl none
    calm (op.Put link index key value) k = put_strikes limit place link index s (Request_of (Put key.items (value_bytes value))) k none
    calm (op.Get key room) None = inl none
    calm (op.Get key room) (Some ByDisk) = inr (refl, refl)
    calm (op.Get key room) (Some ByMemory) = inl none

    by : (stop : Option ℕ) → Strikes place (said_by limit place s a.op k stop)
    by (Some at) = inl none
    by None = subst (λ (o : Option ℕ). Strikes place (said_open limit place s a.op k o)) (sym none) (calm a.op k)

-- a fault is never moved
stays : (limit place f : ℕ) (s : Standing) (a : StoreAsk) (k : Option StoreTold) → s.fault ≡ Some f
    → (said_at limit place s a k).1.fault ≡ Some f
stays limit place f s a k struck = by s.stop
  where
    broken : (o : StoreOp) → (said_open limit place s o k (Some f)).1.fault ≡ Some f
    broken op.Stop = struck
    broken (op.Put link index key value) = struck
    broken (op.Get key room) = struck

    by : (stop : Option ℕ) → (said_by limit place s a.op k stop).1.fault ≡ Some f
    by (Some at) = struck
    by None = subst (λ (o : Option ℕ). (said_open limit place s a.op k o).1.fault ≡ Some f) (sym struck) (broken a.op)

all_stay : (limit : ℕ) (told : ℕ → Option StoreTold) (place f : ℕ) (s : Standing) (asks : List StoreAsk) → s.fault ≡ Some f
    → (standing_from limit told place s asks).fault ≡ Some f
all_stay limit told place f s [] struck = struck
all_stay limit told place f s (a ∷ asks) struck =
    all_stay limit told (place + 1) f (said_at limit place s a (told place)).1 asks (stays limit place f s a (told place) struck)

-- at the place f, that of the operation of this index, a fault is said
record StruckAt (limit : ℕ) (told : ℕ → Option StoreTold) (place f : ℕ) (s : Standing) (asks : List StoreAsk) : Type 0 where
  index : ℕ
  at : f ≡ place + index
  ask : StoreAsk
  here : slice_get asks index ≡ Some ask
  said : (said_at limit f (standing_from limit told place s (take index asks)) ask (told f)).0 ≡ Fault

struck_from : (limit : ℕ) (told : ℕ → Option StoreTold) (place f : ℕ) (s : Standing) (asks : List StoreAsk) → s.fault ≡ None
    → (standing_from limit told place s asks).fault ≡ Some f → StruckAt limit told place f s asks
struck_from limit told place f s [] none struck = absurd (cc)
struck_from limit told place f s (a ∷ asks) none struck = elim (strikes limit place s a (told place) none) [
  | inl still ↦
      let k = struck_from limit told (place + 1) f (said_at limit place s a (told place)).1 asks still struck in
      record { index = suc k.index; at = omega (arith, k.at); ask = k.ask; here = k.here; said = k.said }
  | inr now ↦
      let same : place ≡ f = some_is (sym (all_stay limit told (place + 1) place (said_at limit place s a (told place)).1 asks now.0) ∙ struck) in
      record { index = 0; at = omega (arith, same); ask = a; here = refl; said = subst (λ m. (said_at limit m s a (told m)).0 ≡ Fault) same now.1 }
]

-- where the fault stands at the end, a fault was said
struck_said : (b : StoreBasis) (history : List StoreAsk) (trail : List (ℕ × StoreTold)) (p : ℕ)
    → (standing_at_end b history trail).fault ≡ Some p → IsSaid b history trail p Fault
struck_said b history trail p struck =
    let k = struck_from b.limit (struck_at trail) 0 p (opened b.records) history refl struck in
    let at : k.index ≡ p = omega (arith, k.at) in record {
      asked = k.ask;
      here = ap (slice_get history) (sym at) ∙ k.here;
      result = ap (λ m. (said_at b.limit p (standing_from b.limit (struck_at trail) 0 (opened b.records) (take m history)) k.ask (struck_at trail p)).0) (sym at) ∙ k.said;
    }

-- one thing is said at a place
said_once : (b : StoreBasis) (history : List StoreAsk) (trail : List (ℕ × StoreTold)) (p : ℕ) (x y : Said)
    → IsSaid b history trail p x → IsSaid b history trail p y → x ≡ y
said_once b history trail p x y h k = sym h.result ∙ ap (said_to b history trail p) (some_is (sym h.here ∙ k.here)) ∙ k.result

never_both : {a : Answer} → Told a ≡ Fault → ⊥
never_both e = absurd (cc)

-- the entry of what is asked at a place
entry_at : (history : List StoreEntry) (p : ℕ) (a : Ask) → slice_get (asked_in (says history)) p ≡ Some a
    → (x : StoreEntry) × (slice_get history p ≡ Some x) × (asks_at x ≡ a)
entry_at [] p a e = absurd (cc)
entry_at (y ∷ history) zero a e = (y, refl, some_is e)
entry_at (y ∷ history) (suc p) a e = entry_at history p a e

-- the only talk has all its replies
replied_all : (u t : Talk) (i : ℕ) → slice_get (u ∷ []) i ≡ Some t → length u.replies ≡ length u.asks → length t.replies ≡ length t.asks
replied_all u t zero e = subst (λ (z : Talk). length z.replies ≡ length z.asks) (some_is e)
replied_all u t (suc i) e = absurd (cc)

-- of two lists of one length one has something where the other has
beside : {X Y : Type 0} (xs : List X) (ys : List Y) (i : ℕ) (x : X) → slice_get xs i ≡ Some x → length ys ≡ length xs
    → (y : Y) × (slice_get ys i ≡ Some y)
beside [] ys i x e even = absurd (cc)
beside (z ∷ xs) [] i x e even = absurd (omega (arith, even))
beside (z ∷ xs) (y ∷ ys) zero x e even = (y, refl)
beside (z ∷ xs) (y ∷ ys) (suc i) x e even = beside xs ys i x e (omega (arith, even))

-- what accounts for the reply to a request accounts for it where the request is known
known_request : (b : StoreBasis) (history : List StoreEntry) (trail : List (ℕ × StoreTold)) (link index : ℕ) (q known : Asked) (y : Reply) → q ≡ known
    → IsAccounted b history trail q y (ask_of link index q) → IsAccounted b history trail known y (ask_of link index known)
known_request b history trail link index q known y same = subst (λ (z : Asked). IsAccounted b history trail z y (ask_of link index z)) same

module _ (b : StoreBasis) (history : List StoreEntry) (trail : List (ℕ × StoreTold)) (run : Run) (talks : List Talk) (accounted : Accounted b history trail run talks) (p : ℕ) (x : StoreEntry) (r : Record) (here : slice_get history p ≡ Some x) (puts : asks_at x ≡ Puts r) where
  -- an answer is told at the put's place
  abbrev IsToldSome : Type 0
  IsToldSome = (answer : Answer) × IsSaid b (says history) trail p (Told answer)

  told_as : (y : Reply) → IsAccounted b history trail (Request_of (Put r.key r.value)) y (Some (Puts r)) → IsToldSome
  told_as y (q, at) =
      let same : q ≡ p = accounted.once q p at.entry x r r at.here here at.asks puts refl refl in
      (at.said.0, subst (λ m. IsSaid b (says history) trail m (Told at.said.0)) same at.said.1)

  told_put : (t : Talk) → slice_get talks r.link ≡ Some t → slice_get t.asks r.index ≡ Some (Request_of (Put r.key r.value))
      → length t.replies ≡ length t.asks → IsToldSome
  told_put t there asked even =
      let reply = beside t.asks t.replies r.index (Request_of (Put r.key r.value)) asked even in
      let k = accounted.replied r.link r.index t reply.0 there reply.1 in
      told_as reply.0 (known_request b history trail r.link r.index k.0 (Request_of (Put r.key r.value)) reply.0 (some_is (sym k.1 ∙ asked)) k.3)

pub none_struck : (c : Cause) (b : StoreBasis) (history : List StoreEntry) (trail : List (ℕ × StoreTold)) (l : LinkRun) (e : LinkPorts) (records : List Record)
    → OneServed c b history trail l e records → IsDone c → (p : ℕ) (r : Record)
    → (standing_at_end b (says history) trail).fault ≡ Some p → slice_get (asked_in (says history)) p ≡ Some (Puts r) → ⊥
none_struck c b history trail l e records o done p r struck put =
    let x = entry_at history p (Puts r) put in
    let asked = o.accounted.puts p x.0 r x.1 x.2 in
    let even : length asked.0.replies ≡ length asked.0.asks = replied_all o.talk asked.0 r.link asked.1 (o.all done) in
    let told = told_put b history trail (run_of b l records) (o.talk ∷ []) o.accounted p x.0 r x.1 x.2 asked.0 asked.1 asked.2 even in
    never_both (said_once b (says history) trail p (Told told.0) Fault told.1 (struck_said b (says history) trail p struck))

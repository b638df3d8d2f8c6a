-- What the store says hangs on what is asked alone: its fold over operations is one over what they ask.
use Rattle.std.proofs.Common.{◌≡◌, ℕ, zero, suc, ◌+◌, Bool, true, false, List, [], ◌∷◌, ◌++◌, length, take, Option, None, Some, refl, arith, ◌∙◌, ap, sym, cond, append_assoc, append-nil}
use Rattle.std.specs.Prelude.{nat_le}
use Rattle.demi_spec.specs.Request.{Put, Get}
use Rattle.demi_spec.specs.Input.{Request_of}
use Rattle.demi_spec.specs.Reply.{Stored, Full}
use Rattle.demi_spec.specs.Record.{Record}
use Rattle.demi_store.specs.History.{Said, Told, Fault, NoMemory, Broken, Stopped, Halted, Standing, answered, put_open, get_open, opened, struck_at}
use Rattle.demi_store.specs.History as ops
use Rattle.demi_store.specs.Laws.{StoreBasis, said_to}
use Rattle.demi_store.specs.declared.ask.StoreAsk.{StoreAsk}
use Rattle.demi_store.specs.declared.op.StoreOp.{StoreOp}
use Rattle.demi_store.specs.declared.op.StoreOp.TheVariants as op
use Rattle.demi_store.specs.declared.told.StoreTold.{StoreTold}
use Rattle.demi_store.specs.declared.told.StoreTold.TheVariants.{ByDisk, ByMemory}
use Rattle.demi_served.specs.Asking.{Ask, Puts, Gets, Stops, asks_for}
use Rattle.demi_served.specs.Accounts.{asked_in, standing_at_end}

abbrev pub said_open : ℕ → ℕ → Standing → Ask → Option StoreTold → Option ℕ → Said × Standing
said_open limit place s Stops struck fault = (Halted, record s { stop = Some place })
said_open limit place s (Puts r) struck None = put_open limit place r.link r.index s (Request_of (Put r.key r.value)) struck
said_open limit place s (Gets key) struck None = get_open limit place s (Request_of (Get key)) struck
said_open limit place s ask struck (Some at) = (Broken at, s)

abbrev pub said_by : ℕ → ℕ → Standing → Ask → Option StoreTold → Option ℕ → Said × Standing
said_by limit place s ask struck (Some at) = (Stopped at, s)
said_by limit place s ask struck None = said_open limit place s ask struck s.fault

abbrev pub said_at : ℕ → ℕ → Standing → Ask → Option StoreTold → Said × Standing
said_at limit place s ask struck = said_by limit place s ask struck s.stop

abbrev pub standing_from : ℕ → (ℕ → Option StoreTold) → ℕ → Standing → List Ask → Standing
standing_from limit struck place s [] = s
standing_from limit struck place s (a ∷ asks) = standing_from limit struck (place + 1) (said_at limit place s a (struck place)).1 asks

abbrev pub storeresult : ℕ → List Record → (ℕ → Option StoreTold) → List Ask → ℕ → Ask → Said
storeresult limit old struck asks place ask = (said_at limit place (standing_from limit struck 0 (opened old) (take place asks)) ask (struck place)).0

-- It is the store's own fold.
open_is : (limit place : ℕ) (s : Standing) (o : StoreOp) (struck : Option StoreTold) (fault : Option ℕ)
    → ops.said_open limit place s o struck fault ≡ said_open limit place s (asks_for o) struck fault
open_is limit place s (op.Put link index key value) struck None = refl
open_is limit place s (op.Put link index key value) struck (Some at) = refl
open_is limit place s (op.Get key room) struck None = refl
open_is limit place s (op.Get key room) struck (Some at) = refl
open_is limit place s op.Stop struck fault = refl

by_is : (limit place : ℕ) (s : Standing) (o : StoreOp) (struck : Option StoreTold) (stop : Option ℕ)
    → ops.said_by limit place s o struck stop ≡ said_by limit place s (asks_for o) struck stop
by_is limit place s o struck None = open_is limit place s o struck s.fault
by_is limit place s o struck (Some at) = refl

pub at_is : (limit place : ℕ) (s : Standing) (a : StoreAsk) (struck : Option StoreTold)
    → ops.said_at limit place s a struck ≡ said_at limit place s (asks_for a.op) struck
at_is limit place s a struck = by_is limit place s a.op struck s.stop

pub standing_is : (limit : ℕ) (struck : ℕ → Option StoreTold) (place : ℕ) (s : Standing) (asks : List StoreAsk)
    → ops.standing_from limit struck place s asks ≡ standing_from limit struck place s (asked_in asks)
standing_is limit struck place s [] = refl
standing_is limit struck place s (a ∷ asks) =
    ap (λ (x : Said × Standing). ops.standing_from limit struck (place + 1) x.1 asks) (at_is limit place s a (struck place))
    ∙ standing_is limit struck (place + 1) (said_at limit place s (asks_for a.op) (struck place)).1 asks

take_asked : (n : ℕ) (asks : List StoreAsk) → asked_in (take n asks) ≡ take n (asked_in asks)
take_asked zero asks = refl
take_asked (suc n) [] = refl
take_asked (suc n) (a ∷ asks) = ap (λ (l : List Ask). asks_for a.op ∷ l) (take_asked n asks)

pub result_is : (b : StoreBasis) (history : List StoreAsk) (trail : List (ℕ × StoreTold)) (p : ℕ) (a : StoreAsk)
    → said_to b history trail p a ≡ storeresult b.limit b.records (struck_at trail) (asked_in history) p
    (asks_for a.op)
result_is b history trail p a =
    ap (λ (s : Standing). (ops.said_at b.limit p s a (struck_at trail p)).0) (standing_is b.limit (struck_at trail) 0 (opened b.records) (take p history) ∙ ap (standing_from b.limit (struck_at trail) 0 (opened b.records)) (take_asked p history))
    ∙ ap (λ (x : Said × Standing). x.0) (at_is b.limit p (standing_from b.limit (struck_at trail) 0 (opened b.records) (take p (asked_in history))) a (struck_at trail p))

pub end_is : (b : StoreBasis) (history : List StoreAsk) (trail : List (ℕ × StoreTold))
    → standing_at_end b history trail ≡ standing_from b.limit (struck_at trail) 0 (opened b.records)
    (asked_in history)
end_is b history trail = standing_is b.limit (struck_at trail) 0 (opened b.records) history

-- the records of the puts that are told to be stored
abbrev pub added_by : Ask → Said → List Record
added_by (Puts r) (Told (Stored v bytes)) = r ∷ []
added_by ask said = []

abbrev pub stored_from : ℕ → (ℕ → Option StoreTold) → ℕ → Standing → List Ask → List Record
stored_from limit struck place s [] = []
stored_from limit struck place s (a ∷ asks) = added_by a (said_at limit place s a (struck place)).0 ++ stored_from limit struck (place + 1) (said_at limit place s a (struck place)).1 asks

-- the records grow at their end
abbrev pub Grows : List Record → List Record → Type 0
Grows old new = (more : List Record) × (new ≡ old ++ more)

-- what is said and what stands then: the records grow by that of a stored put
abbrev AddsRightly : Ask → Standing → Said × Standing → Type 0
AddsRightly a s x = x.1.records ≡ s.records ++ added_by a x.0

answered_adds : (limit : ℕ) (r : Record) (s : Standing)
    → AddsRightly (Puts r) s (answered limit r.link r.index s (Request_of (Put r.key r.value)))
answered_adds limit r s = go (nat_le limit (length s.records))
  where
    go : (b : Bool) → s.records ++ cond b [] (record { link = r.link; index = r.index; key = r.key; value = r.value } ∷ []) ≡ s.records ++ added_by (Puts r) (Told (cond b (Full (length s.records)) (Stored (length s.records + 1) r.value)))
    go true = refl
    go false = refl

none_added : (a : Ask) (s : Standing) (said : Said) (stop fault : Option ℕ) → added_by a said ≡ []
    → AddsRightly a s (said, record s { stop = stop; fault = fault })
none_added a s said stop fault none = sym (append-nil s.records) ∙ ap (λ (l : List Record). s.records ++ l) (sym none)

put_adds : (limit place : ℕ) (r : Record) (s : Standing) (k : Option StoreTold)
    → AddsRightly (Puts r) s (put_open limit place r.link r.index s (Request_of (Put r.key r.value)) k)
put_adds limit place r s None = answered_adds limit r s
put_adds limit place r s (Some ByDisk) = go (nat_le limit (length s.records))
  where
    go : (b : Bool) → AddsRightly (Puts r) s (cond b (answered limit r.link r.index s (Request_of (Put r.key r.value))) (Fault, record s { fault = Some place }))
    go true = answered_adds limit r s
    go false = none_added (Puts r) s Fault s.stop (Some place) refl
put_adds limit place r s (Some ByMemory) = go (nat_le limit (length s.records))
  where
    go : (b : Bool) → AddsRightly (Puts r) s (cond b (answered limit r.link r.index s (Request_of (Put r.key r.value))) (NoMemory, s))
    go true = answered_adds limit r s
    go false = none_added (Puts r) s NoMemory s.stop s.fault refl

get_adds : (limit place : ℕ) (key : List ℕ) (s : Standing) (k : Option StoreTold)
    → AddsRightly (Gets key) s (get_open limit place s (Request_of (Get key)) k)
get_adds limit place key s None = sym (append-nil s.records)
get_adds limit place key s (Some ByDisk) = sym (append-nil s.records)
get_adds limit place key s (Some ByMemory) = sym (append-nil s.records)

open_adds : (limit place : ℕ) (s : Standing) (a : Ask) (k : Option StoreTold) (fault : Option ℕ)
    → AddsRightly a s (said_open limit place s a k fault)
open_adds limit place s Stops k fault = sym (append-nil s.records)
open_adds limit place s (Puts r) k None = put_adds limit place r s k
open_adds limit place s (Puts r) k (Some at) = sym (append-nil s.records)
open_adds limit place s (Gets key) k None = get_adds limit place key s k
open_adds limit place s (Gets key) k (Some at) = sym (append-nil s.records)

by_adds : (limit place : ℕ) (s : Standing) (a : Ask) (k : Option StoreTold) (stop : Option ℕ)
    → AddsRightly a s (said_by limit place s a k stop)
by_adds limit place s Stops k (Some at) = sym (append-nil s.records)
by_adds limit place s (Puts r) k (Some at) = sym (append-nil s.records)
by_adds limit place s (Gets key) k (Some at) = sym (append-nil s.records)
by_adds limit place s a k None = open_adds limit place s a k s.fault

pub history_adds : (limit : ℕ) (struck : ℕ → Option StoreTold) (place : ℕ) (s : Standing) (asks : List Ask)
    → (standing_from limit struck place s asks).records ≡ s.records ++ stored_from limit struck place s asks
history_adds limit struck place s [] = sym (append-nil s.records)
history_adds limit struck place s (a ∷ asks) =
    let now : Standing = (said_at limit place s a (struck place)).1 in
    history_adds limit struck (place + 1) now asks
    ∙ ap (λ (l : List Record). l ++ stored_from limit struck (place + 1) now asks) (by_adds limit place s a (struck place) s.stop)
    ∙ append_assoc s.records (added_by a (said_at limit place s a (struck place)).0) (stored_from limit struck (place + 1) now asks)

pub history_grows : (limit : ℕ) (struck : ℕ → Option StoreTold) (place : ℕ) (s : Standing) (asks : List Ask)
    → Grows s.records (standing_from limit struck place s asks).records
history_grows limit struck place s asks = (stored_from limit struck place s asks, history_adds limit struck place s asks)

pub history_join : (limit : ℕ) (struck : ℕ → Option StoreTold) (place : ℕ) (s : Standing) (first second : List Ask)
    → standing_from limit struck place s (first ++ second) ≡ standing_from limit struck (place + length first)
    (standing_from limit struck place s first) second
history_join limit struck place s [] second = ap (λ n. standing_from limit struck n s second) (omega arith)
history_join limit struck place s (a ∷ first) second =
    history_join limit struck (place + 1) (said_at limit place s a (struck place)).1 first second
    ∙ ap (λ n. standing_from limit struck n (standing_from limit struck (place + 1) (said_at limit place s a (struck place)).1 first) second) (omega arith)

-- What comes out of a port is of the whole's heap.
use Rattle.std.proofs.Common.{◌≡◌, ℕ, ◌<◌, Bool, true, false, cond, List, [], ◌∷◌, length, get_or, replicate, refl, ap, sym, subst, arith}
use Rattle.std.specs.Prelude.{◌-◌, ◌%◌, ◌/◌, ◌==◌, nat_lt}
use Rattle.demi_heap.specs.Seen.{HeapId}
use Rattle.demi_logq.specs.Answers.{LogBasis}
use Rattle.demi_port.specs.Seen.{PortId}
use Rattle.demi_port_core.specs.declared.place.Place.{Place}
use Rattle.demi_port_core.specs.declared.place.QToken.{QToken}
use Rattle.demi_pdpix.specs.declared.kind.PortKind.{PortKind}
use Rattle.demi_pdpix.specs.declared.kind.PortKind.TheVariants.{Memory, Service, Journal, Receiving, Sending, Nowhere}
use Rattle.demi_pdpix.specs.declared.outcomes.QResult.{QResult}
use Rattle.demi_pdpix.specs.declared.outcomes.QResult.TheVariants.{Mem, Service as Serviced, Log, Rx, Tx}
use Rattle.demi_pdpix.specs.declared.outcomes.Answer.{Answer}
use Rattle.demi_pdpix.specs.declared.outcomes.Answer.TheVariants.{Ready, NotYet, Spent, Unknown}
use Rattle.demi_pdpix.specs.Answers.{SawBusy}
use Rattle.demi_pdpix.specs.Calls.{Changed}
use Rattle.demi_pdpix.specs.Kinds.{kind_of, side_of}
use Rattle.demi_pdpix.specs.Seen.{AreAt, CallerValue, DemiId, IsOf, LogPass, MemPass, RxPass, TxPass}
use Rattle.demi_pdpix.specs.Tries.{AllBusy, BusyAt, HoldsOf, TriedAt, TriedJournal, TriedMemory, TriedRx, TriedService, TriedTx, Waited}
use Rattle.demi_pdpix.proofs.Returned.{set_length}

-- the caller has a pass of the log's queue, where the kind is that
abbrev pub HasPass : {D T B : Type 0} → PortKind → CallerValue D T B → Type 0
HasPass Journal c = 0 < length c.journal
HasPass Memory c = Unit {0}
HasPass Service c = Unit {0}
HasPass (Receiving k) c = Unit {0}
HasPass (Sending k) c = Unit {0}
HasPass Nowhere c = Unit {0}

mem_holds : {L P O S T B : Type 0} (heap : HeapId) (token : ℕ) (p q : MemPass) (place : Place) (r : QResult L P O S T B) → TriedMemory {L = L} {P = P} {O = O} {S = S} {T = T} {B = B} heap token p q (Ready place r) → HoldsOf heap r
mem_holds heap token p q place (Mem o) h = h.admitted.1
mem_holds heap token p q place (Serviced o) h = absurd h
mem_holds heap token p q place (Log o) h = absurd h
mem_holds heap token p q place (Rx o) h = absurd h
mem_holds heap token p q place (Tx o) h = absurd h

log_holds : {L P O S T B : Type 0} (heap : HeapId) (token : ℕ) (p q : LogPass) (place : Place) (r : QResult L P O S T B) → TriedJournal {L = L} {P = P} {O = O} {S = S} {T = T} {B = B} heap token p q (Ready place r) → HoldsOf heap r
log_holds heap token p q place (Mem o) h = absurd h
log_holds heap token p q place (Serviced o) h = absurd h
log_holds heap token p q place (Log o) h = h.admitted.1
log_holds heap token p q place (Rx o) h = absurd h
log_holds heap token p q place (Tx o) h = absurd h

rx_holds : {L P O S T B : Type 0} (heap : HeapId) (token : ℕ) (p q : RxPass) (place : Place) (r : QResult L P O S T B) → TriedRx {L = L} {P = P} {O = O} {S = S} {T = T} {B = B} heap token p q (Ready place r) → HoldsOf heap r
rx_holds heap token p q place (Mem o) h = absurd h
rx_holds heap token p q place (Serviced o) h = absurd h
rx_holds heap token p q place (Log o) h = absurd h
rx_holds heap token p q place (Rx o) h = h.admitted.1
rx_holds heap token p q place (Tx o) h = absurd h

tx_holds : {L P O S T B : Type 0} (heap : HeapId) (token : ℕ) (p q : TxPass) (place : Place) (r : QResult L P O S T B) → TriedTx {L = L} {P = P} {O = O} {S = S} {T = T} {B = B} token p q (Ready place r) → HoldsOf heap r
tx_holds heap token p q place (Mem o) h = absurd h
tx_holds heap token p q place (Serviced o) h = absurd h
tx_holds heap token p q place (Log o) h = absurd h
tx_holds heap token p q place (Rx o) h = absurd h
tx_holds heap token p q place (Tx o) h = tt

service_holds : {L P O S T B : Type 0} (admits : B → List S → List (ℕ × T) → ℕ → O → Type 0) (heap : HeapId) (token : ℕ) (c e : CallerValue S T B) (place : Place) (r : QResult L P O S T B) → TriedService admits token c.service e.service (Ready place r) → HoldsOf heap r
service_holds admits heap token c e place (Mem o) h = absurd h
service_holds admits heap token c e place (Serviced o) h = tt
service_holds admits heap token c e place (Log o) h = absurd h
service_holds admits heap token c e place (Rx o) h = absurd h
service_holds admits heap token c e place (Tx o) h = absurd h

first_of : (ps : List LogPass) → 0 < length ps → LogPass
first_of [] low = absurd (omega (arith, low))
first_of (p ∷ ps) low = p

abbrev is_unknown : {L P O S T B : Type 0} → Answer L P O S T B → Type 0
is_unknown (Ready p o) = ⊥
is_unknown NotYet = ⊥
is_unknown Spent = ⊥
is_unknown Unknown = Unit {0}

-- some pass of a port with a heap for its base
rx_some : {D T B : Type 0} → CallerValue D T B → RxPass
rx_some c = record { port = c.memory.port; number = 0; seen = 0; submitted = []; redeemed = []; notes = 0; learnt = 0; clock = 0; looks = []; owes = 0; heard = []; trail = []; floor = 0 }

tx_some : {D T B : Type 0} → CallerValue D T B → TxPass
tx_some c = record { port = c.memory.port; number = 0; seen = 0; submitted = []; redeemed = []; notes = 0; learnt = 0; clock = 0; looks = []; owes = 0; heard = []; trail = []; floor = 0 }

tried_holds : {L P O S T B : Type 0} (kind : PortKind) (admits : B → List S → List (ℕ × T) → ℕ → O → Type 0) (heap : HeapId) (token : ℕ) (c e : CallerValue S T B) (place : Place) (r : QResult L P O S T B)
    → HasPass kind c → TriedAt kind admits heap token c e (Ready place r) → HoldsOf heap r
tried_holds Memory admits heap token c e place r has t = mem_holds heap token c.memory e.memory place r t.1
tried_holds Service admits heap token c e place r has t = service_holds admits heap token c e place r t.1
tried_holds Journal admits heap token c e place r has t = let p = first_of c.journal has in log_holds heap token (get_or c.journal 0 p) (get_or e.journal 0 p) place r (t.1 p).1
tried_holds (Receiving k) admits heap token c e place r has t = let p = rx_some c in rx_holds heap token (get_or c.rx k p) (get_or e.rx k p) place r (t.1 p).1
tried_holds (Sending k) admits heap token c e place r has t = let p = tx_some c in tx_holds heap token (get_or c.tx k p) (get_or e.tx k p) place r (t.1 p).1
tried_holds Nowhere admits heap token c e place r has t = absurd (subst is_unknown (sym t.0) tt)

-- a look keeps the passes that there are
changed_long : (xs ys : List LogPass) (P : LogPass → LogPass → Type 0) → Changed 0 xs ys P → 0 < length xs → 0 < length ys
changed_long xs ys P changed low = let p = first_of xs low in let a = ap length (changed p).0 in let b = set_length xs 0 (get_or ys 0 p) in omega (arith, a, b, low)

busy_long : {D T B : Type 0} (kind : PortKind) (token : ℕ) (c e : CallerValue D T B) → BusyAt kind token c e → 0 < length c.journal → 0 < length e.journal
busy_long Memory token c e b low = subst (λ n. 0 < n) (sym (ap (λ (x : CallerValue _ _ _). length x.journal) b.0)) low
busy_long Service token c e b low = subst (λ n. 0 < n) (sym (ap (λ (x : CallerValue _ _ _). length x.journal) b.0)) low
busy_long Journal token c e b low = changed_long c.journal e.journal (SawBusy token) b.1 low
busy_long (Receiving k) token c e b low = subst (λ n. 0 < n) (sym (ap (λ (x : CallerValue _ _ _). length x.journal) b.0)) low
busy_long (Sending k) token c e b low = subst (λ n. 0 < n) (sym (ap (λ (x : CallerValue _ _ _). length x.journal) b.0)) low
busy_long Nowhere token c e b low = absurd b

all_busy_long : {D T B : Type 0} (d : DemiId B) (tokens : List QToken) (c e : CallerValue D T B) → AllBusy d tokens c e → 0 < length c.journal → 0 < length e.journal
all_busy_long d [] c e b low = subst (λ n. 0 < n) (sym (ap (λ (x : CallerValue _ _ _). length x.journal) b)) low
all_busy_long d (t ∷ ts) c e b low = all_busy_long d ts b.0 e b.2 (busy_long (kind_of d t.port) t.token.0 c b.0 b.1 low)

-- where there is no port for a log, no port is one
abbrev is_journal : PortKind → Type 0
is_journal Journal = Unit {0}
is_journal Memory = ⊥
is_journal Service = ⊥
is_journal (Receiving k) = ⊥
is_journal (Sending k) = ⊥
is_journal Nowhere = ⊥

no_side : (a b c : Bool) (k : ℕ) → is_journal (cond a (cond b (Receiving k) Nowhere) (cond c (Sending k) Nowhere)) → ⊥
no_side true true c k h = h
no_side true false c k h = h
no_side false b true k h = h
no_side false b false k h = h

no_journal : (a b c : Bool) (x : PortKind) → (is_journal x → ⊥) → is_journal (cond a Memory (cond b Service (cond c Nowhere x))) → ⊥
no_journal true b c x not h = h
no_journal false true c x not h = h
no_journal false false true x not h = h
no_journal false false false x not h = not h

long_of : {D T B : Type 0} (d : DemiId B) (c : CallerValue D T B) (port : ℕ) (journal : List (PortId LogBasis)) → d.journal ≡ journal → AreAt c.journal journal → is_journal (kind_of d port) → 0 < length c.journal
long_of d c port [] none are is = absurd (no_journal (port == 0) (port == 1) (port == 2) (side_of d ((port - 3) % 2) ((port - 3) / 2)) (no_side (((port - 3) % 2) == 0) (nat_lt ((port - 3) / 2) (length d.rx)) (nat_lt ((port - 3) / 2) (length d.tx)) ((port - 3) / 2))
    (subst (λ (n : ℕ). is_journal (cond (port == 0) Memory (cond (port == 1) Service (cond (port == 2) (cond (nat_lt 0 n) Journal Nowhere) (side_of d ((port - 3) % 2) ((port - 3) / 2)))))) (ap length none) is))
long_of d c port (x ∷ xs) some are is = at_least c.journal are
  where
    at_least : (ps : List LogPass) → AreAt ps (x ∷ xs) → 0 < length ps
    at_least [] are = absurd are
    at_least (p ∷ ps) are = omega arith

has_pass : {D T B : Type 0} (kind : PortKind) (c : CallerValue D T B) → (is_journal kind → 0 < length c.journal) → HasPass kind c
has_pass Memory c f = tt
has_pass Service c f = tt
has_pass Journal c f = f tt
has_pass (Receiving k) c f = tt
has_pass (Sending k) c f = tt
has_pass Nowhere c f = tt

-- the arrays of an outcome that a wait gave are of the whole's heap
pub waited_holds : {L P O S T B : Type 0} (admits : B → List S → List (ℕ × T) → ℕ → O → Type 0) (d : DemiId B) (t : QToken) (c e : CallerValue S T B) (place : Place) (r : QResult L P O S T B)
    → IsOf d c → Waited admits d t c e (Ready place r) → HoldsOf d.heap r
waited_holds admits d t c e place r of w =
    tried_holds (kind_of d t.port) admits d.heap t.token.0 w.1 e place r
    (has_pass (kind_of d t.port) w.1 (λ j. all_busy_long d (replicate w.0 t) c w.1 w.2 (long_of d c t.port d.journal refl of.journal j))) w.3

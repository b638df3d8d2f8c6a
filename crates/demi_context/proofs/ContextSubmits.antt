-- What a submission tells of the link whose port it is.
use Rattle.std.proofs.Common.{◌≡◌, ℕ, Bool, true, false, cond, replicate, arith, ◌<◌, List, [], ◌∷◌, length, refl, ap, sym, subst, suc}
use Rattle.std.specs.Prelude.{◌-◌, ◌%◌, ◌/◌, ◌==◌, nat_lt}
use Rattle.std.proofs.lemmas.Bool.{ltb-true}
use Rattle.demi_heap.specs.Seen.{HalfValue}
use Rattle.demi_port.specs.Seen.{PassValue, PortId}
use Rattle.demi_pdpix.specs.Asks.{pop_asks, push_asks, to_receiver, to_sender}
use Rattle.demi_pdpix.specs.Calls.{FindsNone, FoundNone, Submits, Submitted}
use Rattle.demi_pdpix.specs.Kinds.{kind_of, side_of as side_of_link}
use Rattle.demi_pdpix.specs.Notes.{Scanned, ScannedAt}
use Rattle.demi_pdpix.specs.Seen.{AreAt, LogPass, RxPass, TxPass}
use Rattle.demi_pdpix.specs.declared.kind.PortKind.{PortKind}
use Rattle.demi_pdpix.specs.declared.kind.PortKind.TheVariants.{Memory, Service, Journal, Receiving, Sending, Nowhere}
use Rattle.demi_sched.specs.Scanning.{IsWithin}
use Rattle.demi_sched.proofs.Finds.{within_first}
use Rattle.demi_sched.proofs.Rows.{zeros_none}
use Rattle.demi_streamq.specs.declared.rx_op.RxOp.{RxOp}
use Rattle.demi_streamq.specs.declared.rx_op.RxOp.TheVariants.{Pop}
use Rattle.demi_streamq.specs.declared.tx_op.TxOp.{TxOp}
use Rattle.demi_streamq.specs.declared.tx_op.TxOp.TheVariants.{Push}
use Rattle.demi_link.specs.Sights.{Submits as LinkSubmits, side_of}
use Rattle.demi_context.specs.ContextPorts.{Caller, OwesMore, OwesSame, SameButRx, SameButTx, SameSides, Whole, rx_port, side_at, tx_port}
use Rattle.demi_context.proofs.ContextKinds.{kind_rx, kind_tx}
use Rattle.demi_context.proofs.ContextOwing.{none_owes, submits_owes}
use Rattle.demi_context.proofs.ContextSides.{changed_here, changed_same, looked_side, scanned_side, submitted_side}
use Rattle.demi_context.proofs.ContextTries.{only_rx, only_tx}

pub as_many : {D T B : Type 0} (ps : List (PassValue D T B)) (xs : List (PortId B)) → AreAt ps xs → length ps ≡ length xs
as_many [] [] are = refl
as_many [] (x ∷ xs) are = absurd are
as_many (p ∷ ps) [] are = absurd are
as_many (p ∷ ps) (x ∷ xs) are = ap suc (as_many ps xs are.1)

-- the caller has a pass of the port of each link that there is
pub rx_low : (d : Whole) (c : Caller) (k : ℕ) → AreAt c.rx d.rx → k < length d.rx → k < length c.rx
rx_low d c k are low = subst (λ (n : ℕ). k < n) (sym (as_many c.rx d.rx are)) low

pub tx_low : (d : Whole) (c : Caller) (k : ℕ) → AreAt c.tx d.tx → k < length d.tx → k < length c.tx
tx_low d c k are low = subst (λ (n : ℕ). k < n) (sym (as_many c.tx d.tx are)) low

module _ (d : Whole) (port k : ℕ) (c e : Caller) (are : AreAt c.rx d.rx) (at : port ≡ rx_port k) (low : k < length d.rx) where
  pub rx_submitted : (token : ℕ) (op : RxOp) → Submits (Receiving k) (to_receiver op) c e token
      → SameButRx k c e × ((place : ℕ) × LinkSubmits place (side_at c.rx k) (side_at e.rx k) token op) × OwesMore (Receiving k) c e
  rx_submitted token op s =
      let there = rx_low d c k are low in (
        only_rx (λ p q. Submitted p q token op) k c e s.0 there s.1,
        changed_here (λ p q. Submitted p q token op) k c.rx e.rx there s.1 (λ a b. (place : ℕ) × LinkSubmits place a b token op) (λ p q h. (h.0, submitted_side h.0 p q token op h.1)),
        submits_owes (Receiving k) (to_receiver op) token c e s,
      )

  pub popped : (token : ℕ) → Submits (kind_of d port) (pop_asks (kind_of d port) 0 4096) c e token
      → SameButRx k c e × ((place : ℕ) × LinkSubmits place (side_at c.rx k) (side_at e.rx k) token (Pop 4096)) × OwesMore (Receiving k) c e
  popped token s = rx_submitted token (Pop 4096) (subst (λ (x : PortKind). Submits x (pop_asks x 0 4096) c e token) (kind_rx d port k at low) s)

  pub no_rx_token : FindsNone (kind_of d port) c e → SameButRx k c e × (side_at e.rx k ≡ side_at c.rx k) × OwesSame c e
  no_rx_token none =
      let there = rx_low d c k are low in
      let s = subst (λ (x : PortKind). FindsNone x c e) (kind_rx d port k at low) none in
      (only_rx FoundNone k c e s.0 there s.1, changed_here FoundNone k c.rx e.rx there s.1 (λ a b. b ≡ a) (λ p q h. looked_side p q h.only), none_owes (Receiving k) c e s)

module _ (d : Whole) (port k : ℕ) (c e : Caller) (are : AreAt c.tx d.tx) (at : port ≡ tx_port k) (low : k < length d.tx) where
  pub tx_submitted : (token : ℕ) (op : TxOp) → Submits (Sending k) (to_sender op) c e token
      → SameButTx k c e × ((place : ℕ) × LinkSubmits place (side_at c.tx k) (side_at e.tx k) token op) × OwesMore (Sending k) c e
  tx_submitted token op s =
      let there = tx_low d c k are low in (
        only_tx (λ p q. Submitted p q token op) k c e s.0 there s.1,
        changed_here (λ p q. Submitted p q token op) k c.tx e.tx there s.1 (λ a b. (place : ℕ) × LinkSubmits place a b token op) (λ p q h. (h.0, submitted_side h.0 p q token op h.1)),
        submits_owes (Sending k) (to_sender op) token c e s,
      )

  pub pushed : (token : ℕ) (sga : List HalfValue) → Submits (kind_of d port) (push_asks (kind_of d port) 0 sga) c e token
      → SameButTx k c e × ((place : ℕ) × LinkSubmits place (side_at c.tx k) (side_at e.tx k) token (Push sga)) × OwesMore (Sending k) c e
  pushed token sga s = tx_submitted token (Push sga) (subst (λ (x : PortKind). Submits x (push_asks x 0 sga) c e token) (kind_tx d port k at low) s)

  pub no_tx_token : FindsNone (kind_of d port) c e → SameButTx k c e × (side_at e.tx k ≡ side_at c.tx k) × OwesSame c e
  no_tx_token none =
      let there = tx_low d c k are low in
      let s = subst (λ (x : PortKind). FindsNone x c e) (kind_tx d port k at low) none in
      (only_tx FoundNone k c e s.0 there s.1, changed_here FoundNone k c.tx e.tx there s.1 (λ a b. b ≡ a) (λ p q h. looked_side p q h.only), none_owes (Sending k) c e s)

-- a pass of a port that stands on a heap, and one of a log's
pub rx_some : Caller → RxPass
rx_some c = record { port = c.memory.port; number = 0; seen = 0; submitted = []; redeemed = []; notes = 0; learnt = 0; clock = 0; looks = []; owes = 0; heard = []; trail = []; floor = 0 }

pub tx_some : Caller → TxPass
tx_some c = record { port = c.memory.port; number = 0; seen = 0; submitted = []; redeemed = []; notes = 0; learnt = 0; clock = 0; looks = []; owes = 0; heard = []; trail = []; floor = 0 }

log_some : (ps : List LogPass) → 0 < length ps → LogPass
log_some [] low = absurd (omega (arith, low))
log_some (p ∷ ps) low = p

-- a scan changes nothing that links see
pub scanned_same : (kind : PortKind) (mask bits : List ℕ) (c e : Caller) → ScannedAt kind mask bits c e → SameSides c e
scanned_same Memory mask bits c e s = (ap (λ (x : Caller). side_of x.service) s.0, (λ k. ap (λ (x : Caller). side_at x.rx k) s.0), (λ k. ap (λ (x : Caller). side_at x.tx k) s.0), scanned_side c.memory e.memory mask bits s.1)
scanned_same Service mask bits c e s = (scanned_side c.service e.service mask bits s.1, (λ k. ap (λ (x : Caller). side_at x.rx k) s.0), (λ k. ap (λ (x : Caller). side_at x.tx k) s.0), ap (λ (x : Caller). side_of x.memory) s.0)
scanned_same Journal mask bits c e s = (ap (λ (x : Caller). side_of x.service) s.0, (λ k. ap (λ (x : Caller). side_at x.rx k) s.0), (λ k. ap (λ (x : Caller). side_at x.tx k) s.0), ap (λ (x : Caller). side_of x.memory) s.0)
scanned_same (Receiving j) mask bits c e s = (ap (λ (x : Caller). side_of x.service) s.0, changed_same (Scanned mask bits) j c.rx e.rx (rx_some c) (λ p q h. scanned_side p q mask bits h) s.1, (λ k. ap (λ (x : Caller). side_at x.tx k) s.0), ap (λ (x : Caller). side_of x.memory) s.0)
scanned_same (Sending j) mask bits c e s = (ap (λ (x : Caller). side_of x.service) s.0, (λ k. ap (λ (x : Caller). side_at x.rx k) s.0), changed_same (Scanned mask bits) j c.tx e.tx (tx_some c) (λ p q h. scanned_side p q mask bits h) s.1, ap (λ (x : Caller). side_of x.memory) s.0)
scanned_same Nowhere mask bits c e s = absurd s

pass_within : {D T B : Type 0} (mask bits : List ℕ) (p q : PassValue D T B) → Scanned mask bits p q → IsWithin bits mask
pass_within mask bits p q s = subst (λ (b : List ℕ). IsWithin b mask) (sym s.3) (within_first s.1 mask)

-- where a port is the log's queue, there is one
abbrev is_journal : PortKind → Type 0
is_journal Journal = Unit {0}
is_journal Memory = ⊥
is_journal Service = ⊥
is_journal (Receiving k) = ⊥
is_journal (Sending k) = ⊥
is_journal Nowhere = ⊥

no_side_is : (a b c : Bool) (k : ℕ) → is_journal (cond a (cond b (Receiving k) Nowhere) (cond c (Sending k) Nowhere)) → ⊥
no_side_is true true c k h = h
no_side_is true false c k h = h
no_side_is false b true k h = h
no_side_is false b false k h = h

is_there : (a b c t : Bool) (x : PortKind) → (is_journal x → ⊥) → is_journal (cond a Memory (cond b Service (cond c (cond t Journal Nowhere) x))) → t ≡ true
is_there true b c t x not h = absurd h
is_there false true c t x not h = absurd h
is_there false false true true x not h = refl
is_there false false true false x not h = absurd h
is_there false false false t x not h = absurd (not h)

pub long_of : (d : Whole) (c : Caller) (port : ℕ) → AreAt c.journal d.journal → is_journal (kind_of d port) → 0 < length c.journal
long_of d c port are is =
    let there = is_there (port == 0) (port == 1) (port == 2) (nat_lt 0 (length d.journal)) (side_of_link d ((port - 3) % 2) ((port - 3) / 2))
    (no_side_is (((port - 3) % 2) == 0) (nat_lt ((port - 3) / 2) (length d.rx)) (nat_lt ((port - 3) / 2) (length d.tx)) ((port - 3) / 2)) is in
    subst (λ (n : ℕ). 0 < n) (sym (as_many c.journal d.journal are)) (ltb-true 0 (length d.journal) there)

-- the bits that a scan found are of its mask
pub scanned_within : (kind : PortKind) (mask bits : List ℕ) (c e : Caller) → (is_journal kind → 0 < length c.journal) → ScannedAt kind mask bits c e → IsWithin bits mask
scanned_within Memory mask bits c e has s = pass_within mask bits c.memory e.memory s.1
scanned_within Service mask bits c e has s = pass_within mask bits c.service e.service s.1
scanned_within Journal mask bits c e has s = pass_within mask bits _ _ (s.1 (log_some c.journal (has tt))).1
scanned_within (Receiving j) mask bits c e has s = pass_within mask bits _ _ (s.1 (rx_some c)).1
scanned_within (Sending j) mask bits c e has s = pass_within mask bits _ _ (s.1 (tx_some c)).1
scanned_within Nowhere mask bits c e has s = absurd s

pub none_within : (mask : List ℕ) → IsWithin (replicate 16 0) mask
none_within mask i small e = absurd (let z = zeros_none i in omega (arith, z, e))

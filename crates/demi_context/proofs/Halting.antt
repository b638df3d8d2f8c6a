-- Looks, and the stop of a port that was submitted, and then redeemed.
use Rattle.std.proofs.Common.{◌≡◌, ℕ, List, [], ◌∷◌, Err, refl, ap, subst, ◌∙◌}
use Rattle.demi_port_core.specs.declared.place.QToken.{QToken}
use Rattle.demi_memq.specs.declared.op.MemOp.TheVariants as memory
use Rattle.demi_pdpix.specs.Answers.{SawBusy}
use Rattle.demi_pdpix.specs.Asks.{IfBad, IfFull, stop_asks}
use Rattle.demi_pdpix.specs.Calls.{FindsNone, FoundNone, OnJournal, OnMemory, OnService, SubmittedAt, Submits as CallSubmits}
use Rattle.demi_pdpix.specs.Kinds.{kind_of}
use Rattle.demi_pdpix.specs.Seen.{IsOf}
use Rattle.demi_pdpix.specs.Tries.{AllBusy, BusyAt}
use Rattle.demi_pdpix.specs.declared.kind.PortKind.{PortKind}
use Rattle.demi_pdpix.specs.declared.kind.PortKind.TheVariants.{Memory, Service, Journal, Receiving, Sending, Nowhere}
use Rattle.demi_pdpix.specs.declared.refusals.PopRefused.{PopRefused}
use Rattle.demi_pdpix.specs.declared.refusals.PopRefused.TheVariants.{BadQd, BadSize, TokensFull}
use Rattle.demi_pdpix.proofs.Outstanding.{busy_due_at}
use Rattle.demi_streamq.specs.declared.rx_op.RxOp.TheVariants as receiving
use Rattle.demi_streamq.specs.declared.tx_op.TxOp.TheVariants as sending
use Rattle.demi_link.specs.Sights.{Side, side_of}
use Rattle.demi_context.specs.ContextPorts.{Caller, SameButMemory, Whole, rx_port, side_at, tx_port}
use Rattle.demi_context.specs.Halting.{Gives, GivesStop, HasLooked}
use Rattle.demi_closed.specs.OnlyLink.{store_stop}
use Rattle.demi_context.proofs.ContextOwing.{none_owes, same_owes}
use Rattle.demi_context.proofs.ContextSides.{changed_same, found_side, looked_side, submitted_side}
use Rattle.demi_context.proofs.ContextSubmits.{rx_some, rx_submitted, tx_some, tx_submitted}
use Rattle.demi_context.proofs.ContextTries.{only_service}

-- only the pass of the memory queues changed, or that of a log's queue
pub only_memory : (c e : Caller) → OnMemory c e → SameButMemory c e
only_memory c e s = (ap (λ (x : Caller). side_of x.service) s, (λ k. ap (λ (x : Caller). side_at x.rx k) s), λ k. ap (λ (x : Caller). side_at x.tx k) s)

only_journal : (c e : Caller) → OnJournal c e → SameButMemory c e
only_journal c e s = (ap (λ (x : Caller). side_of x.service) s, (λ k. ap (λ (x : Caller). side_at x.rx k) s), λ k. ap (λ (x : Caller). side_at x.tx k) s)

-- Looks.
pub looked_same : (c e : Caller) → e ≡ c → HasLooked c e
looked_same c e s = record {
  memory = ap (λ (x : Caller). side_of x.memory) s;
  sides = (ap (λ (x : Caller). side_of x.service) s, (λ k. ap (λ (x : Caller). side_at x.rx k) s), λ k. ap (λ (x : Caller). side_at x.tx k) s);
  owes = same_owes c e s;
}

pub looked_on : (a b c : Caller) → HasLooked a b → HasLooked b c → HasLooked a c
looked_on a b c first second = record {
  memory = second.memory ∙ first.memory;
  sides = (second.sides.0 ∙ first.sides.0, (λ k. second.sides.1 k ∙ first.sides.1 k), λ k. second.sides.2 k ∙ first.sides.2 k);
  owes = λ n f due. second.owes n f (first.owes n f due);
}

pub none_looked : (kind : PortKind) (c e : Caller) → FindsNone kind c e → HasLooked c e
none_looked Memory c e s = record { memory = looked_side c.memory e.memory s.1.only; sides = only_memory c e s.0; owes = none_owes Memory c e s }
none_looked Service c e s = let o = only_service c e s.0 in record { memory = ap (λ (x : Caller). side_of x.memory) s.0; sides = (looked_side c.service e.service s.1.only, o.0, o.1); owes = none_owes Service c e s }
none_looked Journal c e s = record { memory = ap (λ (x : Caller). side_of x.memory) s.0; sides = only_journal c e s.0; owes = none_owes Journal c e s }
none_looked (Receiving j) c e s = record {
  memory = ap (λ (x : Caller). side_of x.memory) s.0;
  sides = (ap (λ (x : Caller). side_of x.service) s.0, changed_same FoundNone j c.rx e.rx (rx_some c) (λ p q h. looked_side p q h.only) s.1, λ k. ap (λ (x : Caller). side_at x.tx k) s.0);
  owes = none_owes (Receiving j) c e s;
}
none_looked (Sending j) c e s = record {
  memory = ap (λ (x : Caller). side_of x.memory) s.0;
  sides = (ap (λ (x : Caller). side_of x.service) s.0, (λ k. ap (λ (x : Caller). side_at x.rx k) s.0), changed_same FoundNone j c.tx e.tx (tx_some c) (λ p q h. looked_side p q h.only) s.1);
  owes = none_owes (Sending j) c e s;
}
none_looked Nowhere c e s = absurd s

pub busy_looked : (kind : PortKind) (token : ℕ) (c e : Caller) → BusyAt kind token c e → HasLooked c e
busy_looked Memory token c e s = record { memory = found_side c.memory e.memory token _ s.1; sides = only_memory c e s.0; owes = λ n f due. busy_due_at Memory n token f c e s due }
busy_looked Service token c e s = let o = only_service c e s.0 in record {
  memory = ap (λ (x : Caller). side_of x.memory) s.0;
  sides = (found_side c.service e.service token _ s.1, o.0, o.1);
  owes = λ n f due. busy_due_at Service n token f c e s due;
}
busy_looked Journal token c e s = record { memory = ap (λ (x : Caller). side_of x.memory) s.0; sides = only_journal c e s.0; owes = λ n f due. busy_due_at Journal n token f c e s due }
busy_looked (Receiving j) token c e s = record {
  memory = ap (λ (x : Caller). side_of x.memory) s.0;
  sides = (ap (λ (x : Caller). side_of x.service) s.0, changed_same (SawBusy token) j c.rx e.rx (rx_some c) (λ p q h. found_side p q token _ h) s.1, λ k. ap (λ (x : Caller). side_at x.tx k) s.0);
  owes = λ n f due. busy_due_at (Receiving j) n token f c e s due;
}
busy_looked (Sending j) token c e s = record {
  memory = ap (λ (x : Caller). side_of x.memory) s.0;
  sides = (ap (λ (x : Caller). side_of x.service) s.0, (λ k. ap (λ (x : Caller). side_at x.rx k) s.0), changed_same (SawBusy token) j c.tx e.tx (tx_some c) (λ p q h. found_side p q token _ h) s.1);
  owes = λ n f due. busy_due_at (Sending j) n token f c e s due;
}
busy_looked Nowhere token c e s = absurd s

pub all_busy_looked : (d : Whole) (tokens : List QToken) (c e : Caller) → AllBusy d tokens c e → HasLooked c e
all_busy_looked d [] c e s = looked_same c e s
all_busy_looked d (t ∷ ts) c e s = looked_on c s.0 e (busy_looked (kind_of d t.port) t.token.0 c s.0 s.1) (all_busy_looked d ts s.0 e s.2)

-- a stop was refused
pub refused_looked : (A : Type 0) (kind : PortKind) (c e : Caller) (r : PopRefused) → IfBad {A = A} (Err r) (e ≡ c) → IfFull {A = A} (Err r) (FindsNone kind c e) → HasLooked c e
refused_looked A kind c e BadQd bad full = looked_same c e bad
refused_looked A kind c e BadSize bad full = looked_same c e bad
refused_looked A kind c e TokensFull bad full = none_looked kind c e full

-- The stop was submitted.
pub gives_stop : (d : Whole) (kind : PortKind) (token : ℕ) (c e : Caller) → IsOf d c → CallSubmits kind (stop_asks kind) c e token → GivesStop d kind token c e
gives_stop d Memory token c e of s = ((s.1.0, submitted_side s.1.0 c.memory e.memory token memory.Stop s.1.1), only_memory c e s.0)
gives_stop d Service token c e of s = absurd s
gives_stop d Journal token c e of s = tt
gives_stop d (Receiving k) token c e of s = λ low. let r = rx_submitted d (rx_port k) k c e of.rx refl low token receiving.Stop s in (r.1, r.0)
gives_stop d (Sending k) token c e of s = λ low. let r = tx_submitted d (tx_port k) k c e of.tx refl low token sending.Stop s in (r.1, r.0)
gives_stop d Nowhere token c e of s = absurd s

pub gives_store_stop : (d : Whole) (place token : ℕ) (c e : Caller) → OnService c e → SubmittedAt place c.service e.service token store_stop → GivesStop d Service token c e
gives_store_stop d place token c e only s = let o = only_service c e only in ((place, submitted_side place c.service e.service token store_stop s), ap (λ (x : Caller). side_of x.memory) only, o.0, o.1)

-- after looks
pub gives_after : (d : Whole) (kind : PortKind) (token : ℕ) (b c e : Caller) → HasLooked b c → GivesStop d kind token c e → GivesStop d kind token b e
gives_after d Memory token b c e l g = (subst (λ (p : Side _ _). Gives token memory.Stop p (side_of e.memory)) l.memory g.0, (g.1.0 ∙ l.sides.0, (λ k. g.1.1 k ∙ l.sides.1 k), λ k. g.1.2 k ∙ l.sides.2 k))
gives_after d Service token b c e l g = (subst (λ (p : Side _ _). Gives token store_stop p (side_of e.service)) l.sides.0 g.0, g.1 ∙ l.memory, (λ k. g.2 k ∙ l.sides.1 k), λ k. g.3 k ∙ l.sides.2 k)
gives_after d Journal token b c e l g = tt
gives_after d (Receiving k) token b c e l g = λ low. let h = g low in
    (subst (λ (p : Side _ _). Gives token receiving.Stop p (side_at e.rx k)) (l.sides.1 k) h.0, (h.1.0 ∙ l.sides.0, (λ j other. h.1.1 j other ∙ l.sides.1 j), (λ j. h.1.2 j ∙ l.sides.2 j), h.1.3 ∙ l.memory))
gives_after d (Sending k) token b c e l g = λ low. let h = g low in
    (subst (λ (p : Side _ _). Gives token sending.Stop p (side_at e.tx k)) (l.sides.2 k) h.0, (h.1.0 ∙ l.sides.0, (λ j. h.1.1 j ∙ l.sides.1 j), (λ j other. h.1.2 j other ∙ l.sides.2 j), h.1.3 ∙ l.memory))
gives_after d Nowhere token b c e l g = g

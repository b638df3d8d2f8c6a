-- What a call that submits tells of the caller that it used.
use Rattle.std.specs.Prelude.{◌≡◌, ◌≢◌, ℕ, ◌+◌, ◌<◌, ◌≤◌, List, [], ◌∷◌, ◌++◌, slice_set, slice_index_or}
use Rattle.demi_port_core.specs.History.{Each}
use Rattle.demi_port.specs.Seen.{InRange, Later, Missed, OnlyLooked, PassValue}
use Rattle.demi_sga.specs.Arrays.{loaned_by, returned_by}
use Rattle.demi_pdpix.specs.Asks.{Asked, to_memory, to_log, to_receiver, to_sender}
use Rattle.demi_pdpix.specs.declared.kind.PortKind.{PortKind}
use Rattle.demi_pdpix.specs.declared.kind.PortKind.TheVariants.{Memory, Service, Journal, Receiving, Sending, Nowhere}
use Rattle.demi_pdpix.specs.Seen.{CallerValue}

-- The pass p submitted an operation that says d, at this place, which is above each that it had seen, and became q. The token is one of the port's, of a round in
-- which it can be had, and none with which p had submitted.
pub record SubmittedAt {D T B : Type 0} (place : ℕ) (p q : PassValue D T B) (token : ℕ) (d : D) : Type 0 where
  pub above : p.seen ≤ place
  pub pass : q ≡ record p { clock = q.clock; looks = q.looks; seen = place + 1; submitted = p.submitted ++ (place, (token, d)) ∷ [] }
  pub issued : InRange p.port.tokens.slots token
  pub fresh : Each (λ (x : ℕ × (ℕ × D)). x.1.0 ≢ token) p.submitted
  pub later : Later p q

-- at some place
abbrev pub Submitted : {D T B : Type 0} → PassValue D T B → PassValue D T B → ℕ → D → Type 0
Submitted p q token d = (place : ℕ) × SubmittedAt place p q token d

-- The pass found no token of its port: each, at a step of its own, was not free, was worn, or had another word than the pass had just found. Nothing else of it changed.
pub record FoundNone {D T B : Type 0} (p q : PassValue D T B) : Type 0 where
  pub only : OnlyLooked p q
  pub missed : (i : ℕ) → i < p.port.tokens.slots → Missed p q i
  pub later : Later p q

-- only the pass k of the list has changed, in this way
abbrev pub Changed : {A : Type 0} → ℕ → List A → List A → (A → A → Type 0) → Type 0
Changed {A} k xs ys P = (e : A) → (ys ≡ slice_set xs k (slice_index_or ys k e)) × P (slice_index_or xs k e) (slice_index_or ys k e)

-- of the caller c only the pass of the memory queues has changed, and it became e
abbrev pub OnMemory : {D T B : Type 0} → CallerValue D T B → CallerValue D T B → Type 0
OnMemory c e = e ≡ record c { memory = e.memory }

-- only that of the service
abbrev pub OnService : {D T B : Type 0} → CallerValue D T B → CallerValue D T B → Type 0
OnService c e = e ≡ record c { service = e.service }

-- only that of the log's queue
abbrev pub OnJournal : {D T B : Type 0} → CallerValue D T B → CallerValue D T B → Type 0
OnJournal c e = e ≡ record c { journal = e.journal }

-- only those of ports that receive
abbrev pub OnRx : {D T B : Type 0} → CallerValue D T B → CallerValue D T B → Type 0
OnRx c e = e ≡ record c { rx = e.rx }

-- only those of ports that send
abbrev pub OnTx : {D T B : Type 0} → CallerValue D T B → CallerValue D T B → Type 0
OnTx c e = e ≡ record c { tx = e.tx }

-- only that of the heap
abbrev pub OnHeap : {D T B : Type 0} → CallerValue D T B → CallerValue D T B → Type 0
OnHeap c e = e ≡ record c { heap = e.heap }

-- the caller c submitted what was asked to a port of this kind, and nothing else, and became e; this is its token
abbrev pub Submits : {D T B : Type 0} → PortKind → Asked → CallerValue D T B → CallerValue D T B → ℕ → Type 0
Submits Memory (to_memory op) c e token = OnMemory c e × Submitted c.memory e.memory token op
Submits Journal (to_log op) c e token = OnJournal c e × Changed 0 c.journal e.journal (λ p q. Submitted p q token op)
Submits (Receiving k) (to_receiver op) c e token = OnRx c e × Changed k c.rx e.rx (λ p q. Submitted p q token op)
Submits (Sending k) (to_sender op) c e token = OnTx c e × Changed k c.tx e.tx (λ p q. Submitted p q token op)
Submits kind other c e token = ⊥

-- the caller found no token of a port of this kind
abbrev pub FindsNone : {D T B : Type 0} → PortKind → CallerValue D T B → CallerValue D T B → Type 0
FindsNone Memory c e = OnMemory c e × FoundNone c.memory e.memory
FindsNone Service c e = OnService c e × FoundNone c.service e.service
FindsNone Journal c e = OnJournal c e × Changed 0 c.journal e.journal FoundNone
FindsNone (Receiving k) c e = OnRx c e × Changed k c.rx e.rx FoundNone
FindsNone (Sending k) c e = OnTx c e × Changed k c.tx e.tx FoundNone
FindsNone Nowhere c e = ⊥

-- the caller once it has lent n segments
abbrev pub having_lent : {D T B : Type 0} → CallerValue D T B → ℕ → CallerValue D T B
having_lent c n = record c { heap = loaned_by c.heap n }

-- the caller once it has lent n segments and taken them back with their device halves
abbrev pub having_rejoined : {D T B : Type 0} → CallerValue D T B → ℕ → CallerValue D T B
having_rejoined c n = record c { heap = returned_by (loaned_by c.heap n) n }

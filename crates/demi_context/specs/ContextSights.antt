-- What a contract sees of a worker's context, and what its links see of it.
use Rattle.std.specs.Prelude.{◌≡◌, ◌≢◌, ℕ, zero, suc, ◌+◌, ◌*◌, ◌≤◌, List, length}
use Rattle.demi_port.specs.Seen.{known_by}
use Rattle.demi_sched.specs.declared.seen.Seen.{Seen}
use Rattle.demi_pdpix.specs.Owing.{IsDueAt}
use Rattle.demi_pdpix.specs.Seen.{IsOf}
use Rattle.demi_pdpix.specs.declared.kind.PortKind.{PortKind}
use Rattle.demi_pdpix.specs.declared.kind.PortKind.TheVariants.{Memory, Service, Journal, Receiving, Sending, Nowhere}
use Rattle.demi_served.specs.Alone.{AsksAll}
use Rattle.demi_served.specs.Keeps.{Worker}
use Rattle.demi_link.specs.Sights.{LeavesBe, Sight, side_of}
use Rattle.demi_context.specs.ContextLedgers.{LedgerValue, due_of, out_of}
use Rattle.demi_context.specs.ContextPorts.{Caller, SameMemory, Whole, side_at}

-- A worker's context: the whole that it calls, its caller, its number, what its calls came to, the scans since its scanner
-- began, and how often it began.
pub record ContextValue : Type 0 where
  pub demi : Whole
  pub caller : Caller
  pub number : ℕ
  pub ledger : LedgerValue
  pub seen : List Seen
  pub begun : ℕ

-- what the worker has for a link
abbrev pub sight_of : ContextValue → ℕ → Sight
sight_of c link = record {
  heap = c.demi.heap;
  base = c.demi.service.key.base;
  number = c.number;
  store = side_of c.caller.service;
  draws = c.ledger.draws;
  rx = side_at c.caller.rx link;
  tx = side_at c.caller.tx link;
  out = out_of c.ledger link;
  due = due_of c.ledger link;
}

-- the ports: that of the memory queues, the store's, that of a log's queue, and two for each link
abbrev pub ports_of : ContextValue → ℕ
ports_of c = 3 + 2 * length c.demi.rx

-- What a context may become by the calls of one who has this name.
pub record Goes (n : ℕ) (a b : ContextValue) : Type 0 where
  pub demi : b.demi ≡ a.demi
  pub number : b.number ≡ a.number
  pub memory : SameMemory a.caller b.caller
  pub others : (link : ℕ) → n ≢ link → LeavesBe link (sight_of a link) (sight_of b link)

-- the sum of f over the numbers below n
abbrev pub sum_below : ℕ → (ℕ → ℕ) → ℕ
sum_below zero f = 0
sum_below (suc n) f = f n + sum_below n f

-- how many tokens are due at each port, over so many links
abbrev pub due_at_ports : ℕ → LedgerValue → PortKind → ℕ
due_at_ports links l Memory = 0
due_at_ports links l Service = sum_below links (λ k. (due_of l k).store)
due_at_ports links l Journal = 0
due_at_ports links l (Receiving k) = (due_of l k).rx
due_at_ports links l (Sending k) = (due_of l k).tx
due_at_ports links l Nowhere = 0

-- the worker: what its caller's pass of the store's port submitted and knows, and for what its numbers were drawn
abbrev pub worker_at : Caller → LedgerValue → Worker
worker_at c l = record { submitted = c.service.submitted; known = known_by c.service; draws = l.draws }

-- A context keeps this: its caller is one of the whole, as many numbers were drawn as it counts, what is outstanding of its
-- caller at each port are the tokens that are due of its links, and with each number that was drawn for a request that asks the
-- store it asked just that, and nothing else.
pub record IsSound (d : Whole) (c : Caller) (number links drawn : ℕ) (l : LedgerValue) : Type 0 where
  pub of : IsOf d c
  pub count : (length d.rx ≡ links) × (length d.tx ≡ links) × (links ≤ 16)
  pub numbers : length l.draws ≡ drawn
  pub due : IsDueAt number (due_at_ports links l) c
  pub asks : AsksAll (worker_at c l)

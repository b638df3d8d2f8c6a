-- What a contract sees of a worker's part in the ports of one link, and what others of the worker leave of it as it is.
use Rattle.std.specs.Prelude.{◌≡◌, ◌≢◌, ℕ, ◌+◌, ◌<◌, ◌≤◌, List, [], ◌∷◌, ◌++◌, Some, slice_get}
use Rattle.demi_heap.specs.Seen.{HeapId}
use Rattle.demi_port.specs.Seen.{PassValue, known_by}
use Rattle.demi_port_core.specs.History.{Among, Each}
use Rattle.demi_port_core.specs.Trails.{Behind}
use Rattle.demi_port_core.specs.declared.trail.Trail.{Trail}
use Rattle.demi_store.specs.Laws.{StoreBasis}
use Rattle.demi_store.specs.declared.ask.StoreAsk.{StoreAsk}
use Rattle.demi_store.specs.declared.told.StoreTold.{StoreTold}
use Rattle.demi_streamq.specs.declared.rx_op.RxOp.{RxOp}
use Rattle.demi_streamq.specs.declared.rx_told.RxTold.{RxTold}
use Rattle.demi_streamq.specs.declared.tx_op.TxOp.{TxOp}
use Rattle.demi_served.specs.Keeps.{Draw, Worker, WorkerKeeps}
use Rattle.demi_served.specs.Steps.{GoesBeside}

-- A pass of a port but for its looks: the least place that it has not seen, each operation that it submitted with its
-- place and token, each that it redeemed with its place and token, and what it was handed.
pub record Side (D T : Type 0) : Type 0 where
  pub seen : ℕ
  pub submitted : List (ℕ × (ℕ × D))
  pub redeemed : List (ℕ × ℕ)
  pub known : Trail D T

abbrev pub side_of : {D T B : Type 0} → PassValue D T B → Side D T
side_of p = record { seen = p.seen; submitted = p.submitted; redeemed = p.redeemed; known = known_by p }

-- How many tokens of a link's submissions have not been redeemed yet: at the store's port, at the receiving and at the
-- sending one.
pub record Due : Type 0 where
  pub store : ℕ
  pub rx : ℕ
  pub tx : ℕ

abbrev pub nothing_due : Due
nothing_due = record { store = 0; rx = 0; tx = 0 }

abbrev pub one_ask_due : Due
one_ask_due = record { store = 1; rx = 0; tx = 0 }

abbrev pub one_pop_due : Due
one_pop_due = record { store = 0; rx = 1; tx = 0 }

abbrev pub one_push_due : Due
one_push_due = record { store = 0; rx = 0; tx = 1 }

-- What a worker has for one of its links: the heap, what the store stands on, the worker's number, its pass of the store's
-- port, for what it drew its sequence numbers, its passes of the link's two ports, how many application halves its calls
-- for the link have taken and not given back, and how many tokens of its submissions for the link, port by port, have not
-- been redeemed yet.
pub record Sight : Type 0 where
  pub heap : HeapId
  pub base : StoreBasis
  pub number : ℕ
  pub store : Side StoreAsk StoreTold
  pub draws : List Draw
  pub rx : Side RxOp RxTold
  pub tx : Side TxOp ℕ
  pub out : ℕ
  pub due : Due

abbrev pub worker_of : Sight → Worker
worker_of s = record { submitted = s.store.submitted; known = s.store.known; draws = s.draws }

-- The pass p submitted at this place an operation that says d, with a token that it had not submitted with, and became q.
pub record Submits {D T : Type 0} (place : ℕ) (p q : Side D T) (token : ℕ) (d : D) : Type 0 where
  pub above : p.seen ≤ place
  pub side : q ≡ record p { seen = place + 1; submitted = p.submitted ++ (place, (token, d)) ∷ [] }
  pub fresh : Each (λ (x : ℕ × (ℕ × D)). x.1.0 ≢ token) p.submitted

-- The pass p redeemed the token at this place and became q: it was handed more, by which the outcome there is admitted; the
-- place is that of the operation that it had submitted with the token, and that is what the ground says there.
pub record Redeems {D T : Type 0} (admits : List D → List (ℕ × T) → ℕ → Type 0) (token place : ℕ) (p q : Side D T) : Type 0 where
  pub side : q ≡ record p { redeemed = p.redeemed ++ (place, token) ∷ []; known = q.known }
  pub grows : Behind q.known p.known
  pub admitted : admits q.known.heard q.known.told place
  pub below : place < q.known.floor
  pub own : (k : ℕ) (d : D) → Among (k, (token, d)) p.submitted → k ≡ place
  pub said : (d : D) → Among (place, (token, d)) p.submitted → slice_get q.known.heard place ≡ Some d

-- What the others of a worker leave of a link's: they draw no number for it, do nothing at its two ports, take none of its
-- halves, and submit and redeem nothing for it; and where a worker keeps its own, it does so after them.
pub record LeavesBe (link : ℕ) (a b : Sight) : Type 0 where
  pub heap : b.heap ≡ a.heap
  pub base : b.base ≡ a.base
  pub number : b.number ≡ a.number
  pub worker : GoesBeside link (worker_of a) (worker_of b)
  pub keeps : WorkerKeeps (worker_of a) → WorkerKeeps (worker_of b)
  pub rx : b.rx ≡ a.rx
  pub tx : b.tx ≡ a.tx
  pub out : b.out ≡ a.out
  pub due : b.due ≡ a.due

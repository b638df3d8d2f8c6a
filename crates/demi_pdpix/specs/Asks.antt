-- What a call asks of the port that it names, or why it is refused.
use Rattle.std.specs.Prelude.{ℕ, ◌==◌, ◌||◌, nat_lt, cond, List, Option, Some, None, Ok, Err, Result}
use Rattle.demi_heap.specs.Seen.{HalfValue}
use Rattle.demi_memq.specs.Said.{array_said}
use Rattle.demi_memq.specs.declared.op.MemOp.{MemOp}
use Rattle.demi_memq.specs.declared.op.MemOp.TheVariants.{Push as PushMem, Pop as PopMem, Close as CloseMem, Stop as StopMem}
use Rattle.demi_logq.specs.declared.op.LogOp.{LogOp}
use Rattle.demi_logq.specs.declared.op.LogOp.TheVariants.{Push as PushLog, Pop as PopLog, Stop as StopLog}
use Rattle.demi_streamq.specs.declared.rx_op.RxOp.{RxOp}
use Rattle.demi_streamq.specs.declared.rx_op.RxOp.TheVariants.{Pop as PopRx, Stop as StopRx}
use Rattle.demi_streamq.specs.declared.tx_op.TxOp.{TxOp}
use Rattle.demi_streamq.specs.declared.tx_op.TxOp.TheVariants.{Push as PushTx, Close as CloseTx, Stop as StopTx}
use Rattle.demi_pdpix.specs.declared.kind.PortKind.{PortKind}
use Rattle.demi_pdpix.specs.declared.kind.PortKind.TheVariants.{Memory, Service, Journal, Receiving, Sending, Nowhere}
use Rattle.demi_pdpix.specs.declared.refusals.PopRefused.{PopRefused}
use Rattle.demi_pdpix.specs.declared.refusals.PopRefused.TheVariants.{BadQd, BadSize, TokensFull}
use Rattle.demi_pdpix.specs.declared.refusals.PushRefused.{PushRefused}
use Rattle.demi_pdpix.specs.declared.refusals.PushRefused.TheVariants.{BadQd as NoQueue, TokensFull as NoToken}

-- what is asked of a port, or that the descriptor or the size is bad
pub data Asked : Type 0 where
  to_memory : MemOp → Asked
  to_log : LogOp → Asked
  to_receiver : RxOp → Asked
  to_sender : TxOp → Asked
  bad_qd : Asked
  bad_size : Asked

-- of a port with one queue, where it is that one
abbrev pub of_queue : ℕ → Asked → Asked
of_queue queue asked = cond (queue == 0) asked bad_qd

-- a push of an array to a queue of a port of this kind
abbrev pub push_asks : PortKind → ℕ → List HalfValue → Asked
push_asks Memory queue sga = to_memory (PushMem queue (array_said sga))
push_asks Service queue sga = bad_qd
push_asks Journal queue sga = of_queue queue (to_log (PushLog sga))
push_asks (Receiving k) queue sga = bad_qd
push_asks (Sending k) queue sga = of_queue queue (to_sender (PushTx sga))
push_asks Nowhere queue sga = bad_qd

-- a pop of at most so many bytes from a queue
abbrev pub pop_asks : PortKind → ℕ → ℕ → Asked
pop_asks Memory queue max = to_memory (PopMem queue)
pop_asks Service queue max = bad_qd
pop_asks Journal queue max = of_queue queue (to_log PopLog)
pop_asks (Receiving k) queue max = of_queue queue (cond ((max == 0) || nat_lt 4096 max) bad_size (to_receiver (PopRx max)))
pop_asks (Sending k) queue max = bad_qd
pop_asks Nowhere queue max = bad_qd

-- that a queue is closed
abbrev pub close_asks : PortKind → ℕ → Asked
close_asks Memory queue = to_memory (CloseMem queue)
close_asks Service queue = bad_qd
close_asks Journal queue = bad_qd
close_asks (Receiving k) queue = bad_qd
close_asks (Sending k) queue = of_queue queue (to_sender CloseTx)
close_asks Nowhere queue = bad_qd

-- this of the log's queue, where port 2 is one
abbrev pub log_asks : PortKind → LogOp → Asked
log_asks Memory op = bad_qd
log_asks Service op = bad_qd
log_asks Journal op = to_log op
log_asks (Receiving k) op = bad_qd
log_asks (Sending k) op = bad_qd
log_asks Nowhere op = bad_qd

-- that the port is stopped; the service has a stop of its own
abbrev pub stop_asks : PortKind → Asked
stop_asks Memory = to_memory StopMem
stop_asks Service = bad_qd
stop_asks Journal = to_log StopLog
stop_asks (Receiving k) = to_receiver StopRx
stop_asks (Sending k) = to_sender StopTx
stop_asks Nowhere = bad_qd

-- the refusal of what cannot be asked
abbrev pub refused_as : Asked → Option PopRefused
refused_as bad_qd = Some BadQd
refused_as bad_size = Some BadSize
refused_as (to_memory op) = None
refused_as (to_log op) = None
refused_as (to_receiver op) = None
refused_as (to_sender op) = None

-- the refusal of a call, but for want of a token
abbrev pub refusal_of : {A : Type 0} → Result A PopRefused → Option PopRefused
refusal_of (Ok a) = None
refusal_of (Err BadQd) = Some BadQd
refusal_of (Err BadSize) = Some BadSize
refusal_of (Err TokensFull) = None

-- the same of a push, and what came back
abbrev pub push_refusal_of : {A : Type 0} → Result A PushRefused → Option PopRefused
push_refusal_of (Ok a) = None
push_refusal_of (Err (NoQueue sga)) = Some BadQd
push_refusal_of (Err (NoToken sga)) = None

-- F holds of the array that came back, where the descriptor was bad
abbrev pub IfNoQueue : {A : Type 0} → Result A PushRefused → (List HalfValue → Type 0) → Type 0
IfNoQueue (Ok a) F = Unit {0}
IfNoQueue (Err (NoQueue sga)) F = F sga
IfNoQueue (Err (NoToken sga)) F = Unit {0}

-- where no token could be had
abbrev pub IfNoToken : {A : Type 0} → Result A PushRefused → (List HalfValue → Type 0) → Type 0
IfNoToken (Ok a) F = Unit {0}
IfNoToken (Err (NoQueue sga)) F = Unit {0}
IfNoToken (Err (NoToken sga)) F = F sga

-- the fact holds where the call was refused, but for want of a token
abbrev pub IfBad : {A : Type 0} → Result A PopRefused → Type 0 → Type 0
IfBad (Ok a) F = Unit {0}
IfBad (Err BadQd) F = F
IfBad (Err BadSize) F = F
IfBad (Err TokensFull) F = Unit {0}

-- where no token could be had
abbrev pub IfFull : {A : Type 0} → Result A PopRefused → Type 0 → Type 0
IfFull (Ok a) F = Unit {0}
IfFull (Err BadQd) F = Unit {0}
IfFull (Err BadSize) F = Unit {0}
IfFull (Err TokensFull) F = F

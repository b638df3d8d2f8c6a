-- How many segments of arrays come in, are held, and go out.
use Rattle.std.specs.Prelude.{ℕ, List, length}
use Rattle.demi_heap.specs.Seen.{HalfValue}
use Rattle.demi_port_core.specs.History.{total}
use Rattle.demi_memq.specs.declared.op.MemOp.{MemOp}
use Rattle.demi_memq.specs.declared.op.MemOp.TheVariants.{Queue, Push, Pop, Close, Stop}
use Rattle.demi_memq.specs.declared.out.MemOut.{MemOut}
use Rattle.demi_memq.specs.declared.out.MemOut.TheVariants.{Opened, TooMany, Pushed, BadQueue, Shut, Closed, QueueFull, Item, Stopped, Halted}

-- the segments that an operation brings
abbrev pub op_segments : MemOp → ℕ
op_segments Queue = 0
op_segments (Push q sga) = length sga
op_segments (Pop q) = 0
op_segments (Close q) = 0
op_segments Stop = 0

-- the segments that an outcome gives
abbrev pub out_segments : MemOut → ℕ
out_segments (Opened q) = 0
out_segments TooMany = 0
out_segments Pushed = 0
out_segments BadQueue = 0
out_segments Shut = 0
out_segments Closed = 0
out_segments QueueFull = 0
out_segments (Item sga) = length sga
out_segments (Stopped p) = 0
out_segments Halted = 0

-- the segments that operations bring
abbrev pub brought : List MemOp → ℕ
brought ops = total op_segments ops

-- the segments that outcomes give
abbrev pub given : List (ℕ × MemOut) → ℕ
given outs = total (λ (o : ℕ × MemOut). out_segments o.1) outs

-- the segments of the arrays that wait
abbrev pub held : List (ℕ × List HalfValue) → ℕ
held waiting = total (λ (e : ℕ × List HalfValue). length e.1) waiting

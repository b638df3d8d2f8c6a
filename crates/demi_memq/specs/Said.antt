-- What operations and outcomes of memory queues say.
use Rattle.std.specs.Prelude.{List, [], Bool, true, false, map}
use Rattle.demi_heap.specs.Seen.{HeapId, HalfValue}
use Rattle.demi_sga.specs.Arrays.{AreOf}
use Rattle.demi_memq.specs.declared.op.MemOp.{MemOp}
use Rattle.demi_memq.specs.declared.op.MemOp.TheVariants.{Queue, Push, Pop, Close, Stop}
use Rattle.demi_memq.specs.declared.out.MemOut.{MemOut}
use Rattle.demi_memq.specs.declared.out.MemOut.TheVariants.{Opened, TooMany, Pushed, BadQueue, Shut, Closed, QueueFull, Item, Stopped, Halted}

-- a half says its heap, slot, class and bytes, and not when a holder found the slot held
abbrev pub half_said : HalfValue → HalfValue
half_said a = record a { clock = 0; held = [] }

-- an array says its halves in order
abbrev pub array_said : List HalfValue → List HalfValue
array_said = map half_said

-- an operation says itself, and what its array says
abbrev pub op_said : MemOp → MemOp
op_said Queue = Queue
op_said (Push q sga) = Push q (array_said sga)
op_said (Pop q) = Pop q
op_said (Close q) = Close q
op_said Stop = Stop

-- so does an outcome
abbrev pub out_said : MemOut → MemOut
out_said (Opened q) = Opened q
out_said TooMany = TooMany
out_said Pushed = Pushed
out_said BadQueue = BadQueue
out_said Shut = Shut
out_said Closed = Closed
out_said QueueFull = QueueFull
out_said (Item sga) = Item (array_said sga)
out_said (Stopped p) = Stopped p
out_said Halted = Halted

-- the halves of a push are of this heap
abbrev pub IsProper : HeapId → MemOp → Type 0
IsProper heap Queue = Unit {0}
IsProper heap (Push q sga) = AreOf heap sga
IsProper heap (Pop q) = Unit {0}
IsProper heap (Close q) = Unit {0}
IsProper heap Stop = Unit {0}

-- the array of an outcome is of this heap
abbrev pub IsFrom : HeapId → MemOut → Type 0
IsFrom heap (Opened q) = Unit {0}
IsFrom heap TooMany = Unit {0}
IsFrom heap Pushed = Unit {0}
IsFrom heap BadQueue = Unit {0}
IsFrom heap Shut = Unit {0}
IsFrom heap Closed = Unit {0}
IsFrom heap QueueFull = Unit {0}
IsFrom heap (Item sga) = AreOf heap sga
IsFrom heap (Stopped p) = Unit {0}
IsFrom heap Halted = Unit {0}

-- it ends the service
abbrev pub is_stop : MemOp → Bool
is_stop Queue = false
is_stop (Push q sga) = false
is_stop (Pop q) = false
is_stop (Close q) = false
is_stop Stop = true

-- a heap without slots
abbrev pub no_heap : HeapId
no_heap = record { table = record { words = 0; slots = 0; views_name = 0; atom = 0; block = 0; offset = 0; slot_names = [] }; shape = record { small = 0; page = 0; large = 0; passes = 0; blocks = [] } }

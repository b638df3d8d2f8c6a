-- What the worker of a link and its devices leave behind.
use Rattle.std.specs.Prelude.{◌≡◌, ℕ, ◌+◌, ◌<◌, ◌≤◌, All, List, [], length, slice_index_or, vec_capacity}
use Rattle.demi_port.specs.Seen.{PassValue, PortId}
use Rattle.demi_port_core.specs.History.{total}
use Rattle.demi_bench.specs.Asking.{IsEven, IsFirst}
use Rattle.demi_bench.specs.declared.line.Line.{Line}
use Rattle.demi_bench.specs.declared.line.Pair.{Pair}
use Rattle.demi_bench.specs.declared.line.Waits.{Waits}
use Rattle.demi_bench.specs.declared.line.Waits.TheVariants.{Nothing, Piece, Answer, Sent}
use Rattle.demi_bench.specs.declared.line.Wire.{Wire}
use Rattle.demi_bench.specs.declared.way.Station.{Station}

-- the second of each place is so beside the first
abbrev pub ArePaired : {A B : Type 0} → (A → B → Type 0) → List A → List B → Type 0
ArePaired {A} {B} R xs ys = (length ys ≡ length xs) × ((i : ℕ) (x : A) (y : B) → i < length xs → R (slice_index_or xs i x) (slice_index_or ys i y))

-- how many operations a link has at the port that receives
abbrev pub at_rx : Waits → ℕ
at_rx Nothing = 0
at_rx (Piece t) = 1
at_rx (Answer t) = 0
at_rx (Sent t) = 0

-- how many at the store
abbrev pub at_store : Waits → ℕ
at_store Nothing = 0
at_store (Piece t) = 0
at_store (Answer t) = 1
at_store (Sent t) = 0

-- how many at the port that sends
abbrev pub at_tx : Waits → ℕ
at_tx Nothing = 0
at_tx (Piece t) = 0
at_tx (Answer t) = 0
at_tx (Sent t) = 1

-- the only pass of the port, with so many operations under way
abbrev pub IsOnlyPass : {D T B : Type 0} → PortId B → ℕ → PassValue D T B → Type 0
IsOnlyPass port n p = (p.port ≡ port) × (p.number ≡ 0) × (length p.submitted ≡ length p.redeemed + n)

-- A link with these ports, of which so many requests are to be served. What was sent was served.
abbrev pub IsLineOf : ℕ → Wire → Line → Type 0
IsLineOf requests wire line = IsOnlyPass wire.rx (at_rx line.waits) line.rx × IsOnlyPass wire.tx (at_tx line.waits) line.tx × (length line.tx.redeemed ≡ line.served) × (line.served + (at_rx line.waits + (at_store line.waits + at_tx line.waits)) ≤ requests)

-- a link with these ports, of which nothing is under way
abbrev pub IsStill : Wire → Line → Type 0
IsStill wire line = IsOnlyPass wire.rx 0 line.rx × IsOnlyPass wire.tx 0 line.tx

-- each of its requests was served
abbrev pub IsOver : ℕ → Line → Type 0
IsOver requests line = (line.waits ≡ Nothing) × (line.served ≡ requests)

-- none has anything under way
abbrev pub AreIdle : List Line → Type 0
AreIdle lines = All (λ l. l.waits ≡ Nothing) lines

abbrev pub AreOver : ℕ → List Line → Type 0
AreOver requests lines = All (IsOver requests) lines

-- the device at the port, which served each operation that it fetched, with room for the port's only pass
abbrev pub IsStationOf : PortId (Unit {0}) → Station → Type 0
IsStationOf port s = (s.device.seat.port ≡ port) × (s.device.seat.passes ≡ 1) × (length s.device.seat.fetched ≡ length s.device.engine.history.value) × (s.home.items ≡ []) × (1 ≤ vec_capacity s.home)

-- the devices of a link with these ports
abbrev pub IsPairOf : Wire → Pair → Type 0
IsPairOf wire pair = IsStationOf wire.rx pair.rx × IsStationOf wire.tx pair.tx

-- the devices of the link at this place
abbrev pub IsPairAt : List Wire → ℕ → Pair → Type 0
IsPairAt wires i pair = (i < length wires) × ((w : Wire) → IsPairOf (slice_index_or wires i w) pair)

-- the pass of the store's port, whose operations under way are those of the links
abbrev pub OwesAll : {D T B : Type 0} → PortId B → List Line → PassValue D T B → Type 0
OwesAll port lines p = (p.port ≡ port) × (length p.submitted ≡ length p.redeemed + total (λ l. at_store l.waits) lines)

-- the same pass, of whose operations under way as many more are the link's as of all
abbrev pub OwesFor : {D T B : Type 0} → Line → PassValue D T B → Line → PassValue D T B → Type 0
OwesFor l p m q = (q.port ≡ p.port) × (q.number ≡ p.number) × (length q.submitted + (length p.redeemed + at_store l.waits) ≡ length p.submitted + (length q.redeemed + at_store m.waits))

-- the passes are even, and have the numbers that they had
abbrev pub StayEven : {D T B : Type 0} → PortId B → List (PassValue D T B) → List (PassValue D T B) → Type 0
StayEven {D} {T} {B} port old new = ArePaired (λ (p q : PassValue D T B). IsEven port q × (q.number ≡ p.number)) old new

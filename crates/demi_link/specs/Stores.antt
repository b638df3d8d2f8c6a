-- The halves that go with an operation of the store.
use Rattle.std.specs.Prelude.{ℕ}
use Rattle.demi_store.specs.declared.back.Back.{Back}
use Rattle.demi_store.specs.declared.back.Back.TheVariants.{Nothing, Value, Room}
use Rattle.demi_store.specs.declared.op.StoreOp.{StoreOp}
use Rattle.demi_store.specs.declared.op.StoreOp.TheVariants.{Put, Get, Stop}
use Rattle.demi_store.specs.declared.out.StoreOut.{StoreOut}

-- the application halves that an operation takes along: the room of a get
abbrev pub halves_in : StoreOp → ℕ
halves_in (Put link index key value) = 0
halves_in (Get key room) = 1
halves_in Stop = 0

-- those that come back with what was given
abbrev pub given_back : Back → ℕ
given_back Nothing = 0
given_back (Value sga) = 0
given_back (Room room) = 1

abbrev pub halves_back : StoreOut → ℕ
halves_back o = given_back o.back

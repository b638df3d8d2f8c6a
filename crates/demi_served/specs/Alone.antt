-- One link and one worker: what its worker asked, in order.
use Rattle.std.specs.Prelude.{◌≡◌, ℕ, ◌+◌, List, [], ◌∷◌, ◌++◌, map, Option, Some, None}
use Rattle.std.specs.List.{AllByRecursion}
use Rattle.demi_store.specs.declared.ask.StoreAsk.{StoreAsk}
use Rattle.demi_served.specs.Asking.{Ask, Stops, asks_for, ask_of}
use Rattle.demi_served.specs.Keeps.{Draw, Worker}

-- a sequence number, and what is asked with it
pub record Numbered : Type 0 where
  pub sequence : ℕ
  pub ask : Ask

abbrev pub numbered_ask : StoreAsk → Numbered
numbered_ask s = record { sequence = s.sequence; ask = asks_for s.op }

abbrev pub with_ask : ℕ → Option Ask → List Numbered → List Numbered
with_ask sequence None more = more
with_ask sequence (Some ask) more = record { sequence = sequence; ask = ask } ∷ more

-- what is asked with the numbers that were drawn, the first of which is this
abbrev pub asked_with : ℕ → List Draw → List Numbered
asked_with sequence [] = []
asked_with sequence (d ∷ draws) = with_ask sequence (ask_of d.link d.index d.request) (asked_with (sequence + 1) draws)

-- what operations ask, each with its number
abbrev pub asked_by : List StoreAsk → List Numbered
asked_by history = map numbered_ask history

-- the operations that a worker's pass submitted, in order
abbrev pub submitted_by : Worker → List StoreAsk
submitted_by w = map (λ x. x.1.1) w.submitted

-- the worker asked with each number that it drew for a request that asks the store, and nothing else
abbrev pub AsksAll : Worker → Type 0
AsksAll w = asked_by (submitted_by w) ≡ asked_with 1 w.draws

-- it did so, and then stopped the store
pub record AskedAll (w : Worker) : Type 0 where
  pub stops : List Numbered
  pub are_stops : AllByRecursion (λ s. s.ask ≡ Stops) stops
  pub asked : asked_by (submitted_by w) ≡ asked_with 1 w.draws ++ stops

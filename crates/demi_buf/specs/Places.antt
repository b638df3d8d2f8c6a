-- Places side by side, each of which holds a value or none.
use Rattle.std.specs.Prelude.{◌≡◌, ℕ, ◌+◌, ◌-◌, ◌≤◌, List, [], ◌∷◌, ◌++◌, map, length, take, drop, replicate, Option, Some, None}

module _ {X : Type 0} where
  -- the values that are there
  abbrev pub somes : List (Option X) → List X
  somes [] = []
  somes (None ∷ cs) = somes cs
  somes (Some x ∷ cs) = x ∷ somes cs

  -- the len places from the index from on hold values
  abbrev pub IsRun : List (Option X) → ℕ → ℕ → Type 0
  IsRun cs from len = (from + len ≤ length cs) × ((xs : List X) × (take len (drop from cs) ≡ map Some xs))

-- the places, with 0 in those from `from` on, below `to`
abbrev pub cleared : ℕ → ℕ → List (Option ℕ) → List (Option ℕ)
cleared from to cs = take from cs ++ (replicate (to - from) (Some 0) ++ drop to cs)

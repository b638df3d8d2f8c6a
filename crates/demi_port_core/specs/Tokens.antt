-- The rule of the tokens: what their words, doorbell bits and slots show.
use Rattle.std.specs.Prelude.{◌≡◌, ℕ, ◌+◌, ◌<◌, ◌≤◌, List, length, Option, Some, None, slice_index_or}
use Rattle.std.specs.Int.{bit_at}
use mathlib.Core.Option.{some}
use mathlib.Core.Option as maybe
use lib.ListN.{get_elem?}
use Rattle.demi_port_core.specs.declared.view.Slip.{Slip}
use Rattle.demi_port_core.specs.declared.view.Slip.TheVariants.{Asked, Fetched, Answered}
use Rattle.demi_port_core.specs.History.{total}
use Rattle.demi_port_core.specs.Phases.{Phase, free, held, drawn, rung, taken, opened, answering, done, redeeming, Cell, face, draw_count, bell, last_round, token_of}
use Rattle.demi_port_core.specs.Words.{bells_word, ticket_word, token_word}

module _ {O U B D : Type 0} (said : O → D) (answers : List (ℕ × (ℕ × D)) → ℕ → U → B → Type 0) (log : List (ℕ × (ℕ × D))) (homes : List (maybe.Option (Option (Slip O U B)))) (i : ℕ) where
  -- the token's place is p
  abbrev pub Stands : ℕ → ℕ → Type 0
  Stands round p = (by : ℕ) × (d : D) × (get_elem? log p ≡ some (by, (token_of round i, d)))

  -- the operation of the place p lies in the slot
  abbrev pub LiesAsked : ℕ → ℕ → Type 0
  LiesAsked round p = (by : ℕ) × (op : O) × (get_elem? log p ≡ some (by, (token_of round i, said op))) × (get_elem? homes i ≡ some (some (Some (Asked p op))))

  -- the place p of an operation that was fetched lies in the slot
  abbrev pub LiesFetched : ℕ → Type 0
  LiesFetched p = get_elem? homes i ≡ some (some (Some (Fetched p)))

  -- an outcome lies in the slot that answers the operation of the place p
  abbrev pub LiesAnswered : ℕ → Type 0
  LiesAnswered p = (out : U) × (b : B) × (get_elem? homes i ≡ some (some (Some (Answered p out b)))) × answers log p out b

  -- what the history and the slot have of a token in its phase
  abbrev pub InPhase : ℕ → Phase → Type 0
  InPhase round free = (get_elem? homes i ≡ some (some None)) × (round ≤ last_round)
  InPhase round (held j) = round < last_round
  InPhase round (drawn j p) = (round < last_round) × Stands round p
  InPhase round (rung p) = (round < last_round) × LiesAsked round p
  InPhase round (taken p) = (round < last_round) × LiesAsked round p
  InPhase round (opened p) = (round < last_round) × Stands round p
  InPhase round (answering p) = (round < last_round) × Stands round p × LiesFetched p
  InPhase round (done p) = (round < last_round) × Stands round p × LiesAnswered p
  InPhase round (redeeming j p) = round < last_round

-- the token's word and doorbell bit show its cell, and the history and the slot fit its phase
pub record CellOk {O U B D : Type 0} (said : O → D) (answers : List (ℕ × (ℕ × D)) → ℕ → U → B → Type 0) (log : List (ℕ × (ℕ × D))) (words : List ℕ) (homes : List (maybe.Option (Option (Slip O U B)))) (i : ℕ) (c : Cell) : Type 0 where
  pub shows : slice_index_or words (token_word i) 0 ≡ face c
  pub rings : bit_at (slice_index_or words bells_word 0) i ≡ bell c.1
  pub phase : InPhase said answers log homes i c.0 c.1

-- the ticket is the length of the history, which is the sum of what the tokens drew, and only tokens have doorbell bits
pub record CellsOk {O U B D : Type 0} (said : O → D) (answers : List (ℕ × (ℕ × D)) → ℕ → U → B → Type 0) (log : List (ℕ × (ℕ × D))) (words : List ℕ) (homes : List (maybe.Option (Option (Slip O U B)))) (cells : List Cell) : Type 0 where
  pub few : length homes ≤ 64
  pub wide : length words ≡ token_word (length homes)
  pub as_many : length cells ≡ length homes
  pub ticket : slice_index_or words ticket_word 0 ≡ length log
  pub counted : total draw_count cells ≡ length log
  pub bells : (i : ℕ) → length homes ≤ i → bit_at (slice_index_or words bells_word 0) i ≡ 0
  pub each_cell : (i : ℕ) (c : Cell) → get_elem? cells i ≡ some c → CellOk said answers log words homes i c

-- What one link is told, and what a log gets, where the link is served alone.
use Rattle.std.specs.Prelude.{ℕ, true, List, [], ◌∷◌, flat_map}
use Rattle.demi_spec.specs.Input.{asked}
use Rattle.demi_spec.specs.Reply.{spelling}
use Rattle.demi_spec.specs.LogText.{header}
use Rattle.demi_spec.specs.Record.{Record}
use Rattle.demi_spec.specs.Store.{serial}

-- a log text with its header, also where it was empty
abbrev pub headed : List ℕ → List ℕ
headed [] = header
headed (b ∷ text) = b ∷ text

-- what is written for an input on these records, of which there may be so many: the one-thread store's replies, spelled
abbrev pub output_on : List Record → ℕ → List ℕ → List ℕ
output_on old limit input = flat_map spelling (serial old limit (asked input true)).replies

-- the records that this adds
abbrev pub added_on : List Record → ℕ → List ℕ → List Record
added_on old limit input = (serial old limit (asked input true)).records

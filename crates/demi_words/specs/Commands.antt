-- Which words are which command, by what `clap` says of the command's description.
use Rattle.std.specs.Prelude.{ℕ, ◌≤◌, Bool, false, ◌||◌, if◌then◌else◌, List, [], ◌∷◌, Option, Some, None, unwrap_or, codes, bytes_eq}
use Rattle.std.specs.Option.{option_map_or}
use Rattle.clap.specs.Walk.{is_empty}
use Rattle.clap.specs.Words.{App, Row, Text, fault_of, first_of, matches_of, one_of}
use Rattle.demi_words.specs.Descriptions as describe
use Rattle.demi_words.specs.Numbers.{number_of}

-- what words may ask for
pub data Command : Type 0 where
  Pipe : (limit : ℕ) (log : Text) → Command
  Serve : (links workers limit : ℕ) (address log : Text) → Command
  Bench : (links workers count seed : ℕ) (keep : Option Text) → Command
  Check : (name : Text) → Command
  Log : (name : Text) → Command

-- the number that was found for an option, or another where the option was not given; one that is required always is
abbrev pub number_or : ℕ → Text → List Row → ℕ
number_or other option found = option_map_or number_of (one_of option found) other

-- the text that was found for a word, which always is
abbrev pub word_at : Text → List Row → Text
word_at name found = unwrap_or (first_of name found) []

-- how many records a log may have where it is not said
abbrev pub default_limit : ℕ
default_limit = 1000000

-- the command by what a description finds in the words after its name, where it takes them
unfoldable pub command_by : App → (List Row → Command) → List Text → Option Command
command_by description made_of rest =
    if is_empty (fault_of description rest) then Some (made_of (matches_of description rest)) else None

-- each command, by what was found for its arguments, and then by the words after its name
abbrev pub pipe_of : List Row → Command
pipe_of found = Pipe (number_or default_limit (codes "limit") found) (word_at (codes "log") found)

abbrev pub pipe_from : List Text → Option Command
pipe_from rest = command_by describe.pipe pipe_of rest

abbrev pub serve_of : List Row → Command
serve_of found = Serve (number_or 0 (codes "links") found) (number_or 0 (codes "workers") found) (number_or default_limit (codes "limit") found)
    (word_at (codes "address") found) (word_at (codes "log") found)

abbrev pub serve_from : List Text → Option Command
serve_from rest = command_by describe.serve serve_of rest

abbrev pub bench_of : List Row → Command
bench_of found = Bench (number_or 0 (codes "links") found) (number_or 0 (codes "workers") found) (number_or 0 (codes "count") found)
    (number_or 0 (codes "seed") found) (first_of (codes "keep") found)

abbrev pub bench_from : List Text → Option Command
bench_from rest = command_by describe.bench bench_of rest

abbrev pub check_of : List Row → Command
check_of found = Check (word_at (codes "name") found)

abbrev pub check_from : List Text → Option Command
check_from rest = command_by (describe.of_one_name (codes "check")) check_of rest

abbrev pub log_of : List Row → Command
log_of found = Log (word_at (codes "name") found)

abbrev pub log_from : List Text → Option Command
log_from rest = command_by (describe.of_one_name (codes "log")) log_of rest

-- The command of the words: the first is its name, and its description takes the rest.
abbrev pub command_of : List Text → Option Command
command_of [] = None
command_of (name ∷ rest) =
    if bytes_eq name (codes "pipe") then pipe_from rest
    else (if bytes_eq name (codes "serve") then serve_from rest
    else (if bytes_eq name (codes "bench") then bench_from rest
    else (if bytes_eq name (codes "check") then check_from rest
    else (if bytes_eq name (codes "log") then log_from rest
    else None))))

-- the first word is a command's name
abbrev pub is_named : List Text → Bool
is_named [] = false
is_named (name ∷ rest) = bytes_eq name (codes "pipe") || (bytes_eq name (codes "serve") || (bytes_eq name (codes "bench")
    || (bytes_eq name (codes "check") || bytes_eq name (codes "log"))))

-- a limit on records
abbrev pub IsLimit : ℕ → Type 0
IsLimit limit = (1 ≤ limit) × (limit ≤ 1000000)

-- numbers of links and of workers
abbrev pub AreLinks : ℕ → ℕ → Type 0
AreLinks links workers = (1 ≤ links) × (links ≤ 16) × (1 ≤ workers) × (workers ≤ 4)

-- each number of the command is in its range
abbrev pub IsInRange : Command → Type 0
IsInRange (Pipe limit log) = IsLimit limit
IsInRange (Serve links workers limit address log) = AreLinks links workers × IsLimit limit
IsInRange (Bench links workers count seed keep) = AreLinks links workers × (count ≤ 1000000)
IsInRange other = Unit {0}

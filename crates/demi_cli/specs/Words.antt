-- What the words of the command line ask for.
use Rattle.std.specs.Prelude.{◌≡◌, ◌≤◌, ℕ, Bool, true, false, ◌||◌, if◌then◌else◌, List, [], Option, Some, None}
use Rattle.demi_words.specs.Commands as plain
use Rattle.demi_words.specs.Commands.{command_of, default_limit, IsLimit, IsInRange}
use Rattle.demi_words.specs.Plain.{plain_of}
use Rattle.demi_words.specs.declared.command.Command.{Command}
use Rattle.demi_cli.specs.declared.task.Task.{Task}
use Rattle.demi_cli.specs.declared.task.Task.TheVariants as task
use Rattle.demi_cli.specs.declared.outcome.Outcome.{Outcome}
use Rattle.demi_cli.specs.declared.outcome.Outcome.TheVariants as outcome

-- whether a command, if there is one, is a `pipe`, a `check`, a `log`, or one of those that are not there yet
abbrev pub pipes : Option plain.Command → Bool
pipes (Some (plain.Pipe limit log)) = true
pipes other = false

abbrev pub checks : Option plain.Command → Bool
checks (Some (plain.Check name)) = true
checks other = false

abbrev pub lists : Option plain.Command → Bool
lists (Some (plain.Log name)) = true
lists other = false

abbrev pub comes_later : Option plain.Command → Bool
comes_later (Some (plain.Serve links workers limit address log)) = true
comes_later (Some (plain.Bench links workers count seed keep)) = true
comes_later other = false

-- the name of its log or of its transcript
abbrev pub name_in : Option plain.Command → List ℕ
name_in (Some (plain.Pipe limit log)) = log
name_in (Some (plain.Check name)) = name
name_in (Some (plain.Log name)) = name
name_in other = []

-- how many records its log may have
abbrev pub limit_in : Option plain.Command → ℕ
limit_in (Some (plain.Pipe limit log)) = limit
limit_in other = default_limit

-- the same of words: those of `pipe [--limit N] LOG`, `check NAME` and `log NAME`, and those of `serve` and `bench`
abbrev pub is_pipe : List (List ℕ) → Bool
is_pipe words = pipes (command_of words)

abbrev pub is_check : List (List ℕ) → Bool
is_check words = checks (command_of words)

abbrev pub is_log : List (List ℕ) → Bool
is_log words = lists (command_of words)

abbrev pub is_later : List (List ℕ) → Bool
is_later words = comes_later (command_of words)

-- the words are those of a command that serves no link
abbrev pub is_tool : List (List ℕ) → Bool
is_tool words = is_check words || is_log words

-- the words are those of a command that runs
abbrev pub runs : List (List ℕ) → Bool
runs words = is_pipe words || is_tool words

-- the name of the log or of the transcript, and the limit of the log
abbrev pub log_name : List (List ℕ) → List ℕ
log_name words = name_in (command_of words)

abbrev pub log_limit : List (List ℕ) → ℕ
log_limit words = limit_in (command_of words)

-- as what words are refused that are not those of a command that runs
abbrev pub refused_words : List (List ℕ) → Outcome
refused_words words = if is_later words then outcome.NotYet else outcome.Usage

-- the words are no command
abbrev pub IsUsage : List (List ℕ) → Type 0
IsUsage words = command_of words ≡ None

-- a command is done by this task
abbrev pub Does : Command → Task → Type 0
Does command (task.Pipe limit name) = plain_of command ≡ plain.Pipe limit name.now
Does command (task.Check name) = plain_of command ≡ plain.Check name.now
Does command (task.Log name) = plain_of command ≡ plain.Log name.now
Does command task.Later = comes_later (Some (plain_of command)) ≡ true

-- these words ask for this task
abbrev pub AsksFor : List (List ℕ) → Task → Type 0
AsksFor words (task.Pipe limit name) = (is_pipe words ≡ true) × (name.now ≡ log_name words) × (limit ≡ log_limit words) × IsLimit limit
AsksFor words (task.Check name) = (is_check words ≡ true) × (name.now ≡ log_name words)
AsksFor words (task.Log name) = (is_log words ≡ true) × (name.now ≡ log_name words)
AsksFor words task.Later = is_later words ≡ true

-- The five commands, as plain descriptions of commands of `clap`: each reads the words after its name, and has no option for help or a
-- version and no subcommands.
use Rattle.std.specs.Prelude.{ℕ, Bool, true, false, ◌-◌, ◌^◌, Some, pos, codes}
use Rattle.clap.specs.Words.{App, Rule, Text, new_app, new_rule, with_rule}
use Rattle.clap.specs.declared.builder.ArgAction.TheVariants.{Set}
use Rattle.clap.specs.declared.builder.value_parser.ValueParser.TheVariants as vp

-- an option `--name TEXT`, which is given at most once and then has one value
abbrev pub option : Text → Rule
option name = record (new_rule name) { long = Some name; action = Some Set }

-- an option whose value is a number in a range
abbrev pub number_option : Text → ℕ → ℕ → Bool → Rule
number_option name low high required = record (option name) { parser = Some (vp.Signed (pos low) (pos high)); required = required }

-- a required option whose value is any number of 64 bits
abbrev pub long_option : Text → Rule
long_option name = record (option name) { parser = Some (vp.Unsigned 0 (2 ^ 64 - 1)); required = true }

-- a required word
abbrev pub word : Text → Rule
word name = record (new_rule name) { action = Some Set; required = true }

-- how many links, how many workers, and how many records a log may have
abbrev pub links : Rule
links = number_option (codes "links") 1 16 true

abbrev pub workers : Rule
workers = number_option (codes "workers") 1 4 true

abbrev pub limit : Rule
limit = number_option (codes "limit") 1 1000000 false

-- a command with no arguments yet
abbrev pub bare : Text → App
bare name = record (new_app name) {
  top = record (new_app name).top { no_binary_name = true; disable_help_flag = true; disable_version_flag = true };
}

-- `pipe [--limit N] LOG`
abbrev pub pipe : App
pipe = with_rule (with_rule (bare (codes "pipe")) limit) (word (codes "log"))

-- `serve --links N --workers N [--limit N] ADDRESS LOG`
abbrev pub serve : App
serve = with_rule (with_rule (with_rule (with_rule (with_rule (bare (codes "serve")) links) workers) limit)
    (word (codes "address"))) (word (codes "log"))

-- `bench --links N --workers N --count N --seed N [--keep NAME]`
abbrev pub bench : App
bench = with_rule (with_rule (with_rule (with_rule (with_rule (bare (codes "bench")) links) workers) (number_option (codes "count") 0 1000000 true))
    (long_option (codes "seed"))) (option (codes "keep"))

-- `check NAME` and `log NAME`
abbrev pub of_one_name : Text → App
of_one_name command = with_rule (bare command) (word (codes "name"))

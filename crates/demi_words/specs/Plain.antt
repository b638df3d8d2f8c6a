-- The commands of the code, as definitions see them.
use Rattle.std.specs.Prelude.{option_map}
use Rattle.demi_words.specs.Commands as plain
use Rattle.demi_words.specs.declared.command.Command.{Command}
use Rattle.demi_words.specs.declared.command.Command.TheVariants.{Pipe, Serve, Bench, Check, Log}

-- the command, with the texts of its names
abbrev pub plain_of : Command → plain.Command
plain_of (Pipe limit log) = plain.Pipe limit log.now
plain_of (Serve links workers limit address log) = plain.Serve links workers limit address.now log.now
plain_of (Bench links workers count seed keep) = plain.Bench links workers count seed (option_map (λ name. name.now) keep)
plain_of (Check name) = plain.Check name.now
plain_of (Log name) = plain.Log name.now

use Rattle.std.proofs.Common.{map}
use Rattle.std.specs.Prelude.{string_bytes}
use Rattle.demi_cli.proofs.Tasks.{asks_for}
use Rattle.demi_cli.proofs.task.read_task.Goals as goal

pub returns-in-Ok-clause-asks : goal.returns-in-Ok-clause-asks
returns-in-Ok-clause-asks c = asks_for (map string_bytes c.args.words.now.items) c.in-Ok.command c.task_of.result (rw c.deref.ensures.value at c.in-Ok.ensures.read) c.in-Ok.ensures.in_range c.task_of.ensures

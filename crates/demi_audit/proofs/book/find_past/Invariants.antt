use Rattle.std.proofs.Common.{List, take}
use Rattle.demi_spec.specs.Record.{Record}
use Rattle.demi_audit.specs.Entries.{Logs}
use Rattle.demi_audit.specs.Past.{PastOf}
use Rattle.demi_audit.proofs.book.find_past.Given as goal

abbrev pub invariant-adding : goal.invariant-adding
invariant-adding l = (rs : List Record) → Logs l.text l.ends rs → PastOf l.past (take l.i rs)

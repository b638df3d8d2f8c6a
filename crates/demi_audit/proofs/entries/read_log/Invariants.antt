use Rattle.std.proofs.Common.{List, ℕ, Some}
use Rattle.demi_logq.specs.Logged.{Holds}
use Rattle.demi_audit.specs.Entries.{ReadTo}
use Rattle.demi_audit.proofs.entries.read_log.Given as goal

abbrev pub invariant-reading : goal.invariant-reading
invariant-reading l = (payloads : List (List ℕ)) → Holds (Some l.text) l.ends.items payloads → ReadTo l.i payloads

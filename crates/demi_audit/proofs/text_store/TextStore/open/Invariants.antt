use Rattle.std.proofs.Common.{◌≡◌, List, take}
use Rattle.std.specs.Prelude.{Ok}
use Rattle.demi_spec.specs.Record.{Record, records}
use Rattle.demi_audit.specs.TextStores.{Indexes}
use Rattle.demi_audit.proofs.text_store.TextStore.open.Given as goal

abbrev pub invariant-indexing : goal.invariant-indexing
invariant-indexing l = (old : List Record) → records l.log ≡ Ok old → Indexes l.text.items l.values (take l.i old)

use Rattle.std.proofs.Common.{List, [], ◌∷◌, refl}
use Rattle.demi_spec.specs.LogText.{entries, entries_within, entry_front}
use Rattle.demi_spec.specs.Record.{Record, record_of}
use Rattle.demi_audit.proofs.one_link.tests.an_old_log_is_read.Goals as goal

-- the records of that log
old : List Record
old = record { link = 3; index = 0; key = 97 ∷ []; value = 49 ∷ [] } ∷ record { link = 3; index = 1; key = 97 ∷ []; value = 50 ∷ 50 ∷ [] } ∷ []

pub client-requires-clause-log : goal.client-requires-clause-log
unfolding entries entries_within entry_front record_of old
client-requires-clause-log g c = (old, refl)

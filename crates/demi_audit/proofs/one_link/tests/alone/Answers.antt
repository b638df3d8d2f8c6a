use Rattle.std.proofs.Common.{[], refl}
use Rattle.demi_spec.specs.LogText.{entries}
use Rattle.demi_audit.proofs.one_link.tests.alone.Goals as goal

pub client-requires-clause-log : goal.client-requires-clause-log
unfolding entries
client-requires-clause-log g c = ([], refl)

use Rattle.std.proofs.Common.{ap, refl, ◌∙◌}
use Rattle.demi_logq.specs.Logged.{Logged}
use Rattle.demi_store.proofs.Heard.{none_of}
use Rattle.demi_store.proofs.store_core.StoreCore.make.Goals as goal

pub returns-in-Ok-clause-fresh : goal.returns-in-Ok-clause-fresh
returns-in-Ok-clause-fresh g c = (none_of c.read_all.new.log.staged (ap (λ (l : Logged g.row.D.Denot). l.staged) c.read_all.ensures.same ∙ c.requires.staged), refl, refl)

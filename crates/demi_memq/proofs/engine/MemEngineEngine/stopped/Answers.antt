use Rattle.std.proofs.Common.{ap, ◌∙◌}
use Rattle.demi_device.specs.Serving.{first_stop}
use Rattle.demi_memq.specs.Said.{is_stop}
use Rattle.demi_memq.specs.Serving.{items_said}
use Rattle.demi_memq.proofs.Keeping.{kept_stop}
use Rattle.demi_memq.proofs.engine.MemEngineEngine.stopped.Goals as goal

pub returns : goal.returns
returns c =
    let s = c.self.inside.queues in
    kept_stop 1024 c.self.inside.history.value c.self.inside.outcomes.value s.made s.shut.items _ (items_said s.waiting.items) s.pending.items c.self.invariant.0 ∙ ap (λ v. first_stop is_stop 0 v.served) c.self.view_is

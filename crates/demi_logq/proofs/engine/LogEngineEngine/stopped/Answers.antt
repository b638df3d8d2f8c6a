use Rattle.std.proofs.Common.{ap, ◌∙◌, refl}
use Rattle.demi_device.specs.Serving.{first_stop, trail}
use Rattle.demi_logq.specs.Answers.{is_stop, struck_at, told_by}
use Rattle.demi_logq.specs.Engine.{EngineValue}
use Rattle.demi_logq.specs.Folding.{opened}
use Rattle.demi_logq.proofs.Stopping.{stop_is}
use Rattle.demi_logq.proofs.engine.LogEngineEngine.stopped.Goals as goal

pub returns : goal.returns
returns g c =
    let v = c.self.inside.past.value in
    c.self.invariant.1.stop_is ∙ stop_is v.base.limit (struck_at (trail told_by v.finished)) (opened v.base.payloads) v.served refl ∙ ap (λ (e : EngineValue g.row.D.Denot). first_stop is_stop 0 e.served) c.self.view_is

use Rattle.std.proofs.Common.{ap, ◌∙◌, refl}
use Rattle.demi_device.specs.Serving.{first_stop, trail}
use Rattle.demi_store.specs.Laws.{is_stop, told_of}
use Rattle.demi_store.specs.Engine.{EngineValue}
use Rattle.demi_store.specs.History.{opened, struck_at}
use Rattle.demi_store.proofs.Stopping.{stop_is}
use Rattle.demi_store.proofs.engine.StoreEngineEngine.stopped.Goals as goal

pub returns : goal.returns
returns g c =
    let v = c.self.inside.past.value in
    c.self.invariant.1.stop_is ∙ stop_is v.base.limit (struck_at (trail told_of v.finished)) (opened v.base.records) v.served refl ∙ ap (λ (e : EngineValue g.row.D.Denot). first_stop is_stop 0 e.served) c.self.view_is

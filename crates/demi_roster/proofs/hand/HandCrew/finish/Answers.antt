use Rattle.std.proofs.Common.{◌∙◌, ap, subst, sym}
use Rattle.demi_roster.specs.Hands.{HasFinished}
use Rattle.demi_roster.specs.Staging.{stage_of}
use Rattle.demi_roster.specs.declared.hand.stage.Stage.{Stage}
use Rattle.demi_roster.proofs.HandStages.{has_finished}
use Rattle.demi_roster.proofs.hand.HandCrew.finish.Goals as goal

pub returns : goal.returns
returns g c =
    let i = c.self.inside in let s = c.stop_for_all-caller in
    subst (λ (t : Stage). HasFinished c.args.self.now (record { demi = i.demi.now; number = i.number; stage = stage_of t })) (sym c.replace-between.ensures.after)
    (has_finished c.args.self.now i.demi.now i.number i.stage c.self.view_is c.in-Done.caller s.result c.in-Done.ended.items (ap stage_of (sym c.replace-stage.ensures.value ∙ c.in-Done.is)) s.ensures)

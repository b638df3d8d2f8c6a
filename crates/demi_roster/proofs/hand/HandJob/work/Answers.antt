use Rattle.std.proofs.Common.{◌∙◌, ap, sym, subst}
use Rattle.demi_roster.specs.Hands.{HasServed}
use Rattle.demi_roster.specs.Staging.{IsReady, stage_of}
use Rattle.demi_roster.specs.declared.hand.stage.Stage.{Stage}
use Rattle.demi_roster.proofs.HandStages.{has_served}
use Rattle.demi_roster.proofs.hand.HandJob.work.Goals as goal

pub serve_share-caller-requires : goal.serve_share-caller-requires
serve_share-caller-requires g c =
    let i = c.self.inside in
    subst (IsReady i.demi.now i.number i.links) (sym c.replace-stage.ensures.value ∙ c.in-Ready.is) c.self.invariant

pub returns : goal.returns
returns g c =
    let i = c.self.inside in let r = c.in-Ready in let s = c.serve_share-caller in
    subst (λ (t : Stage). HasServed c.args.self.now (record { demi = i.demi.now; number = i.number; stage = stage_of t })) (sym c.replace-between.ensures.after)
    (has_served c.args.self.now i.demi.now i.number i.stage c.self.view_is r.caller s.result.0 r.opening s.result.1.items (ap stage_of (sym c.replace-stage.ensures.value ∙ r.is)) s.ensures)

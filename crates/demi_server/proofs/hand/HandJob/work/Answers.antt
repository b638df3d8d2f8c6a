use Rattle.std.proofs.Common.{◌∙◌, ℕ, sym, subst}
use Rattle.demi_server.specs.Hands.{HasServed}
use Rattle.demi_server.specs.Staging.{IsReady, IsUnused, stage_of}
use Rattle.demi_server.specs.declared.hand.stage.Stage.{Stage}
use Rattle.demi_server.proofs.HandStages.{has_served}
use Rattle.demi_server.proofs.hand.HandJob.work.Goals as goal

pub serve_only_link-caller-requires : goal.serve_only_link-caller-requires
serve_only_link-caller-requires g c =
    let i = c.self.inside in let w = c.in-Ready.worker in
    let unused = subst (IsReady i.demi.now i.number) (sym c.replace-stage.ensures.value ∙ c.in-Ready.is) c.self.invariant in
    subst (λ (n : ℕ). IsUnused i.demi.now n w) (sym unused.number_is) unused

pub returns : goal.returns
returns g c =
    let i = c.self.inside in let w = c.in-Ready.worker in let s = c.serve_only_link-caller in
    let unused = subst (IsReady i.demi.now i.number) (sym c.replace-stage.ensures.value ∙ c.in-Ready.is) c.self.invariant in
    subst (λ (t : Stage). HasServed c.args.self.now (record { demi = i.demi.now; number = i.number; stage = stage_of t })) (sym c.replace-between.ensures.after)
    (has_served c.args.self.now i.demi.now i.number i.stage c.self.view_is w.number s.result.0 s.result.1.items unused.number_is s.ensures)

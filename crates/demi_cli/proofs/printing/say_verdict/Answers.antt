use Rattle.std.proofs.Common.{◌≡◌, ◌∙◌, ◌++◌, ap, List, ℕ, take}
use Rattle.std.specs.Prelude.{codes}
use Rattle.std.specs.Fmt.{decimal}
use Rattle.demi_core.specs.World.{after_say}
use Rattle.demi_cli.specs.Lines.{verdict_line}
use Rattle.demi_cli.proofs.Says.{some_said}
use Rattle.demi_cli.proofs.printing.say_verdict.Goals as goal

pub returns-in-Err-clause-part : goal.returns-in-Err-clause-part
returns-in-Err-clause-part g c =
    let f = c.in-Err.ensures.failed in
    let text : c.push_str.new.self.bytes ≡ verdict_line c.args.links c.args.replies c.args.records =
    c.push_str.ensures.bytes
    ∙ ap (λ (t : List ℕ). t ++ codes "\n") (c.push_number-3.ensures.text ∙ ap (λ (t : List ℕ). t ++ codes " records " ++ decimal c.args.records) (c.push_number-2.ensures.text ∙ ap (λ (t : List ℕ). t ++ codes " replies " ++ decimal c.args.replies) (c.push_number.ensures.text ∙ ap (λ (t : List ℕ). t ++ codes "consistent: links " ++ decimal c.args.links) c.new-text.ensures))) in
    some_said (verdict_line c.args.links c.args.replies c.args.records) (g.W.World.state c.args.world.now) (g.W.World.state c.say.new.self) f.0
    (f.1 ∙ ap (λ (l : List ℕ). after_say (g.W.World.state c.args.world.now) (take f.0 l)) (c.as_str.ensures.value ∙ text))

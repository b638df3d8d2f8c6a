use Rattle.std.proofs.Common.{◌∙◌, ap, List, ℕ, take}
use Rattle.demi_core.specs.World.{after_say}
use Rattle.demi_cli.proofs.Says.{some_said}
use Rattle.demi_cli.proofs.printing.make_room.Goals as goal

pub returns-in-Err-clause-part : goal.returns-in-Err-clause-part
returns-in-Err-clause-part g c =
    let f = c.in-Err.ensures.failed in
    some_said c.args.text.now.bytes (g.W.World.state c.args.world.now) (g.W.World.state c.say.new.self) f.0
    (f.1 ∙ ap (λ (l : List ℕ). after_say (g.W.World.state c.args.world.now) (take f.0 l)) c.as_str.ensures.value)

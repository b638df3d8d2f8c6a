use Rattle.std.proofs.Common.{◌∙◌, ap, List, ℕ, ◌++◌, take}
use Rattle.demi_core.specs.World.{after_say}
use Rattle.demi_cli.specs.Lines.{count_line}
use Rattle.demi_cli.proofs.Says.{some_said, front_longer, front_on}
use Rattle.demi_cli.proofs.printing.say_count.Goals as goal

pub returns-in-Err-clause-part : goal.returns-in-Err-clause-part
returns-in-Err-clause-part g c = front_longer c.args.text.now.bytes (count_line c.args.count) _ _ c.in-Err.ensures.part

pub returns-in-Err-say-clause-part : goal.returns-in-Err-say-clause-part
returns-in-Err-say-clause-part g c =
    let f = c.in-Err-say.ensures.failed in
    let waits = c.make_room.new.text.bytes in
    front_on waits (count_line c.args.count) c.args.text.now.bytes _ _ (g.W.World.state c.say.new.self) c.in-Ok.ensures.said
    (some_said (waits ++ count_line c.args.count) (g.W.World.state c.make_room.new.world) (g.W.World.state c.say.new.self) f.0
    (f.1 ∙ ap (λ (l : List ℕ). after_say (g.W.World.state c.make_room.new.world) (take f.0 l)) (c.as_str.ensures.value ∙ c.push_count.ensures)))

use Rattle.demi_context.proofs.ContextSteps.{sound_first}
use Rattle.demi_context.proofs.context.Context.make.Goals as goal

pub invariant_of-result : goal.invariant_of-result
invariant_of-result c =
    sound_first c.args.demi.now c.args.caller c.args.number c.args.links c.no_calls.result.value c.no_calls.ensures c.requires.links c.requires.owes c.requires.new

use Rattle.std.proofs.Common.{subst, sym}
use Rattle.demi_pdpix.specs.Tries.{Waited}
use Rattle.demi_pdpix.specs.declared.outcomes.Answer.TheVariants.{Ready}
use Rattle.demi_sharing.specs.Acting.{Came}
use Rattle.demi_sharing.proofs.Acts.{came_of}
use Rattle.demi_store.specs.Laws.{Admits}
use Rattle.demi_sharing.proofs.redeeming.redeem.Goals as goal

pub returns-clause-came : goal.returns-clause-came
returns-clause-came g c =
    let d = c.args.demi.now in
    let b = c.args.caller.now in
    let e = c.wait.new.caller in
    let place = c.in-Ready.field-0 in
    let w = subst (λ r. Waited {L = _} {P = _} Admits d c.args.token b e (Ready place r)) c.only_memory.ensures.is c.in-Ready.ensures.waited in
    subst (Came c.args.token.token.0 c.only_memory.result b) (sym c.only_memory.ensures.same) (came_of _ _ d c.args.token b e c.in-Ready.ensures.of place c.only_memory.result c.requires.port w)

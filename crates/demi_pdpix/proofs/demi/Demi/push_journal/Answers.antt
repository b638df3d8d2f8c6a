use Rattle.demi_logq.specs.declared.op.LogOp.TheVariants.{Push as PushLog}
use Rattle.demi_pdpix.specs.Asks.{to_log}
use Rattle.demi_pdpix.specs.declared.kind.PortKind.TheVariants.{Journal}
use Rattle.demi_pdpix.proofs.Given.{lent_to}
use Rattle.demi_pdpix.proofs.demi.Demi.push_journal.Goals as goal

pub returns-in-Ok-clause-ok : goal.returns-in-Ok-clause-ok
returns-in-Ok-clause-ok g c = (
  c.in-Ok.ensures.ok.0,
  c.lend-half.ensures.lent,
  lent_to Journal (λ s. to_log (PushLog s)) _ c.args.caller.now c.submit_journal.new.caller c.lend-half.new.pass c.lend-half.result.1 c.args.sga c.in-Ok.token.token.0
      c.caller.view_is c.lend-half.ensures.pass c.lend-half.ensures.device c.in-Ok.ensures.ok.1,
)

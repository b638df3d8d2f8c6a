use Rattle.demi_streamq.specs.declared.tx_op.TxOp.TheVariants.{Push as PushTx}
use Rattle.demi_pdpix.specs.Asks.{to_sender}
use Rattle.demi_pdpix.specs.declared.kind.PortKind.TheVariants.{Sending}
use Rattle.demi_pdpix.proofs.Given.{lent_to}
use Rattle.demi_pdpix.proofs.demi.Demi.push_tx.Goals as goal

pub returns-in-Ok-clause-ok : goal.returns-in-Ok-clause-ok
returns-in-Ok-clause-ok g c = (
  c.in-Ok.ensures.ok.0,
  c.lend-half.ensures.lent,
  lent_to (Sending c.args.k) (λ s. to_sender (PushTx s)) _ c.args.caller.now c.submit_tx.new.caller c.lend-half.new.pass c.lend-half.result.1 c.args.sga c.in-Ok.token.token.0
      c.caller.view_is c.lend-half.ensures.pass c.lend-half.ensures.device c.in-Ok.ensures.ok.1,
)

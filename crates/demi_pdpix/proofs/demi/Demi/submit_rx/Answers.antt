use Rattle.demi_pdpix.proofs.Given.{ok_at, ok_else, to_rx}
use Rattle.demi_pdpix.proofs.demi.Demi.submit_rx.Goals.{in-Ok, in-Err}
use Rattle.demi_pdpix.proofs.demi.Demi.submit_rx.Goals as goal

pub returns-clause-ok : goal.returns-clause-ok
returns-clause-ok g c = elim c.match-submit_at.branch [
  | in-Ok w ↦ ok_at c.match-submit_at.result _ _ w.result-is
      (w.at_port.ensures.0, to_rx c.args.k c.args.op _ c.args.caller.now c.submit_at.new.passes.items w.at_port.result w.in-Ok.token c.caller.view_is w.at_port.ensures.1 w.in-Ok.ensures.ok)
  | in-Err w ↦ ok_else c.match-submit_at.result _ _ w.result-is
]

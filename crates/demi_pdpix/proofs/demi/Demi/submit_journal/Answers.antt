use Rattle.std.proofs.Common.{◌<◌, length, get_or, ap, ◌∙◌, arith}
use Rattle.demi_pdpix.specs.Lanes.{port_of}
use Rattle.demi_pdpix.specs.Seen.{DemiId}
use Rattle.demi_pdpix.proofs.Returned.{map_length}
use Rattle.demi_pdpix.proofs.Given.{ok_at, ok_else, to_journal}
use Rattle.demi_pdpix.proofs.demi.Demi.submit_journal.Goals.{in-Ok, in-Err}
use Rattle.demi_pdpix.proofs.demi.Demi.submit_journal.Goals as goal

pub returns-clause-ok : goal.returns-clause-ok
returns-clause-ok g c = elim c.match-submit_at.branch [
  | in-Ok w ↦ ok_at c.match-submit_at.result _ _ w.result-is
      (w.at_port.ensures.0, to_journal c.args.op _ c.args.caller.now c.submit_at.new.passes.items w.at_port.result w.in-Ok.token c.caller.view_is w.at_port.ensures.1 w.in-Ok.ensures.ok)
  | in-Err w ↦ ok_else c.match-submit_at.result _ _ w.result-is
]

pub submit_at-requires-clause-proper : goal.submit_at-requires-clause-proper
submit_at-requires-clause-proper g c κs e =
    let low : 0 < length c.self.inside.ports.journal.items = let m = ap (λ (z : DemiId _). length z.journal) c.self.view_is in let n = map_length port_of c.self.inside.ports.journal.items in let some = c.requires.there in omega (arith, m, n, some) in
    c.requires.proper (get_or c.self.inside.ports.journal.items 0 e).port.key.base (c.self.invariant.0.journal_base 0 e low ∙ ap (λ (z : DemiId _). z.heap) c.self.view_is)

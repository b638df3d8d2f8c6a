use Rattle.std.proofs.Common.{◌≡◌, All, subst}
use Rattle.demi_logq.specs.Answers.{LogBasis}
use Rattle.demi_port.specs.Seen.{PortId}
use Rattle.demi_pdpix.specs.Seen.{as_list}
use Rattle.demi_pdpix.proofs.Homecoming.{new_calm}
use Rattle.demi_pdpix.proofs.TwoCallers.{only_fit}
use Rattle.demi_pdpix.proofs.tests.whole.made_on.Goals as goal

pub returns-clause-callers : goal.returns-clause-callers
returns-clause-callers g c = let new = c.in-Ok.ensures.callers in (new.0, new.1, new_calm c.in-Ok.made.0 0 c.in-Ok.made.1.items new.2)

pub returns-clause-seats : goal.returns-clause-seats
returns-clause-seats g c = let e = c.in-Ok.ensures in let d = c.in-Ok.made.0 in let s = c.in-Ok.made.2 in let h = d.heap in record {
  memory = record { new = e.memory_seat; tokens = e.tokens.0; stands = e.bases.0 };
  service_seat = record { new = e.service_seat; tokens = e.tokens.1; stands = e.bases.1 };
  journal = only_fit h _ d.journal (as_list s.journal) e.ports.0 (subst (λ (b : LogBasis). All (λ (p : PortId LogBasis). p.key.base ≡ b) d.journal) (c.requires.log h) e.bases.2) e.tokens.2 e.journal_seat;
  rx = only_fit h h d.rx s.rx.items e.ports.1 e.bases.3 e.tokens.3 e.rx_seats;
  tx = only_fit h h d.tx s.tx.items e.ports.2 e.bases.4 e.tokens.4 e.tx_seats;
}

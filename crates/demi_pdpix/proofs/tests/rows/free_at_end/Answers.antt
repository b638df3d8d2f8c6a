use Rattle.std.proofs.Common.{◌∙◌, length, sym, ap, subst, arith}
use Rattle.demi_pdpix.specs.Closing.{AllBackAt}
use Rattle.demi_pdpix.specs.Returning.{rx_at, tx_at}
use Rattle.demi_pdpix.specs.Seen.{as_list}
use Rattle.demi_pdpix.proofs.OneCaller.{at_many, one_back_at, pairs_heap, pairs_many}
use Rattle.demi_pdpix.proofs.tests.rows.free_at_end.Goals as goal

pub close-end-requires-clause-count : goal.close-end-requires-clause-count
close-end-requires-clause-count c κs = let d = c.args.demi in let s = c.args.seats in (
  ap length c.requires.callers.1.1 ∙ sym c.requires.callers.0,
  pairs_many d.heap 1 d.journal (as_list s.journal) c.requires.journal_seat,
  pairs_many d.heap 1 d.rx s.rx.items c.requires.rx_seats,
  pairs_many d.heap 1 d.tx s.tx.items c.requires.tx_seats,
)

pub close-end-requires-clause-rx : goal.close-end-requires-clause-rx
close-end-requires-clause-rx c κs = let d = c.args.demi in let one = c.requires.callers.1 in
    subst (λ cs. AllBackAt rx_at cs d.rx c.args.seats.rx.items) (sym one.1)
    (one_back_at d.heap rx_at one.0 d.rx c.args.seats.rx.items c.requires.rx_seats (λ k p low. one.2.1.3 k p (let many = at_many one.0.rx d.rx one.2.0.rx in omega (arith, low, many))))

pub close-end-requires-clause-tx : goal.close-end-requires-clause-tx
close-end-requires-clause-tx c κs = let d = c.args.demi in let one = c.requires.callers.1 in
    subst (λ cs. AllBackAt tx_at cs d.tx c.args.seats.tx.items) (sym one.1)
    (one_back_at d.heap tx_at one.0 d.tx c.args.seats.tx.items c.requires.tx_seats (λ k p low. one.2.1.4 k p (let many = at_many one.0.tx d.tx one.2.0.tx in omega (arith, low, many))))

pub close-end-requires-clause-heap : goal.close-end-requires-clause-heap
close-end-requires-clause-heap c κs = let d = c.args.demi in let s = c.args.seats in (
  c.requires.memory.2,
  ap (λ p. p.heap) c.requires.service_seat.1,
  pairs_heap d.heap 1 d.journal (as_list s.journal) c.requires.journal_seat,
  pairs_heap d.heap 1 d.rx s.rx.items c.requires.rx_seats,
  pairs_heap d.heap 1 d.tx s.tx.items c.requires.tx_seats,
)

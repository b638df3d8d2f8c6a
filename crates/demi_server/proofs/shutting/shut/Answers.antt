use Rattle.std.proofs.Common.{◌≡◌, ◌∙◌, length, sym, ap, subst, arith}
use Rattle.demi_port_core.specs.History.{Each}
use Rattle.demi_pdpix.specs.Closing.{AllBackAt}
use Rattle.demi_pdpix.specs.Returning.{rx_at, tx_at}
use Rattle.demi_pdpix.specs.Seen.{as_list}
use Rattle.demi_server.proofs.Stopped.{all_back_at, at_many, pairs_heap, pairs_many}
use Rattle.demi_server.proofs.shutting.shut.Goals as goal

pub close-requires-clause-count : goal.close-requires-clause-count
close-requires-clause-count c κs = let d = c.args.demi in let s = c.args.seats in let r = c.requires in (
  ap length r.callers.1.1 ∙ sym r.callers.0,
  ap (λ j. length (as_list j)) r.journal.1 ∙ sym (ap length r.journal.0),
  pairs_many d.heap d.rx s.rx.items r.links.0,
  pairs_many d.heap d.tx s.tx.items r.links.1,
)

pub close-requires-clause-rx : goal.close-requires-clause-rx
close-requires-clause-rx c κs = let d = c.args.demi in let one = c.requires.callers.1 in
    subst (λ cs. AllBackAt rx_at cs d.rx c.args.seats.rx.items) (sym one.1)
    (all_back_at d.heap rx_at one.0 d.rx c.args.seats.rx.items c.requires.links.0 (λ k p low. one.2.1.3 k p (let many = at_many one.0.rx d.rx one.2.0.rx in omega (arith, low, many))))

pub close-requires-clause-tx : goal.close-requires-clause-tx
close-requires-clause-tx c κs = let d = c.args.demi in let one = c.requires.callers.1 in
    subst (λ cs. AllBackAt tx_at cs d.tx c.args.seats.tx.items) (sym one.1)
    (all_back_at d.heap tx_at one.0 d.tx c.args.seats.tx.items c.requires.links.1 (λ k p low. one.2.1.4 k p (let many = at_many one.0.tx d.tx one.2.0.tx in omega (arith, low, many))))

pub close-requires-clause-heap : goal.close-requires-clause-heap
close-requires-clause-heap c κs = let d = c.args.demi in let s = c.args.seats in let r = c.requires in (
  r.queues.0.pass,
  r.queues.1.pass,
  subst (λ j. Each (λ p. p.1.heap ≡ d.heap) (as_list j)) (sym r.journal.1) tt,
  pairs_heap d.heap d.rx s.rx.items r.links.0,
  pairs_heap d.heap d.tx s.tx.items r.links.1,
)

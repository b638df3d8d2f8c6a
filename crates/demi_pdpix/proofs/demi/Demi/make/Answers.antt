use Rattle.std.proofs.Common.{refl, subst, ◌∙◌, arith}
use Rattle.demi_pdpix.specs.Making.{log_on}
use Rattle.demi_pdpix.specs.Seen.{AreNewCallers, DemiId, as_list}
use Rattle.demi_pdpix.proofs.Dealt.{same_many}
use Rattle.demi_pdpix.proofs.NewWhole.{as_wide, bases, dealt_all, new_left, one_based, seats_of, token_counts}
use Rattle.demi_pdpix.proofs.SamePorts.{whole_same}
use Rattle.demi_pdpix.proofs.Untouched.{no_items}
use Rattle.demi_pdpix.proofs.demi.Demi.make.Goals as goal

pub deal_all-requires-clause-left : goal.deal_all-requires-clause-left
deal_all-requires-clause-left g c κs within = new_left c.in_ok-heap.heap g.N.Basis.base g.J.Basis.base c.args.plan.tokens c.args.plan.callers c.in-Ok.ports c.in-Ok.seats c.in-Ok.ensures.new

pub invariant_of-demi : goal.invariant_of-demi
invariant_of-demi g c = let now = c.deal_all.new.ports in let old = c.in-Ok.ports in let same = c.deal_all.ensures.same in let many = c.in-Ok.ensures.lanes in
    let few = c.how_many_logs-journals.ensures.few in let shape = c.in_ok-heap.ensures.heap.3 in
    let rx = same_many now.rx.items old.rx.items same.rx in let tx = same_many now.tx.items old.tx.items same.tx in let mr = many.rx in let mt = many.tx in
    let len = c.in_ok-heap.ensures.passes.0 in let ok = c.in_ok-heap.passes.ok in let o = ok.1 in let o' = ok.0 in
    let cap = c.pair_up-seats.ensures.passes.1 in let cap' = c.deal_all.ensures.passes.2 in let rroom = c.in_ok-rx_ends.ensures.capacity in let troom = c.in_ok-tx_ends.ensures.capacity in (
      dealt_all c.in_ok-heap.heap g.N.Basis.base g.J.Basis.base c.args.plan.tokens c.args.plan.callers c.how_many_logs-journals.result c.args.plan.links old now c.in-Ok.seats c.in-Ok.ensures.new many same c.deal_all.ensures.left few shape,
      no_items c.pair_up-seats.new.passes.items c.pair_up-seats.ensures.passes.0,
      omega (arith, shape, len, o, o', cap, cap'),
      c.in_ok-rx_ends.ensures.items,
      omega (arith, rroom, rx, mr),
      c.in_ok-tx_ends.ensures.items,
      omega (arith, troom, tx, mt),
    )

pub returns-in-Ok-clause-bases : goal.returns-in-Ok-clause-bases
returns-in-Ok-clause-bases g c = let now = c.deal_all.new.ports in let old = c.in-Ok.ports in let s = c.in-Ok.seats in let same = c.deal_all.ensures.same in let new = c.in-Ok.ensures.new in let h = c.in_ok-heap.heap in let t = c.args.plan.tokens in let n = c.args.plan.callers in (
  (one_based h t n old.memory now.memory s.memory new.memory same.memory).base_is,
  (one_based g.N.Basis.base t n old.service now.service s.service new.service same.service).base_is,
  bases (log_on g.J.Basis.base h) t n old.journal.items now.journal.items s.journal.items new.journal same.journal,
  bases h t n old.rx.items now.rx.items s.rx.items new.rx same.rx,
  bases h t n old.tx.items now.tx.items s.tx.items new.tx same.tx,
)

pub returns-in-Ok-clause-tokens : goal.returns-in-Ok-clause-tokens
returns-in-Ok-clause-tokens g c = let now = c.deal_all.new.ports in let old = c.in-Ok.ports in let s = c.in-Ok.seats in let same = c.deal_all.ensures.same in let new = c.in-Ok.ensures.new in let h = c.in_ok-heap.heap in let t = c.args.plan.tokens in let n = c.args.plan.callers in (
  (one_based h t n old.memory now.memory s.memory new.memory same.memory).tokens_are,
  (one_based g.N.Basis.base t n old.service now.service s.service new.service same.service).tokens_are,
  token_counts (log_on g.J.Basis.base h) t n old.journal.items now.journal.items s.journal.items new.journal same.journal,
  token_counts h t n old.rx.items now.rx.items s.rx.items new.rx same.rx,
  token_counts h t n old.tx.items now.tx.items s.tx.items new.tx same.tx,
)

pub returns-in-Ok-clause-ports : goal.returns-in-Ok-clause-ports
returns-in-Ok-clause-ports g c = let now = c.deal_all.new.ports in let old = c.in-Ok.ports in let same = c.deal_all.ensures.same in let many = c.in-Ok.ensures.lanes in (
  as_wide c.how_many_logs-journals.result old.journal.items now.journal.items many.journal same.journal ∙ c.how_many_logs-journals.ensures.is,
  as_wide c.args.plan.links old.rx.items now.rx.items many.rx same.rx,
  as_wide c.args.plan.links old.tx.items now.tx.items many.tx same.tx,
)

pub returns-in-Ok-clause-callers : goal.returns-in-Ok-clause-callers
returns-in-Ok-clause-callers g c = (
  refl,
  c.deal_all.ensures.callers.0,
  subst (λ (d : DemiId _). AreNewCallers d 0 c.deal_all.new.callers.items) (whole_same c.in_ok-heap.heap c.in-Ok.ports c.deal_all.new.ports c.args.plan.callers c.deal_all.ensures.same) c.deal_all.ensures.callers.1,
)

pub returns-in-Ok-clause-journal_seat : goal.returns-in-Ok-clause-journal_seat
returns-in-Ok-clause-journal_seat g c = let h = c.in_ok-heap.heap in
    seats_of h (log_on g.J.Basis.base h) c.args.plan.tokens c.args.plan.callers c.in-Ok.ports.journal.items c.deal_all.new.ports.journal.items c.in-Ok.seats.journal.items (as_list c.pair_up-seats.result.journal)
    c.in-Ok.ensures.new.journal c.deal_all.ensures.same.journal c.pair_up-seats.ensures.seats.2 c.pair_up-seats.ensures.heap.2

pub returns-in-Ok-clause-rx_seats : goal.returns-in-Ok-clause-rx_seats
returns-in-Ok-clause-rx_seats g c = let h = c.in_ok-heap.heap in
    seats_of h h c.args.plan.tokens c.args.plan.callers c.in-Ok.ports.rx.items c.deal_all.new.ports.rx.items c.in-Ok.seats.rx.items c.pair_up-seats.result.rx.items
    c.in-Ok.ensures.new.rx c.deal_all.ensures.same.rx c.pair_up-seats.ensures.seats.3 c.pair_up-seats.ensures.heap.3

pub returns-in-Ok-clause-tx_seats : goal.returns-in-Ok-clause-tx_seats
returns-in-Ok-clause-tx_seats g c = let h = c.in_ok-heap.heap in
    seats_of h h c.args.plan.tokens c.args.plan.callers c.in-Ok.ports.tx.items c.deal_all.new.ports.tx.items c.in-Ok.seats.tx.items c.pair_up-seats.result.tx.items
    c.in-Ok.ensures.new.tx c.deal_all.ensures.same.tx c.pair_up-seats.ensures.seats.4 c.pair_up-seats.ensures.heap.4

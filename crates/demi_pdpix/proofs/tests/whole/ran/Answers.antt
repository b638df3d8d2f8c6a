use Rattle.std.proofs.Common.{◌≡◌, ◌∙◌, [], ◌∷◌, ◌++◌, get_or, length, refl, ap, sym, subst, arith}
use Rattle.std.specs.Prelude.{Some}
use denote.Ref.{NamedLft}
use denote.Struct.Field.{u32-field, u64-field, unit-field}
use denote.Struct.Struct.{Struct}
use denote.Struct.Declared.{shape}
use denote.Param.Send.{IsSend, IsSync, arg_send, param_send, plain_send, recorded_send, sendable, shr_send, struct_send}
use Rattle.std.proofs.Crossing.{crosses}
use Rattle.demi_memq.proofs.op.MemOp.TheSendSync.{the_send as mem_op_send}
use Rattle.demi_memq.proofs.out.MemOut.TheSendSync.{the_send as mem_out_send}
use Rattle.demi_logq.proofs.op.LogOp.TheSendSync.{the_send as log_op_send}
use Rattle.demi_logq.proofs.out.LogOut.TheSendSync.{the_send as log_out_send}
use Rattle.demi_streamq.proofs.rx_op.RxOp.TheSendSync.{the_send as rx_op_send}
use Rattle.demi_streamq.proofs.rx_out.RxOut.TheSendSync.{the_send as rx_out_send}
use Rattle.demi_streamq.proofs.tx_op.TxOp.TheSendSync.{the_send as tx_op_send}
use Rattle.demi_streamq.proofs.tx_out.TxOut.TheSendSync.{the_send as tx_out_send}
use Rattle.demi_pdpix.proofs.caller.Caller.TheSendSync.{the_send as caller_send}
use Rattle.demi_pdpix.proofs.Shareable.{demi_sync}
use Rattle.demi_pdpix.specs.contracts.demi.Demi.{the_row as demi}
use Rattle.demi_pdpix.specs.contracts.tests.doubler.UntilZero.{the_row as until_zero}
use Rattle.demi_pdpix.specs.contracts.tests.doubler.UntilZeroLaw.TheImpl.{ghosts as until_zero_law}
use Rattle.demi_pdpix.specs.contracts.tests.callers.First.{the_row as first_row, the_type as first_type}
use Rattle.demi_pdpix.specs.contracts.tests.callers.Second.{the_row as second_row, the_type as second_type}
use Rattle.demi_pdpix.specs.Owing.{AreCalm, Owes}
use Rattle.demi_pdpix.specs.Seen.{as_list}
use Rattle.demi_pdpix.proofs.TwoCallers.{back_along, only_at, only_back, set_along}
use Rattle.demi_pdpix.proofs.tests.whole.ran.Goals as goal

-- what the callers have may go to a thread: the whole is shared, and each has its own caller
demi_shared : IsSync (demi until_zero u32-field.row u64-field.row u32-field.row unit-field.row unit-field.row until_zero_law)
demi_shared = demi_sync until_zero u32-field.row u64-field.row u32-field.row unit-field.row unit-field.row until_zero_law (search plain_send) (search plain_send)

first_send : (n : NamedLft) → IsSend (first_row n)
first_send n = let t = first_type n in recorded_send (Struct (shape t)) t.D t.to t.to_one (struct_send (shape t) (
  search (sendable, crosses) depth 20,
  (shr_send _ _ _ demi_shared, (search (plain_send, caller_send) depth 10, (search sendable depth 20, (search sendable depth 20, tt)))),
))

second_send : (n : NamedLft) → IsSend (second_row n)
second_send n = let t = second_type n in recorded_send (Struct (shape t)) t.D t.to t.to_one (struct_send (shape t) (
  search (sendable, crosses) depth 20,
  (shr_send _ _ _ demi_shared, (search (plain_send, caller_send) depth 10, tt)),
))

pub seven-requires-send-F : goal.seven-requires-send-F
seven-requires-send-F g c κs within = search (param_send, arg_send, first_send) depth 6

pub seven-requires-send-G : goal.seven-requires-send-G
seven-requires-send-G g c κs within = search (param_send, arg_send, second_send) depth 6

pub seven-requires-clause-front : goal.seven-requires-clause-front
seven-requires-clause-front g c κs within = let m = c.memory_station-memory.ensures in let s = c.service_station-service.ensures in let j = c.journal_station-journal.ensures in let r = c.rx_station-rx.ensures in (
  (search (sendable, crosses, mem_op_send) depth 40, search (sendable, crosses, mem_out_send) depth 40, set_along _ _ _ _ m.1 m.0),
  (search (sendable, crosses) depth 40, search (sendable, crosses) depth 40, set_along _ _ _ _ s.1 s.0),
  (search (sendable, crosses, log_op_send) depth 40, search (sendable, crosses, log_out_send) depth 40, set_along _ _ _ _ j.1 j.0),
  (search (sendable, crosses, rx_op_send) depth 40, search (sendable, crosses, rx_out_send) depth 40, set_along _ _ _ _ r.1 r.0),
)

pub seven-requires-clause-back : goal.seven-requires-clause-back
seven-requires-clause-back g c κs within = let t = c.tx_station-tx.ensures in let first = c.begun-first.result.0 in let second = c.begun-first.result.1 in let begun = c.begun-first.ensures in (
  (search (sendable, crosses, tx_op_send) depth 40, search (sendable, crosses, tx_out_send) depth 40, set_along _ _ _ _ t.1 t.0),
  subst (λ d. Owes d 0 (first.asked ∷ first.opened ∷ []) first.caller) (sym begun.first.0) begun.first.1,
  subst (λ d. Owes d 1 [] second.caller) (sym begun.second.0) begun.second.1,
)

pub returns : goal.returns
returns g c = let d = c.args.demi.now in let seats = c.args.seats in let fit = c.requires.seats in let two = c.requires.callers.0 in let a = c.caller.result in let b = c.caller-2.result in
    let callers : c.push_reserved-2.new.self.items ≡ a ∷ b ∷ [] =
    c.push_reserved-2.ensures.items ∙ ap (λ l. l ++ b ∷ []) (c.push_reserved.ensures.items ∙ ap (λ l. l ++ a ∷ []) c.both-first.ensures.none.0) in
    let owes-a : Owes d 0 [] a = subst (Owes d 0 []) (sym c.caller.ensures) (subst (λ e. Owes e 0 [] c.seven.new.f.caller) c.begun-first.ensures.first.0 c.seven.ensures.back.1) in
    let owes-b : Owes d 1 [] b = subst (Owes d 1 []) (sym c.caller-2.ensures) (subst (λ e. Owes e 1 [] c.seven.new.g.caller) c.begun-first.ensures.second.0 c.seven.ensures.back.2) in
    let heap = c.heap-heap.ensures in let h = c.heap-heap.result.now in
    let j = c.in-Some-Some.journal_port.now in let rx = c.rx-rx_port.result.now in let tx = c.tx-tx_port.result.now in
    let rx-none = (only_at d.heap d.heap d.rx seats.rx.items c.pop.new.self.items rx c.in-Some.rx fit.rx c.rx-rx_port.ensures c.in-Some.ensures.items).0 in
    let tx-none = (only_at d.heap d.heap d.tx seats.tx.items c.pop-2.new.self.items tx c.in-Some-pop.tx fit.tx c.tx-tx_port.ensures c.in-Some-pop.ensures.items).0 in
    record {
      count = ap length callers ∙ sym two;
      calm = subst (AreCalm d 0) (sym callers) (owes-a, (owes-b, tt));
      few = (let many = ap length fit.journal.2 in omega (arith, many));
      memory = back_along h d.heap d.callers c.memory-memory_port.result.now d.memory c.memory_home-memory.result heap two c.memory-memory_port.ensures c.memory_home-memory.ensures;
      service = record {
        port_is = c.service_home-service_seat.ensures.0 ∙ c.service-service_port.ensures;
        passes = c.service_home-service_seat.ensures.1 ∙ sym two;
        heap_is = ap (λ p. p.heap) fit.service_seat.new.1;
      };
      journal = only_back d.heap h d.callers _ d.journal (as_list seats.journal) (as_list (Some c.journal_home-journal.result.0)) j c.journal_home-journal.result.0 fit.journal (sym (ap (λ l. get_or l 0 j) c.in-Some-Some.ensures.some)) heap two
          c.journal_home-journal.ensures refl;
      rx = only_back d.heap h d.callers d.heap d.rx seats.rx.items c.push_reserved-3.new.self.items rx c.rx_home-rx.result.0 fit.rx c.rx-rx_port.ensures heap two c.rx_home-rx.ensures
          (c.push_reserved-3.ensures.items ∙ ap (λ l. l ++ c.rx_home-rx.result.0 ∷ []) rx-none);
      tx = only_back d.heap h d.callers d.heap d.tx seats.tx.items c.push_reserved-4.new.self.items tx c.tx_home-tx.result.0 fit.tx c.tx-tx_port.ensures heap two c.tx_home-tx.ensures
          (c.push_reserved-4.ensures.items ∙ ap (λ l. l ++ c.tx_home-tx.result.0 ∷ []) tx-none);
    }

-- Threads may share what a whole has.
use denote.RattleType.{RattleType}
use denote.Struct.Struct.{Struct}
use denote.Struct.Declared.{shape}
use denote.Param.Send.{IsSend, IsSync, part_keyless, recorded_sync, sendable, struct_sync, view_sync}
use Rattle.std.proofs.Crossing.{crosses}
use Rattle.atomic_table.proofs.badge.Badge.TheSendSync.{the_send as badge_send}
use Rattle.demi_buf.proofs.buf.Buf.TheSendSync.{the_send as buf_send}
use Rattle.demi_heap.specs.contracts.pass.HeapPass.{the_row as heap_pass}
use Rattle.demi_port_core.specs.declared.law.Law.{Ghosts}
use Rattle.demi_port_core.proofs.view.Slip.TheSendSync.{the_send as slip_send}
use Rattle.demi_port.specs.contracts.key.Key.{the_row as key}
use Rattle.demi_bell.proofs.patience.Patience.TheSendSync.{the_sync as patience_sync}
use Rattle.std.specs.contracts.option.Option.{the_row as option}
use Rattle.atomic_table.specs.contracts.shared.Seat.{the_row as seat}
use Rattle.atomic_table.specs.contracts.badge.Badge.{the_row as badge}
use Rattle.demi_port_core.specs.contracts.view.Slip.{the_row as slip}
use Rattle.demi_port_core.specs.contracts.view.View.{the_row as view}
use Rattle.demi_port_core.specs.contracts.trail.Trail.{the_row as trail}
use Rattle.demi_port.specs.contracts.tables.SeatPair.{the_field as pair_field}
use Rattle.demi_port.specs.contracts.pass.PortPass.{the_row as port_pass}
use Rattle.demi_port.specs.contracts.end.PortEnd.{the_row as port_end}
use Rattle.demi_port.specs.contracts.pass.PortPass.TheInside.{the_row as pass_inside, the_type as pass_type}
use Rattle.demi_port.specs.contracts.end.PortEnd.TheInside.{the_row as end_inside, the_type as end_type}
use Rattle.demi_port.proofs.key.Key.TheSendSync.{the_send as key_send}
use Rattle.demi_port.proofs.port.Port.TheSendSync.{the_sync as port_sync}
use Rattle.demi_heap.proofs.heap.Heap.TheSendSync.{the_sync as heap_sync}
use Rattle.demi_bell.proofs.bells.Bells.TheSendSync.{the_send as bells_send, the_sync as bells_sync}
use Rattle.demi_memq.proofs.op.MemOp.TheSendSync.{the_send as mem_op_send}
use Rattle.demi_memq.proofs.out.MemOut.TheSendSync.{the_send as mem_out_send}
use Rattle.demi_logq.proofs.op.LogOp.TheSendSync.{the_send as log_op_send}
use Rattle.demi_logq.proofs.out.LogOut.TheSendSync.{the_send as log_out_send}
use Rattle.demi_streamq.proofs.rx_op.RxOp.TheSendSync.{the_send as rx_op_send}
use Rattle.demi_streamq.proofs.rx_out.RxOut.TheSendSync.{the_send as rx_out_send}
use Rattle.demi_streamq.proofs.tx_op.TxOp.TheSendSync.{the_send as tx_op_send}
use Rattle.demi_streamq.proofs.tx_out.TxOut.TheSendSync.{the_send as tx_out_send}
use Rattle.demi_pdpix.specs.contracts.lane.Lane.{the_row as lane}
use Rattle.demi_pdpix.specs.contracts.lane.Lane.TheInside.{the_row as lane_inside}
use Rattle.demi_pdpix.specs.contracts.demi.Demi.{the_row as demi}
use Rattle.demi_pdpix.specs.contracts.demi.Demi.TheInside.{the_row as demi_inside}
use Rattle.demi_pdpix.specs.contracts.ports.Ports.{the_type as ports_type}
use Rattle.demi_pdpix.specs.contracts.demi.Demi.TheInside.{the_type as demi_type}
use Rattle.demi_pdpix.proofs.SharedSeats.{seat_sync}

pub heap_pass_sync : IsSync heap_pass
heap_pass_sync = search (sendable, crosses, seat_sync, buf_send) depth 30

pub key_sync : (B : RattleType) → IsSync (key B)
key_sync B = record { shared = λ d b o κ q. part_keyless (key B) (key_send B) q d b o }

module _ (L P O S T B : RattleType) (p : IsSend P) (o : IsSend O) where
  one_slip_send : IsSend (slip P O (badge (trail S T)))
  one_slip_send = slip_send P O (badge (trail S T)) p o (badge_send (trail S T))

  slips_send : IsSend (option (slip P O (badge (trail S T))))
  slips_send = search (sendable, crosses, one_slip_send) depth 40

  pair_sync : IsSync (pair_field L P O S T B).row
  pair_sync = search (sendable, crosses, seat_sync, slips_send) depth 40

module _ (L P O S T B : RattleType) (g : Ghosts L.Denot P.Denot O.Denot S.Denot T.Denot B.Denot) (p : IsSend P) (o : IsSend O) where
  pass_inside_sync : IsSync (pass_inside L P O S T B g)
  pass_inside_sync = let t = pass_type L P O S T B g in recorded_sync (Struct (shape t)) t.D t.to t.to_one (struct_sync (shape t) (
    pair_sync L P O S T B p o,
    (
      search (sendable, key_sync) depth 40,
      (
        search sendable,
        (search (sendable, patience_sync) depth 40, tt),
      ),
    ),
  ))

  end_inside_sync : IsSync (end_inside L P O S T B g)
  end_inside_sync = let t = end_type L P O S T B g in recorded_sync (Struct (shape t)) t.D t.to t.to_one (struct_sync (shape t) (
    search sendable,
    (
      pair_sync L P O S T B p o,
      (search (sendable, key_sync) depth 40, tt),
    ),
  ))

  pub port_pass_sync : IsSync (port_pass L P O S T B g)
  port_pass_sync = view_sync _ _ _ _ _ pass_inside_sync

  pub port_end_sync : IsSync (port_end L P O S T B g)
  port_end_sync = view_sync _ _ _ _ _ end_inside_sync

  lane_inside_sync : IsSync (lane_inside L P O S T B g)
  lane_inside_sync = search (sendable, crosses, port_sync, port_pass_sync, p, o) depth 40

  pub lane_sync : IsSync (lane L P O S T B g)
  lane_sync = view_sync _ _ _ _ _ lane_inside_sync

module _ (L P O S T B : RattleType) (g : Ghosts L.Denot P.Denot O.Denot S.Denot T.Denot B.Denot) (p : IsSend P) (o : IsSend O) where
  ports_sync : IsSync (Struct (shape (ports_type L P O S T B g)))
  ports_sync = struct_sync (shape (ports_type L P O S T B g)) (
    search (sendable, lane_sync, mem_op_send, mem_out_send) depth 40,
    (
      search (sendable, lane_sync, p, o) depth 40,
      (
        search (sendable, crosses, lane_sync, log_op_send, log_out_send) depth 40,
        (
          search (sendable, crosses, lane_sync, rx_op_send, rx_out_send) depth 40,
          (search (sendable, crosses, lane_sync, tx_op_send, tx_out_send) depth 40, tt),
        ),
      ),
    ),
  )

  demi_inside_sync : IsSync (demi_inside L P O S T B g)
  demi_inside_sync = let t = demi_type L P O S T B g in recorded_sync (Struct (shape t)) t.D t.to t.to_one (struct_sync (shape t) (
    heap_sync,
    (
      ports_sync,
      (
        search (sendable, crosses, bells_send, bells_sync) depth 40,
        (
          search (sendable, crosses, heap_pass_sync) depth 40,
          (
            search (sendable, crosses, port_end_sync, rx_op_send, rx_out_send) depth 40,
            (
              search (sendable, crosses, port_end_sync, tx_op_send, tx_out_send) depth 40,
              (search sendable, tt),
            ),
          ),
        ),
      ),
    ),
  ))

  -- threads may share a whole
  pub demi_sync : IsSync (demi L P O S T B g)
  demi_sync = view_sync _ _ _ _ _ demi_inside_sync

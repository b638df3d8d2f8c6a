-- What works for one worker may go to a thread: the whole that it borrows is shared, and all else is its own.
use denote.Ref.{NamedLft}
use denote.Struct.Struct.{Struct}
use denote.Struct.Declared.{shape}
use denote.Enum.Enum.{Enum}
use denote.Enum.Declared.{shape as enum_shape}
use denote.Param.Send.{IsSend, enum_send, plain_send, recorded_send, sendable, shr_send, struct_send, view_send}
use Rattle.std.proofs.Crossing.{crosses}
use Rattle.arrayvec.proofs.array_vec.ArrayVec.TheSendSync.{the_send as list_send}
use Rattle.demi_port_core.proofs.place.QToken.TheSendSync.{the_send as token_send}
use Rattle.demi_store.proofs.ask.StoreAsk.TheSendSync.{the_send as ask_send}
use Rattle.demi_store.proofs.out.StoreOut.TheSendSync.{the_send as out_send}
use Rattle.demi_pdpix.proofs.caller.Caller.TheSendSync.{the_send as caller_send}
use Rattle.demi_worker.proofs.ended.Ended.TheSendSync.{the_send as ended_send}
use Rattle.demi_sched.proofs.scheduler.Scheduler.TheSendSync.{the_send as bench_send}
use Rattle.demi_link.proofs.link.Link.TheSendSync.{the_send as link_send}
use Rattle.demi_context.proofs.ContextSend.{demi_shared}
use Rattle.demi_roster.specs.contracts.hand.stage.Stage.{the_type as stage_type}
use Rattle.demi_roster.specs.contracts.hand.Hand.{the_row as hand}
use Rattle.demi_roster.specs.contracts.hand.Hand.TheInside.{the_type as hand_type}

stage_send : (n : NamedLft) → IsSend (Enum (enum_shape (stage_type n)))
stage_send n = enum_send (enum_shape (stage_type n)) (
  (search (caller_send, ask_send, out_send) depth 20, (search (sendable, crosses, token_send) depth 40, (search (bench_send, link_send) depth 8, tt))),
  (
    (search (caller_send, ask_send, out_send) depth 20, (search (list_send, ended_send, plain_send) depth 6, tt)),
    (tt, tt),
  ),
)

pub hand_send : (n : NamedLft) → IsSend (hand n)
hand_send n = view_send _ _ _ _ _ (let t = hand_type n in recorded_send (Struct (shape t)) t.D t.to t.to_one (struct_send (shape t) (
  search (sendable, crosses) depth 20,
  (shr_send _ _ _ demi_shared, (search plain_send, (search plain_send, (stage_send n, tt)))),
)))

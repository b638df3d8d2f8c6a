-- A worker's context may go to a thread: the whole that it borrows is shared, and all else is its own.
use denote.Ref.{NamedLft}
use denote.Struct.Struct.{Struct}
use denote.Struct.Declared.{shape}
use denote.Param.Send.{IsSend, IsSync, plain_send, recorded_send, sendable, shr_send, struct_send, view_send}
use Rattle.std.proofs.Crossing.{crosses}
use Rattle.std.specs.contracts.alloc.Global.{the_row as heap}
use Rattle.std.specs.contracts.collections.LinkedList.{the_row as linked_list}
use Rattle.std.specs.contracts.impls.GlobalAllocator.TheImpl.{ghosts as heap_ghosts}
use Rattle.demi_device.proofs.mark.Mark.TheSendSync.{the_send as mark_send}
use Rattle.demi_store.proofs.ask.StoreAsk.TheSendSync.{the_send as ask_send}
use Rattle.demi_store.proofs.out.StoreOut.TheSendSync.{the_send as out_send}
use Rattle.demi_store.specs.contracts.ask.StoreAsk.{the_row as ask}
use Rattle.demi_store.specs.contracts.out.StoreOut.{the_row as out}
use Rattle.demi_store.specs.contracts.told.StoreTold.{the_row as told}
use Rattle.demi_store.specs.contracts.base.StoreBase.{the_row as base}
use Rattle.demi_store.specs.contracts.law.StoreLaw.{the_row as store_law}
use Rattle.demi_store.specs.contracts.law.StoreLawLaw.TheImpl.{ghosts as store_ghosts}
use Rattle.demi_pdpix.proofs.caller.Caller.TheSendSync.{the_send as caller_send}
use Rattle.demi_pdpix.proofs.Shareable.{demi_sync}
use Rattle.demi_pdpix.specs.contracts.demi.Demi.{the_row as demi}
use Rattle.demi_sched.specs.contracts.seen.Seen.{the_row as seen}
use Rattle.demi_context.specs.contracts.context.Context.{the_row as context}
use Rattle.demi_context.specs.contracts.context.Context.TheInside.{the_type as context_type}
use Rattle.demi_context.specs.contracts.context.ledger.Ledger.{the_row as ledger}

-- threads may share a whole whose service is the store
pub demi_shared : IsSync (demi store_law ask out ask told base store_ghosts)
demi_shared = demi_sync store_law ask out ask told base store_ghosts (search (sendable, crosses, ask_send) depth 40) (search (sendable, crosses, out_send) depth 40)

pub context_send : (n : NamedLft) → IsSend (context n)
context_send n = view_send _ _ _ _ _ (let t = context_type n in recorded_send (Struct (shape t)) t.D t.to t.to_one (struct_send (shape t) (
  shr_send _ _ _ demi_shared,
  (
    search (caller_send, ask_send, out_send) depth 20,
    (search plain_send, (search plain_send, (search plain_send, (search plain_send, (mark_send (linked_list seen heap heap_ghosts), (mark_send ledger, tt)))))),
  ),
)))

use Rattle.std.proofs.Common.{◌≡◌, List, ◌++◌, length, map, reverse, vec_capacity}
use Rattle.demi_pdpix.specs.Lanes.{with_home}
use Rattle.demi_pdpix.specs.Returning.{HasReturned, journal_at, rx_at, tx_at}
use Rattle.demi_pdpix.specs.Seen.{CallerValue, heap_of, memory_of, service_of}
use Rattle.demi_pdpix.proofs.returning.return_all.Given as goal

abbrev pub invariant-loop-caller : goal.invariant-loop-caller
invariant-loop-caller g l = (gone : List (CallerValue g.row.X-Said.Denot g.row.X-Told.Denot g.row.X-Base.Denot)) × record {
  all : l.fn.callers.items ≡ gone ++ reverse l.callers.items;
  memory : l.ports.memory ≡ with_home l.initial.ports.memory (map memory_of gone);
  service : l.ports.service ≡ with_home l.initial.ports.service (map service_of gone);
  heap : l.heap.items ≡ map heap_of gone;
  room : vec_capacity l.heap ≡ vec_capacity l.initial.heap;
  journals : length l.ports.journal.items ≡ length l.initial.ports.journal.items;
  journal : HasReturned journal_at l.initial.ports.journal.items gone l.ports.journal.items;
  receiving : length l.ports.rx.items ≡ length l.initial.ports.rx.items;
  rx : HasReturned rx_at l.initial.ports.rx.items gone l.ports.rx.items;
  sending : length l.ports.tx.items ≡ length l.initial.ports.tx.items;
  tx : HasReturned tx_at l.initial.ports.tx.items gone l.ports.tx.items;
}

abbrev pub decreases-loop-caller : goal.decreases-loop-caller
decreases-loop-caller g l = length l.callers.items

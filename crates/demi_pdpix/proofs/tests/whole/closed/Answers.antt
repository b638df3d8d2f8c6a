use Rattle.demi_pdpix.proofs.Homecoming.{calm_of, home_count, home_heap, home_journal, home_memory, home_rx, home_service, home_tx}
use Rattle.demi_pdpix.proofs.tests.whole.closed.Goals as goal

pub close-requires-clause-of : goal.close-requires-clause-of
close-requires-clause-of c κs = calm_of c.args.demi 0 c.args.callers.items c.requires.calm

pub close-requires-clause-count : goal.close-requires-clause-count
close-requires-clause-count c κs = home_count c.args.demi c.args.callers.items c.args.seats c.requires

pub close-requires-clause-memory : goal.close-requires-clause-memory
close-requires-clause-memory c κs = home_memory c.args.demi c.args.callers.items c.args.seats c.requires

pub close-requires-clause-service : goal.close-requires-clause-service
close-requires-clause-service c κs = home_service c.args.demi c.args.callers.items c.args.seats c.requires

pub close-requires-clause-journal : goal.close-requires-clause-journal
close-requires-clause-journal c κs = home_journal c.args.demi c.args.callers.items c.args.seats c.requires

pub close-requires-clause-rx : goal.close-requires-clause-rx
close-requires-clause-rx c κs = home_rx c.args.demi c.args.callers.items c.args.seats c.requires

pub close-requires-clause-tx : goal.close-requires-clause-tx
close-requires-clause-tx c κs = home_tx c.args.demi c.args.callers.items c.args.seats c.requires

pub close-requires-clause-heap : goal.close-requires-clause-heap
close-requires-clause-heap c κs = home_heap c.args.demi c.args.callers.items c.args.seats c.requires

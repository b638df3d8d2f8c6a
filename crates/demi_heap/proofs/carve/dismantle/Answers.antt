use Rattle.std.proofs.Common.{List, subst}
use Rattle.demi_heap_core.specs.declared.shape.Superblock.{Superblock}
use Rattle.demi_heap.specs.Laid.{IsLaid}
use Rattle.demi_heap.proofs.carve.dismantle.Goals as goal

pub take_back-requires : goal.take_back-requires
take_back-requires c = subst (λ (rs : List Superblock). IsLaid rs c.loop-carve.row.items) c.in-Some.ensures.items c.loop-carve.invariant

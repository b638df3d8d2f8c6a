use Rattle.std.proofs.Common.{[], length, refl}
use Rattle.demi_sga.specs.Arrays.{returned_by}
use Rattle.demi_pdpix.proofs.TwoCallers.{on_heap_owes}
use Rattle.demi_pdpix.proofs.tests.callers.byte_popped.Goals as goal

pub returns : goal.returns
returns g c = let now = c.came.new.caller in
    on_heap_owes c.args.demi.now 1 [] now c.sgafree_dev.new.caller (returned_by now.heap (length c.in-Mem-Item.sga)) c.sgafree_dev.ensures.returned refl (c.came.ensures.owes 1 [] (c.popped-token.ensures.owes 1 [] c.requires))

use Rattle.std.proofs.Common.{[], ◌∷◌, length, refl}
use Rattle.demi_sga.specs.Arrays.{ended_by, loaned_by}
use Rattle.demi_pdpix.specs.Calls.{having_lent}
use Rattle.demi_pdpix.proofs.Outstanding.{owes_more}
use Rattle.demi_pdpix.proofs.TwoCallers.{heap_owes, on_heap_owes}
use Rattle.demi_pdpix.proofs.tests.callers.pushed.Goals as goal

pub returns : goal.returns
returns g c = let d = c.args.demi.now in let old = c.args.caller.now in let new = c.push.new.caller in let n = length c.args.sga in let t = c.in-Ok.token in let e = c.in-Ok.ensures in
    let owes = owes_more d 0 [] (having_lent old n) new e.of t c.args.qd.port _ e.ok.0 e.ok.2 (heap_owes d 0 [] old (loaned_by old.heap n) refl c.requires.caller) in
    c.came.ensures.owes 0 [] (on_heap_owes d 0 (t ∷ []) new c.sgafree_lent.new.caller (ended_by new.heap (length c.in-Ok.half.segments)) c.sgafree_lent.ensures.ended refl owes)

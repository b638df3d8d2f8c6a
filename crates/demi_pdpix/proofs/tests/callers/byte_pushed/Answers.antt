use Rattle.std.proofs.Common.{[]}
use Rattle.demi_pdpix.proofs.Outstanding.{owes_heap}
use Rattle.demi_pdpix.proofs.tests.callers.byte_pushed.Goals as goal

pub pushed-requires-clause-caller : goal.pushed-requires-clause-caller
pushed-requires-clause-caller g c = owes_heap c.args.demi.now 0 [] c.args.caller.now c.byte-sga.new.caller c.byte-sga.ensures.of c.byte-sga.ensures.only c.requires

use Rattle.demi_pdpix.specs.Kinds.{kind_of}
use Rattle.demi_context.proofs.ContextOwing.{scanned_owes}
use Rattle.demi_context.proofs.ContextSubmits.{long_of, scanned_same, scanned_within}
use Rattle.demi_context.proofs.context.ports.scan_at.Goals as goal

pub returns-in_default : goal.returns-in_default
returns-in_default c =
    let kind = kind_of c.args.demi.now c.args.port in
    let mask = c.args.mask.now.words in
    let bits = c.scan.result.words in
    let a = c.args.caller.now in
    let b = c.scan.new.caller in
    record {
      of = c.scan.ensures.of;
      within = scanned_within kind mask bits a b (long_of c.args.demi.now a c.args.port c.requires.of.journal) c.scan.ensures.bits;
      sides = scanned_same kind mask bits a b c.scan.ensures.bits;
      owes = scanned_owes kind mask bits a b c.scan.ensures.bits;
    }

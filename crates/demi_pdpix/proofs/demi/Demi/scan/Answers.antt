use Rattle.demi_pdpix.specs.Kinds.{kind_of}
use Rattle.demi_pdpix.proofs.Given.{scan_of_journal, scan_of_rx, scan_of_tx}
use Rattle.demi_pdpix.proofs.demi.Demi.scan.Goals as goal

pub returns-in-Journal-clause-bits : goal.returns-in-Journal-clause-bits
returns-in-Journal-clause-bits g c =
    scan_of_journal (kind_of c.args.self.now c.args.port) c.args.mask.now.words c.scan_at.result.words _ c.args.caller.now c.scan_at.new.passes.items c.in-Journal.ensures c.caller.view_is c.scan_at.ensures.bits

pub returns-in-Receiving-clause-bits : goal.returns-in-Receiving-clause-bits
returns-in-Receiving-clause-bits g c = let s = c.scan_at-in-Receiving in
    scan_of_rx c.in-Receiving.k (kind_of c.args.self.now c.args.port) c.args.mask.now.words s.result.words _ c.args.caller.now s.new.passes.items c.in-Receiving.ensures c.caller.view_is s.ensures.bits

pub returns-in-Sending-clause-bits : goal.returns-in-Sending-clause-bits
returns-in-Sending-clause-bits g c = let s = c.scan_at-in-Sending in
    scan_of_tx c.in-Sending.k (kind_of c.args.self.now c.args.port) c.args.mask.now.words s.result.words _ c.args.caller.now s.new.passes.items c.in-Sending.ensures c.caller.view_is s.ensures.bits

use Rattle.std.proofs.Common.{◌<◌, length, sym, ◌∙◌, ap, arith}
use Rattle.demi_pdpix.proofs.Columns.{as_many, at_port, changed_to, still_at}
use Rattle.demi_pdpix.specs.Notes.{Scanned}
use Rattle.demi_pdpix.proofs.at.scan_at.Goals as goal

pub index_mut-requires : goal.index_mut-requires
index_mut-requires g c = let ps = c.args.passes.now in let n = as_many ps.items c.args.lanes.now.items c.requires.ports in let k = ps.ok in let low = c.requires.place in omega (arith, n, low, k)

pub scan_port-requires-clause-port : goal.scan_port-requires-clause-port
scan_port-requires-clause-port g c κs within = let ps = c.args.passes.now.items in let ls = c.args.lanes.now.items in let p = c.index_mut.result.now in let l = c.index.result.now in
    ap (λ x. x.port) c.index_mut.ensures.value ∙ at_port ps ls c.args.k p l c.requires.ports c.requires.place ∙ sym (ap (λ x. x.port) c.index.ensures) ∙ sym (ap (λ x. x.port) c.behind-lanes.view_is)

pub returns-clause-bits : goal.returns-clause-bits
returns-clause-bits g c = let ps = c.args.passes.now.items in let ls = c.args.lanes.now.items in let p = c.index_mut.result.now in let q = c.scan_port.new.pass in
    let low : c.args.k < length ps = let n = as_many ps ls c.requires.ports in let small = c.requires.place in omega (arith, n, small) in
    changed_to (λ x y. Scanned c.args.mask.now.words c.scan_port.result.words x y) ps c.args.k p q low c.index_mut.ensures.value c.scan_port.ensures.bits

pub returns-clause-ports : goal.returns-clause-ports
returns-clause-ports g c = let ps = c.args.passes.now.items in let ls = c.args.lanes.now.items in let l = c.index.result.now in
    still_at ps ls c.args.k c.scan_port.new.pass l c.requires.ports c.requires.place (c.scan_port.ensures.port ∙ ap (λ x. x.port) c.behind-lanes.view_is ∙ ap (λ x. x.port) c.index.ensures)

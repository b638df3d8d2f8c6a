use Rattle.std.proofs.Common.{◌<◌, length, sym, ◌∙◌, ap, arith}
use Rattle.demi_pdpix.proofs.Columns.{as_many, at_port, changed_to, still_at}
use Rattle.demi_pdpix.specs.Calls.{FoundNone, Submitted}
use Rattle.demi_pdpix.proofs.at.submit_at.Goals as goal

pub index_mut-requires : goal.index_mut-requires
index_mut-requires g c = let ps = c.args.passes.now in let n = as_many ps.items c.args.lanes.now.items c.requires.ports in let k = ps.ok in let low = c.requires.place in omega (arith, n, low, k)

pub submit_to-requires-clause-port : goal.submit_to-requires-clause-port
submit_to-requires-clause-port g c κs within = let ps = c.args.passes.now.items in let ls = c.args.lanes.now.items in let p = c.index_mut.result.now in let l = c.index.result.now in
    ap (λ x. x.port) c.index_mut.ensures.value ∙ at_port ps ls c.args.k p l c.requires.ports c.requires.place ∙ sym (ap (λ x. x.port) c.index.ensures) ∙ sym (ap (λ x. x.port) c.behind-lanes.view_is)

pub returns-in-Ok-clause-ok : goal.returns-in-Ok-clause-ok
returns-in-Ok-clause-ok g c = let ps = c.args.passes.now.items in let ls = c.args.lanes.now.items in let p = c.index_mut.result.now in let q = c.submit_to.new.pass in
    let low : c.args.k < length ps = let n = as_many ps ls c.requires.ports in let small = c.requires.place in omega (arith, n, small) in
    changed_to (λ x y. Submitted x y c.in-Ok.token.0 (g.L.Law.said c.args.op)) ps c.args.k p q low c.index_mut.ensures.value (_, c.in-Ok.ensures.ok)

pub returns-in-Ok-clause-ports : goal.returns-in-Ok-clause-ports
returns-in-Ok-clause-ports g c = let ps = c.args.passes.now.items in let ls = c.args.lanes.now.items in let l = c.index.result.now in
    still_at ps ls c.args.k c.submit_to.new.pass l c.requires.ports c.requires.place (c.in-Ok.ensures.port ∙ ap (λ x. x.port) c.behind-lanes.view_is ∙ ap (λ x. x.port) c.index.ensures)

pub returns-in-Err-clause-full : goal.returns-in-Err-clause-full
returns-in-Err-clause-full g c = let ps = c.args.passes.now.items in let ls = c.args.lanes.now.items in let p = c.index_mut.result.now in let q = c.submit_to.new.pass in
    let low : c.args.k < length ps = let n = as_many ps ls c.requires.ports in let small = c.requires.place in omega (arith, n, small) in
    (c.in-Err.ensures.full.0, changed_to FoundNone ps c.args.k p q low c.index_mut.ensures.value c.in-Err.ensures.full.1)

pub returns-in-Err-clause-ports : goal.returns-in-Err-clause-ports
returns-in-Err-clause-ports g c = let ps = c.args.passes.now.items in let ls = c.args.lanes.now.items in let l = c.index.result.now in
    still_at ps ls c.args.k c.submit_to.new.pass l c.requires.ports c.requires.place (c.in-Err.ensures.port ∙ ap (λ x. x.port) c.behind-lanes.view_is ∙ ap (λ x. x.port) c.index.ensures)

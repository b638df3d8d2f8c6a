use Rattle.std.proofs.Common.{◌≡◌, ◌<◌, add-one, length, get_or, set, sym, ◌∙◌, ap, arith}
use Rattle.demi_pdpix.proofs.Columns.{as_many, at_port}
use Rattle.demi_pdpix.proofs.Learning.{learnt_all, learnt_at, learnt_many, learnt_next, learnt_to, noted_all, noted_at, noted_many, noted_next, noted_to}
use Rattle.demi_pdpix.proofs.at.learn_each.Goals as goal

pub index_mut-requires : goal.index_mut-requires
index_mut-requires g c = let ps = c.args.passes.now.items in let qs = c.args.from.now.items in let now = c.loop-k.passes in
    let a = as_many ps c.args.lanes.now.items c.requires.passes in let b = learnt_many c.loop-k.k ps qs in let e = ap length c.loop-k.invariant.passes in let l = c.args.lanes.now in
    omega (arith, a, b, e, now.ok, l.ok)

pub index_mut-requires-in-loop-k : goal.index_mut-requires-in-loop-k
index_mut-requires-in-loop-k g c = let qs = c.args.from.now.items in let now = c.loop-k.from in
    let a = as_many qs c.args.lanes.now.items c.requires.from in let b = noted_many c.loop-k.k qs in let e = ap length c.loop-k.invariant.from in let l = c.args.lanes.now in
    omega (arith, a, b, e, now.ok, l.ok)

pub learn_port-requires-clause-port : goal.learn_port-requires-clause-port
learn_port-requires-clause-port g c κs within =
    let ps = c.args.passes.now.items in let qs = c.args.from.now.items in let ls = c.args.lanes.now.items in let l = c.index.result.now in let p = c.index_mut.result.now in let q = c.index_mut-in-loop-k.result.now in let k = c.loop-k.k in
    let low : k < length ls = let v = c.args.lanes.now in omega (arith, v.ok) in
    let here = sym (ap (λ x. x.port) c.index.ensures) ∙ sym (ap (λ x. x.port) c.behind-lanes.view_is) in (
      ap (λ x. x.port) (c.index_mut.ensures.value ∙ ap (λ xs. get_or xs k p) c.loop-k.invariant.passes ∙ learnt_at k ps qs p) ∙ at_port ps ls k p l c.requires.passes low ∙ here,
      ap (λ x. x.port) (c.index_mut-in-loop-k.ensures.value ∙ ap (λ xs. get_or xs k q) c.loop-k.invariant.from ∙ noted_at k qs q) ∙ at_port qs ls k q l c.requires.from low ∙ here,
    )

pub loop-k-preserved : goal.loop-k-preserved
loop-k-preserved g c =
    let ps = c.args.passes.now.items in let qs = c.args.from.now.items in let ls = c.args.lanes.now.items in let p = c.index_mut.result.now in let q = c.index_mut-in-loop-k.result.now in let k = c.loop-k.k in
    let low : k < length ps = let v = c.args.lanes.now in let n = as_many ps ls c.requires.passes in omega (arith, v.ok, n) in
    let down : k < length qs = let v = c.args.lanes.now in let n = as_many qs ls c.requires.from in omega (arith, v.ok, n) in
    let at : p ≡ get_or ps k p = c.index_mut.ensures.value ∙ ap (λ xs. get_or xs k p) c.loop-k.invariant.passes ∙ learnt_at k ps qs p in
    let there : q ≡ get_or qs k q = c.index_mut-in-loop-k.ensures.value ∙ ap (λ xs. get_or xs k q) c.loop-k.invariant.from ∙ noted_at k qs q in record {
      passes = rw add-one (ap (λ xs. set xs k c.learn_port.new.pass) c.loop-k.invariant.passes ∙ ap (set (learnt_to k ps qs) k) c.learn_port.ensures.pass ∙ learnt_next k ps qs p q low down at there);
      from = rw add-one (ap (λ xs. set xs k c.learn_port.new.from) c.loop-k.invariant.from ∙ ap (set (noted_to k qs) k) c.learn_port.ensures.from ∙ noted_next k qs q down there);
    }

pub returns-clause-passes : goal.returns-clause-passes
returns-clause-passes g c =
    let ps = c.args.passes.now.items in let qs = c.args.from.now.items in
    let end : c.loop-k.k ≡ length ps = let v = c.args.lanes.now in let n = as_many ps c.args.lanes.now.items c.requires.passes in omega (arith, v.ok, n) in
    c.loop-k.invariant.passes ∙ ap (λ n. learnt_to n ps qs) end ∙ learnt_all ps qs

pub returns-clause-from : goal.returns-clause-from
returns-clause-from g c =
    let qs = c.args.from.now.items in
    let end : c.loop-k.k ≡ length qs = let v = c.args.lanes.now in let n = as_many qs c.args.lanes.now.items c.requires.from in omega (arith, v.ok, n) in
    c.loop-k.invariant.from ∙ ap (λ n. noted_to n qs) end ∙ noted_all qs

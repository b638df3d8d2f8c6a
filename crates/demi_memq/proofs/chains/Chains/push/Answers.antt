use Rattle.std.proofs.Common.{◌≡◌, ◌<◌, ◌++◌, [], ◌∷◌, length, length-append, length-set, set, get_or, ap, sym, ◌∙◌, subst, arith}
use Rattle.demi_memq.specs.Chains.{ChainsHold}
use Rattle.demi_memq.proofs.Lists.{got_any}
use Rattle.demi_memq.proofs.Chaining.{few_held, holds_push, free_cut}
use Rattle.demi_memq.proofs.chains.Chains.push.Goals as goal

pub put_last-requires : goal.put_last-requires
put_last-requires g c =
    let s = c.self.inside in let q = c.args.q in let view = ap (λ v. v.queues) c.self.view_is in let queue = c.requires.queue in
    let lt : q < length s.chains.items = omega arith in let e = ap length (c.index_mut.ensures.value ∙ got_any s.chains.items q c.index_mut.result.now [] lt) in
    let few = few_held q s.order.value s.chains.items c.self.invariant.0 in let total = c.self.invariant.2 in let n = ap length c.exchange.ensures.new in omega arith

pub invariant_of-self : goal.invariant_of-self
invariant_of-self g c =
    let s = c.self.inside in let q = c.args.q in let view = ap (λ v. v.queues) c.self.view_is in let queue = c.requires.queue in
    let lt : q < length s.chains.items = omega arith in let e = c.index_mut.ensures.value ∙ got_any s.chains.items q c.index_mut.result.now [] lt in
    let free = free_cut c.exchange.result c.in-Some.node s.free c.cut_first.new.nodes c.in-Some.ensures.first c.exchange.ensures.old c.self.invariant.1 in
    let total = c.self.invariant.2 in let width = c.self.invariant.3 in let wide = length-set s.chains.items q c.put_last.new.nodes in let more = ap length c.came-order.ensures in let one = length-append s.order.value ((q, c.args.item) ∷ []) in
    let cut = ap length c.in-Some.ensures.first in let parts = length-append c.in-Some.node c.cut_first.new.nodes in let node = c.in-Some.ensures.one in (
      subst (λ l. ChainsHold l (set s.chains.items q c.put_last.new.nodes)) (sym c.came-order.ensures)
          (holds_push q c.args.item s.order.value s.chains.items c.put_last.new.nodes c.self.invariant.0 lt
          (c.put_last.ensures ∙ ap (λ l. l ++ c.exchange.new.node) e ∙ ap (λ n. get_or s.chains.items q [] ++ n) c.exchange.ensures.new)),
      free.1,
      omega arith,
      omega arith,
    )

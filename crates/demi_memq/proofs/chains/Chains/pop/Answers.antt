use Rattle.std.proofs.Common.{◌≡◌, ◌+◌, ◌<◌, ◌++◌, [], ◌∷◌, length, length-append, length-set, set, get_or, ap, sym, ◌∙◌, subst, refl, arith}
use Rattle.std.specs.Prelude.{IfNone, IfSome, Option, Some, None}
use Rattle.demi_memq.specs.Chains.{AllFree, ChainsHold}
use Rattle.demi_memq.specs.Counting.{beside}
use Rattle.demi_memq.specs.Rooms.{rest}
use Rattle.demi_memq.proofs.Lists.{got_any}
use Rattle.demi_memq.proofs.Chaining.{Popped, holds_pop, none_first}
use Rattle.demi_memq.proofs.chains.Chains.pop.Goals as goal

pub returns-in_err-node-clause-none : goal.returns-in_err-node-clause-none
returns-in_err-node-clause-none g c =
    let s = c.self.inside in let q = c.args.q in let view = ap (λ v. v.queues) c.self.view_is in let queue = c.requires in
    let lt : q < length s.chains.items = omega arith in let e = c.index_mut.ensures.value ∙ got_any s.chains.items q c.index_mut.result.now [] lt in
    subst (λ o. IfNone o (beside q c.args.self.now.items ≡ [])) (sym c.from_residual.ensures)
    (ap (λ v. beside q v.items) (sym c.self.view_is) ∙ none_first q s.order.value s.chains.items c.self.invariant.0 (sym e ∙ c.in_err-node.ensures.none.0))

not_none : {T : Type 0} (P : Type 0) (o : Option T) (x : T) → o ≡ Some x → IfNone o P
not_none P (Some y) x e = tt
not_none P None x e = absurd (cc)

at : (g : Rattle.demi_memq.proofs.chains.Chains.pop.Given.Over) (c : goal.After-drop-self-inside g) → c.args.q < length c.self.inside.chains.items
at g c = let view = ap (λ v. v.queues) c.self.view_is in let queue = c.requires in omega arith

popped : (g : Rattle.demi_memq.proofs.chains.Chains.pop.Given.Over) (c : goal.After-drop-self-inside g)
    → Popped c.args.q c.exchange-item.result c.cut_first.new.nodes c.self.inside.order.value c.self.inside.chains.items
popped g c =
    let s = c.self.inside in let q = c.args.q in let lt = at g c in
    holds_pop q c.exchange-item.result c.cut_first.new.nodes s.order.value s.chains.items c.self.invariant.0 lt
    (sym (c.index_mut.ensures.value ∙ got_any s.chains.items q c.index_mut.result.now [] lt) ∙ c.in_ok-node.ensures.first ∙ ap (λ n. n ++ c.cut_first.new.nodes) c.exchange-item.ensures.old)

pub invariant_of-self-2 : goal.invariant_of-self-2
invariant_of-self-2 g c =
    let s = c.self.inside in let q = c.args.q in let hp = popped g c in
    let total = c.self.invariant.2 in let width = c.self.invariant.3 in let wide = length-set s.chains.items q c.cut_first.new.nodes in let less = ap length c.went.ensures in let shorter = hp.3 in
    let back = ap length c.put_first.ensures in let parts = length-append c.exchange-item.new.node s.free in let node = ap length c.exchange-item.ensures.new in (
      subst (λ l. ChainsHold l (set s.chains.items q c.cut_first.new.nodes)) (sym c.went.ensures) hp.4,
      subst AllFree (sym (c.put_first.ensures ∙ ap (λ n. n ++ s.free) c.exchange-item.ensures.new)) (refl, c.self.invariant.1),
      omega arith,
      omega arith,
    )

pub returns-clause-none : goal.returns-clause-none
returns-clause-none g c = let hp = popped g c in not_none _ c.exchange-item.result hp.0 hp.1

pub returns-clause-same : goal.returns-clause-same
returns-clause-same g c = let hp = popped g c in not_none _ c.exchange-item.result hp.0 hp.1

pub returns-clause-first : goal.returns-clause-first
returns-clause-first g c =
    let hp = popped g c in let q = c.args.q in
    subst (λ o. IfSome o (λ x. beside q c.args.self.now.items ≡ x ∷ beside q c.went.result.value)) (sym hp.1)
    (ap (λ v. beside q v.items) (sym c.self.view_is) ∙ hp.2 ∙ ap (λ l. hp.0 ∷ beside q l) (sym c.went.ensures))

pub returns-clause-rest : goal.returns-clause-rest
returns-clause-rest g c = subst (λ o. IfSome o (λ x. c.went.result.value ≡ rest c.args.q c.args.self.now.items)) (sym (popped g c).1)
    (c.went.ensures ∙ ap (λ v. rest c.args.q v.items) c.self.view_is)

pub returns-clause-room : goal.returns-clause-room
returns-clause-room g c =
    let s = c.self.inside in let q = c.args.q in let hp = popped g c in
    let less = ap length c.went.ensures in let shorter = hp.3 in let view = ap (λ v. v.room) c.self.view_is in
    let back = ap length c.put_first.ensures in let parts = length-append c.exchange-item.new.node s.free in let node = ap length c.exchange-item.ensures.new in
    (length-set s.chains.items q c.cut_first.new.nodes ∙ ap (λ v. v.queues) c.self.view_is, omega arith)

pub returns-clause-less : goal.returns-clause-less
returns-clause-less g c =
    let hp = popped g c in let less = ap length c.went.ensures in let shorter = hp.3 in let view = ap (λ v. length v.items) c.self.view_is in
    subst (λ o. IfSome o (λ x. length c.went.result.value + 1 ≡ length c.args.self.now.items)) (sym hp.1) (omega arith)

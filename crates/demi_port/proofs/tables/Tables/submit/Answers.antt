use Rattle.std.proofs.Common.{rules, ℕ, List, refl, ap, sym, subst, ◌∙◌}
use Rattle.demi_port_core.specs.History.{Among}
use Rattle.demi_port_core.proofs.Sights.{later_more, missed_next}
use Rattle.demi_port.proofs.tables.Tables.submit.Goals as goal

pub loop-index-preserved : goal.loop-index-preserved
loop-index-preserved g c = let v = c.loop-index.invariant in let lost = c.in_default-try_token.ensures.lost in record {
  port = search rules;
  beside = c.try_token-in-loop-index.ensures.port.1 ∙ v.beside;
  bare = lost.2 ∙ v.bare;
  later = later_more _ _ _ v.later lost.0;
  missed = missed_next _ _ _ _ v.later lost.0 lost.1 v.missed;
  slip = search rules;
}

pub returns-in-Some-clause-fresh : goal.returns-in-Some-clause-fresh
returns-in-Some-clause-fresh g c q d among = let won = c.in-Some.ensures.won c.args.op refl in let D = g.row.L-Said.Denot in
    let mine = ap (λ v. v.mine) won.2 ∙ ap (λ v. v.mine) won.1.0 in
    c.give.ensures.fresh q d (subst (λ (z : ℕ × List (ℕ × (ℕ × D))). Among (q, (z.0, d)) z.1) (λ k. (c.give.ensures.token k, sym mine k)) among)

pub returns-in-Some-try_token-clause-fresh : goal.returns-in-Some-try_token-clause-fresh
returns-in-Some-try_token-clause-fresh g c q d among = let inv = c.loop-index.invariant in let won = c.in-Some-try_token.ensures.won c.args.op inv.slip in let D = g.row.L-Said.Denot in
    let mine = ap (λ v. v.mine) won.2 ∙ ap (λ v. v.mine) won.1.0 ∙ ap (λ v. v.mine) inv.later.0 in
    c.give-in-Some-try_token.ensures.fresh q d (subst (λ (z : ℕ × List (ℕ × (ℕ × D))). Among (q, (z.0, d)) z.1) (λ k. (c.give-in-Some-try_token.ensures.token k, sym mine k)) among)

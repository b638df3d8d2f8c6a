use Rattle.std.proofs.Common.{ℕ, ap, sym, subst}
use Rattle.demi_port_core.specs.History.{Among}
use Rattle.demi_port_core.specs.Phases.{token_of}
use Rattle.demi_port.proofs.tables.Tables.give.Goals as goal

pub returns-clause-fresh : goal.returns-clause-fresh
returns-clause-fresh g c q d among = let is = c.requires.held.1 in
    c.draw-place.ensures.fresh q d (subst (λ (z : ℕ × ℕ). Among (q, (token_of z.0 z.1, d)) c.args.pass.now.seat.me.0.mine) (λ k. (ap (λ v. v.round) (sym is) k, ap (λ v. v.index) (sym is) k)) among)

use Rattle.std.proofs.Common.{sym, subst, arith}
use Rattle.demi_audit.specs.Turns.{IsTable, greatest_below, greatest_at}
use Rattle.demi_audit.proofs.Raising.{spliced}
use Rattle.demi_audit.proofs.ahead.find_ahead.Goals as goal

pub returns-clause-table : goal.returns-clause-table
returns-clause-table c =
    let p = c.args.places.now in
    let heard = c.args.heard.now in
    let old = c.in_ok-table.table.items in
    let new = c.raise_each.new.table in
    let e = spliced new old c.in_ok-table.table.len (omega (arith, c.raise_each.auto.table, c.deref_mut.ensures.len, c.in_ok-table.table.ok)) (omega (arith, c.in_ok-table.table.ok)) in
    subst (IsTable p (greatest_below heard)) (sym e)
    (c.raise_each.ensures (λ w s. greatest_at w s heard) (subst (IsTable p (λ w s. greatest_at w s heard)) (sym c.deref_mut.ensures.value) c.in_ok-table.ensures.table))

use Rattle.std.proofs.Common.{sym, subst}
use Rattle.demi_pdpix.specs.Owing.{IsDueAt, due_at}
use Rattle.demi_pdpix.proofs.Outstanding.{all_busy_due}
use Rattle.demi_pdpix.proofs.tests.redeeming.none_has_come.Goals as goal

pub returns : goal.returns
returns g c = let d = c.args.demi.now in let ts = c.args.tokens.now in (
  c.in-NotYet.ensures.of,
  all_busy_due d ts 0 (due_at d ts) c.try_wait_any.new.caller c.try_wait_any-2.new.caller c.in-NotYet.ensures.tried.1 (subst (IsDueAt 0 (due_at d ts)) (sym c.in-NoTokens.ensures.tried.1) c.requires.1),
)

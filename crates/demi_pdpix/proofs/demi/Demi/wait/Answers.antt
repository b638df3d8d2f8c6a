use Rattle.std.proofs.Common.{suc, replicate, sym, subst}
use Rattle.demi_pdpix.specs.Seen.{CallerValue, IsOf}
use Rattle.demi_pdpix.specs.Tries.{AllBusy, Waited}
use Rattle.demi_pdpix.proofs.StillBusy.{busy_of, busy_snoc, replicate_snoc}
use Rattle.demi_pdpix.proofs.demi.Demi.wait.Goals as goal

pub loop-preserved : goal.loop-preserved
loop-preserved g c = let v = c.loop.invariant in let n = v.0 in let d = c.args.self.now in let t = c.args.token in (
  suc n,
  subst (IsOf d) (sym c.park.ensures) c.try_wait.ensures.of,
  subst (λ (e : CallerValue _ _ _). AllBusy d (replicate (suc n) t) c.args.caller.now e) (sym c.park.ensures)
      (subst (λ ts. AllBusy d ts c.args.caller.now c.try_wait.new.caller) (replicate_snoc n t)
      (busy_snoc d (replicate n t) t c.args.caller.now c.loop.caller c.try_wait.new.caller v.2
      (busy_of g.X.Law.admits d t c.loop.caller c.try_wait.new.caller c.try_wait.result c.in-NotYet.is c.try_wait.ensures.tried))),
)

pub returns-in_default : goal.returns-in_default
returns-in_default g c = let v = c.loop.invariant in let d = c.args.self.now in record {
  of = subst (IsOf d) (sym c.busy.ensures) c.try_wait.ensures.of;
  waited = subst (λ (e : CallerValue _ _ _). Waited g.X.Law.admits d c.args.token c.args.caller.now e c.try_wait.result) (sym c.busy.ensures)
      (v.0, c.loop.caller, v.2, c.try_wait.ensures.tried, c.in_default.not-NotYet);
}

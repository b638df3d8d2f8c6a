use Rattle.std.proofs.Common.{suc, sym, subst}
use Rattle.demi_pdpix.specs.Several.{TriedAny, WaitedAny, rounds}
use Rattle.demi_pdpix.specs.Seen.{CallerValue, IsOf}
use Rattle.demi_pdpix.specs.Tries.{AllBusy}
use Rattle.demi_pdpix.proofs.StillBusy.{busy_append, rounds_snoc}
use Rattle.demi_pdpix.proofs.demi.Demi.wait_any.Goals as goal

pub loop-preserved : goal.loop-preserved
loop-preserved g c = let v = c.loop.invariant in let n = v.0 in let d = c.args.self.now in let ts = c.args.tokens.now in
    let round = subst (TriedAny g.X.Law.admits d ts c.loop.caller c.try_wait_any.new.caller) c.in-NotYet.is c.try_wait_any.ensures.tried in (
      suc n,
      subst (IsOf d) (sym c.park.ensures) c.try_wait_any.ensures.of,
      subst (λ (e : CallerValue _ _ _). AllBusy d (rounds (suc n) ts) c.args.caller.now e) (sym c.park.ensures)
          (subst (λ us. AllBusy d us c.args.caller.now c.try_wait_any.new.caller) (rounds_snoc n ts)
          (busy_append d (rounds n ts) ts c.args.caller.now c.loop.caller c.try_wait_any.new.caller v.2 round.1)),
    )

pub returns-in_default : goal.returns-in_default
returns-in_default g c = let v = c.loop.invariant in let d = c.args.self.now in record {
  of = subst (IsOf d) (sym c.busy.ensures) c.try_wait_any.ensures.of;
  waited = subst (λ (e : CallerValue _ _ _). WaitedAny g.X.Law.admits d c.args.tokens.now c.args.caller.now e c.try_wait_any.result) (sym c.busy.ensures)
      (v.0, c.loop.caller, v.2, c.try_wait_any.ensures.tried, c.in_default.not-NotYet);
}

use Rattle.std.proofs.Common.{◌≡◌, arith, subst}
use Rattle.demi_sharing.specs.Acting.{Pushes}
use Rattle.demi_sharing.proofs.Dealt.{no_pushes, pushes_more}
use Rattle.demi_sharing.proofs.dealing.push_all.Goals as goal

pub loop-number-init : goal.loop-number-init
loop-number-init g c = record { of = c.requires; pushed = no_pushes c.args.caller.now }

pub loop-number-preserved : goal.loop-number-preserved
loop-number-preserved g c = record {
  of = c.push_number.ensures.of;
  pushed = pushes_more c.loop-number.number c.args.caller.now c.loop-number.caller c.push_number.new.caller c.loop-number.invariant.pushed c.push_number.ensures.pushed;
}

pub returns-clause-pushed : goal.returns-clause-pushed
returns-clause-pushed g c =
    let t = c.loop-number-test.false in
    let u = c.loop-number.auto.number-end in
    let same : c.loop-number.number ≡ c.args.links = omega arith in
    subst (λ k. Pushes k c.args.caller.now c.loop-number.caller) same c.loop-number.invariant.pushed

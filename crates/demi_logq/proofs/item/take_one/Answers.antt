use Rattle.std.proofs.Common.{ℕ, subst, refl}
use Rattle.demi_logq.specs.Items.{FoundNone}
use Rattle.demi_logq.proofs.Segments.{none_for_one}
use Rattle.demi_logq.proofs.item.take_one.Goals as goal

pub returns-in_default-clause-took : goal.returns-in_default-clause-took
returns-in_default-clause-took g c =
    let a = c.args.pass.now in let now = c.claim_for.new.pass in let none = c.in_default.ensures.none in (
      none.0,
      λ payloads h. subst (λ (n : ℕ). FoundNone a now n) (c.requires.size payloads h) (none_for_one a now c.args.size c.requires.few none.1),
      refl,
    )

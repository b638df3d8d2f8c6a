use Rattle.std.proofs.Common.{ℕ, ◌-◌, subst, refl}
use Rattle.demi_logq.specs.Items.{Accounts, FoundNone}
use Rattle.demi_logq.proofs.Passing.{accounts_freed, accounts_on, found_freed, found_later}
use Rattle.demi_logq.proofs.Segments.{none_for_first, none_for_rest}
use Rattle.demi_logq.proofs.item.take_two.Goals as goal

pub returns-in_default-clause-took : goal.returns-in_default-clause-took
returns-in_default-clause-took g c =
    let a = c.args.pass.now in let now = c.claim_for.new.pass in let none = c.in_default.ensures.none in (
      none.0,
      λ payloads h. subst (λ (n : ℕ). FoundNone a now n) (c.requires.size payloads h) (none_for_first a now c.args.size c.requires.many.0 none.1),
      refl,
    )

pub returns-in_default-claim_for-clause-took : goal.returns-in_default-claim_for-clause-took
returns-in_default-claim_for-clause-took g c =
    let a = c.args.pass.now in let one = c.claim_for.new.pass in let two = c.claim_for-2.new.pass in let last = c.free_app.new.pass in
    let first = c.in-Ok.ensures.ok in let second = c.in_default-claim_for.ensures.none in
    let both : Accounts a two 0 1 = accounts_on a one two 0 1 0 0 first second.0 in (
      accounts_freed a two last 0 0 both c.free_app.ensures,
      λ payloads h. subst (λ (n : ℕ). FoundNone a last n) (c.requires.size payloads h)
          (none_for_rest a last c.args.size c.requires.many.0 (found_freed a two last (c.args.size - 65536) (found_later a one two 0 1 (c.args.size - 65536) first second.1) c.free_app.ensures)),
      refl,
    )

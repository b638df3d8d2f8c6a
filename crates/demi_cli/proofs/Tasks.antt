-- What words ask for, by the command that they are.
use Rattle.std.proofs.Common.{◌≡◌, List, ℕ, Option, Some, None, Bool, true, false, refl, ap, sym, ◌∙◌, subst}
use Rattle.std.specs.Prelude.{Result, Ok, Err, IfOk}
use Rattle.demi_words.specs.Commands as plain
use Rattle.demi_words.specs.Commands.{command_of, IsInRange}
use Rattle.demi_words.specs.Plain.{plain_of}
use Rattle.demi_words.specs.declared.command.Command.{Command}
use Rattle.demi_cli.specs.declared.task.Task.{Task}
use Rattle.demi_cli.specs.declared.task.Task.TheVariants as task
use Rattle.demi_cli.specs.Words.{AsksFor, Does, pipes, checks, lists, comes_later, name_in, limit_in}

pub asks_for : (words : List (List ℕ)) (c : Command) (t : Task) → command_of words ≡ Some (plain_of c) → IsInRange (plain_of c) → Does c t → AsksFor words t
asks_for words c (task.Pipe limit name) is range does =
    let e : command_of words ≡ Some (plain.Pipe limit name.now) = is ∙ ap Some does in
    (ap pipes e, sym (ap name_in e), sym (ap limit_in e), subst IsInRange does range)
asks_for words c (task.Check name) is range does =
    let e : command_of words ≡ Some (plain.Check name.now) = is ∙ ap Some does in
    (ap checks e, sym (ap name_in e))
asks_for words c (task.Log name) is range does =
    let e : command_of words ≡ Some (plain.Log name.now) = is ∙ ap Some does in
    (ap lists e, sym (ap name_in e))
asks_for words c task.Later is range does = ap comes_later is ∙ does

-- words are those of one command alone
pub pipe_only : (c : Option plain.Command) → pipes c ≡ true → (checks c ≡ false) × (lists c ≡ false) × (comes_later c ≡ false)
pipe_only (Some (plain.Pipe limit log)) e = (refl, refl, refl)
pipe_only (Some (plain.Serve links workers limit address log)) e = absurd (cc)
pipe_only (Some (plain.Bench links workers count seed keep)) e = absurd (cc)
pipe_only (Some (plain.Check name)) e = absurd (cc)
pipe_only (Some (plain.Log name)) e = absurd (cc)
pipe_only None e = absurd (cc)

pub check_only : (c : Option plain.Command) → checks c ≡ true → (pipes c ≡ false) × (lists c ≡ false) × (comes_later c ≡ false)
check_only (Some (plain.Check name)) e = (refl, refl, refl)
check_only (Some (plain.Serve links workers limit address log)) e = absurd (cc)
check_only (Some (plain.Bench links workers count seed keep)) e = absurd (cc)
check_only (Some (plain.Pipe limit log)) e = absurd (cc)
check_only (Some (plain.Log name)) e = absurd (cc)
check_only None e = absurd (cc)

pub log_only : (c : Option plain.Command) → lists c ≡ true → (pipes c ≡ false) × (checks c ≡ false) × (comes_later c ≡ false)
log_only (Some (plain.Log name)) e = (refl, refl, refl)
log_only (Some (plain.Serve links workers limit address log)) e = absurd (cc)
log_only (Some (plain.Bench links workers count seed keep)) e = absurd (cc)
log_only (Some (plain.Pipe limit log)) e = absurd (cc)
log_only (Some (plain.Check name)) e = absurd (cc)
log_only None e = absurd (cc)

pub later_only : (c : Option plain.Command) → comes_later c ≡ true → (pipes c ≡ false) × (checks c ≡ false) × (lists c ≡ false)
later_only (Some (plain.Serve links workers limit address log)) e = (refl, refl, refl)
later_only (Some (plain.Bench links workers count seed keep)) e = (refl, refl, refl)
later_only (Some (plain.Pipe limit log)) e = absurd (cc)
later_only (Some (plain.Check name)) e = absurd (cc)
later_only (Some (plain.Log name)) e = absurd (cc)
later_only None e = absurd (cc)

pub none_only : (c : Option plain.Command) → c ≡ None → (pipes c ≡ false) × (checks c ≡ false) × (lists c ≡ false) × (comes_later c ≡ false)
none_only None e = (refl, refl, refl, refl)
none_only (Some x) e = absurd (cc)

pub not_both : {b : Bool} → b ≡ true → b ≡ false → ⊥
not_both is other = let e : true ≡ false = sym is ∙ other in cc

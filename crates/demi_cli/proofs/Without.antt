-- What is said of a run in which no session ran, outcome by outcome.
use Rattle.std.proofs.Common.{◌≡◌, ◌⊎◌, List, ℕ, Some, None, ap, ◌∙◌, inl, inr}
use Rattle.demi_core.specs.World.{WorldState, Link, Log}
use Rattle.demi_link.specs.declared.phase.Cause.TheVariants as cause
use Rattle.demi_cli.specs.Ended.{NotMade, RanWithout, Refusal, Unlinked, Unopened, Without}
use Rattle.demi_cli.specs.Given.{Gave, A_log, Nothing, KeepsAll, LinkUnused, LogOf, SameButWarned}
use Rattle.demi_cli.specs.Outcome.{reported}
use Rattle.demi_cli.specs.Run.{BadLater, BadLog, CannotOpen, LogFaulted, Unserved}
use Rattle.demi_cli.specs.declared.outcome.Outcome.{Outcome}
use Rattle.demi_cli.specs.declared.outcome.Outcome.TheVariants as outcome
use Rattle.demi_cli.proofs.Clauses.{link_of, log_of, mid_warned, no_link, nothing, same_but, warned_of}
use Rattle.demi_server.proofs.Opens.{opened_part}

-- what an outcome says where no session ran
abbrev pub SaysOf : Outcome → WorldState → WorldState → List ℕ → ℕ → ℕ → Type 0
SaysOf (outcome.BadLog at) old new name f0 f1 = BadLog old new name ⊎ BadLater old new name
SaysOf outcome.LogFault old new name f0 f1 = LogFaulted old new name × Unserved cause.LogFault old new name
SaysOf outcome.NoMemory old new name f0 f1 = Unserved cause.NoMemory old new name
SaysOf outcome.CannotOpen old new name f0 f1 = CannotOpen old new name f0 f1
SaysOf other old new name f0 f1 = ⊥

-- the last warning is that of the outcome
abbrev Text : Outcome → WorldState → WorldState → Type 0
Text o old new = new.warned ≡ (reported o old).warned

no_log : (o : Outcome) (old mid new : WorldState) (name : List ℕ) (f0 f1 : ℕ) → KeepsAll Nothing name old mid → SameButWarned mid new → Refusal o f0 f1 → SaysOf o old new name f0 f1
no_log outcome.CannotOpen old mid new name f0 f1 keeps same why = let n = nothing old mid new name keeps same in (why, n.0, inl n.1)
no_log outcome.NoMemory old mid new name f0 f1 keeps same why = let n = nothing old mid new name keeps same in (inl n.0, inl n.1)
no_log (outcome.BadLog at) old mid new name f0 f1 keeps same why = absurd why
no_log outcome.LogFault old mid new name f0 f1 keeps same why = absurd why
no_log outcome.Done old mid new name f0 f1 keeps same why = absurd why
no_log outcome.Usage old mid new name f0 f1 keeps same why = absurd why
no_log outcome.NotYet old mid new name f0 f1 keeps same why = absurd why
no_log (outcome.BadReply link index) old mid new name f0 f1 keeps same why = absurd why
no_log (outcome.BadEntry version) old mid new name f0 f1 keeps same why = absurd why
no_log outcome.ReadFault old mid new name f0 f1 keeps same why = absurd why
no_log outcome.WriteFault old mid new name f0 f1 keeps same why = absurd why
no_log outcome.PrintFault old mid new name f0 f1 keeps same why = absurd why
no_log (outcome.Refused code) old mid new name f0 f1 keeps same why = absurd why

unopened : (o : Outcome) (old mid new : WorldState) (name : List ℕ) (log kept : Log) (f0 f1 : ℕ) → KeepsAll (A_log log kept None) name old mid → SameButWarned mid new → Text o old new → Unopened o log kept → SaysOf o old new name f0 f1
unopened (outcome.BadLog at) old mid new name log kept f0 f1 keeps same text why =
    inl (no_link old mid new name log kept keeps same, (log_of old mid new name log kept None keeps same, (at, why, text)))
unopened outcome.LogFault old mid new name log kept f0 f1 keeps same text why =
    let d : LogOf old new name = log_of old mid new name log kept None keeps same in
    ((d, why.0), (inl (no_link old mid new name log kept keeps same), (d, why.1)))
unopened outcome.NoMemory old mid new name log kept f0 f1 keeps same text why =
    (inl (no_link old mid new name log kept keeps same), inr (log_of old mid new name log kept None keeps same, why))
unopened outcome.CannotOpen old mid new name log kept f0 f1 keeps same text why = absurd why
unopened outcome.Done old mid new name log kept f0 f1 keeps same text why = absurd why
unopened outcome.Usage old mid new name log kept f0 f1 keeps same text why = absurd why
unopened outcome.NotYet old mid new name log kept f0 f1 keeps same text why = absurd why
unopened (outcome.BadReply link index) old mid new name log kept f0 f1 keeps same text why = absurd why
unopened (outcome.BadEntry version) old mid new name log kept f0 f1 keeps same text why = absurd why
unopened outcome.ReadFault old mid new name log kept f0 f1 keeps same text why = absurd why
unopened outcome.WriteFault old mid new name log kept f0 f1 keeps same text why = absurd why
unopened outcome.PrintFault old mid new name log kept f0 f1 keeps same text why = absurd why
unopened (outcome.Refused code) old mid new name log kept f0 f1 keeps same text why = absurd why

unlinked_at : (o : Outcome) (old mid new : WorldState) (name : List ℕ) (log kept : Log) (f0 f1 : ℕ) → KeepsAll (A_log log kept None) name old mid → SameButWarned mid new → Unlinked o log kept f0 f1 → Refusal o f0 f1 → SaysOf o old new name f0 f1
unlinked_at outcome.CannotOpen old mid new name log kept f0 f1 keeps same u why =
    (why, no_link old mid new name log kept keeps same, inr (log_of old mid new name log kept None keeps same, (u.records, u.had, u.same)))
unlinked_at outcome.NoMemory old mid new name log kept f0 f1 keeps same u why =
    (inl (no_link old mid new name log kept keeps same), inr (log_of old mid new name log kept None keeps same, opened_part log kept u.same))
unlinked_at (outcome.BadLog at) old mid new name log kept f0 f1 keeps same u why = absurd why
unlinked_at outcome.LogFault old mid new name log kept f0 f1 keeps same u why = absurd why
unlinked_at outcome.Done old mid new name log kept f0 f1 keeps same u why = absurd why
unlinked_at outcome.Usage old mid new name log kept f0 f1 keeps same u why = absurd why
unlinked_at outcome.NotYet old mid new name log kept f0 f1 keeps same u why = absurd why
unlinked_at (outcome.BadReply link index) old mid new name log kept f0 f1 keeps same u why = absurd why
unlinked_at (outcome.BadEntry version) old mid new name log kept f0 f1 keeps same u why = absurd why
unlinked_at outcome.ReadFault old mid new name log kept f0 f1 keeps same u why = absurd why
unlinked_at outcome.WriteFault old mid new name log kept f0 f1 keeps same u why = absurd why
unlinked_at outcome.PrintFault old mid new name log kept f0 f1 keeps same u why = absurd why
unlinked_at (outcome.Refused code) old mid new name log kept f0 f1 keeps same u why = absurd why

-- the link was given, and is kept as it was
unused : (old mid new : WorldState) (name : List ℕ) (log kept : Log) (p : Link × Link) → KeepsAll (A_log log kept (Some p)) name old mid → SameButWarned mid new → p.1 ≡ p.0 → LinkUnused old new
unused old mid new name log kept p keeps same as_given = inr (link_of old mid new name log kept p keeps same, as_given)

not_made : (o : Outcome) (old mid new : WorldState) (name : List ℕ) (log kept : Log) (p : Link × Link) (f0 f1 : ℕ) → KeepsAll (A_log log kept (Some p)) name old mid → SameButWarned mid new → Text o old new
    → NotMade o p.0 p.1 log kept → SaysOf o old new name f0 f1
not_made (outcome.BadLog at) old mid new name log kept p f0 f1 keeps same text u = inr (record {
  of_log = log_of old mid new name log kept (Some p) keeps same;
  of_link = link_of old mid new name log kept p keeps same;
  untold = u.why;
  log_is = u.same;
  link_is = u.as_given;
  at = at;
  warned_is = text;
})
not_made outcome.LogFault old mid new name log kept p f0 f1 keeps same text u =
    let d : LogOf old new name = log_of old mid new name log kept (Some p) keeps same in
    ((d, u.why), (unused old mid new name log kept p keeps same u.as_given, (d, opened_part log kept u.same)))
not_made outcome.NoMemory old mid new name log kept p f0 f1 keeps same text u =
    (unused old mid new name log kept p keeps same u.as_given, inr (log_of old mid new name log kept (Some p) keeps same, opened_part log kept u.same))
not_made outcome.CannotOpen old mid new name log kept p f0 f1 keeps same text u = absurd u.why
not_made outcome.Done old mid new name log kept p f0 f1 keeps same text u = absurd u.why
not_made outcome.Usage old mid new name log kept p f0 f1 keeps same text u = absurd u.why
not_made outcome.NotYet old mid new name log kept p f0 f1 keeps same text u = absurd u.why
not_made (outcome.BadReply link index) old mid new name log kept p f0 f1 keeps same text u = absurd u.why
not_made (outcome.BadEntry version) old mid new name log kept p f0 f1 keeps same text u = absurd u.why
not_made outcome.ReadFault old mid new name log kept p f0 f1 keeps same text u = absurd u.why
not_made outcome.WriteFault old mid new name log kept p f0 f1 keeps same text u = absurd u.why
not_made outcome.PrintFault old mid new name log kept p f0 f1 keeps same text u = absurd u.why
not_made (outcome.Refused code) old mid new name log kept p f0 f1 keeps same text u = absurd u.why

says_by : (gave : Gave) (o : Outcome) (old mid new : WorldState) (name : List ℕ) (f0 f1 : ℕ) → KeepsAll gave name old mid → SameButWarned mid new → Text o old new → Without o gave f0 f1 → SaysOf o old new name f0 f1
says_by Nothing o old mid new name f0 f1 keeps same text why = no_log o old mid new name f0 f1 keeps same why
says_by (A_log log kept None) o old mid new name f0 f1 keeps same text (inl why) = unopened o old mid new name log kept f0 f1 keeps same text why
says_by (A_log log kept None) o old mid new name f0 f1 keeps same text (inr u) = unlinked_at o old mid new name log kept f0 f1 keeps same u u.why
says_by (A_log log kept (Some p)) o old mid new name f0 f1 keeps same text u = not_made o old mid new name log kept p f0 f1 keeps same text u

-- the text of the outcome is the last warning
pub text_is : (o : Outcome) (old mid new : WorldState) (name : List ℕ) (gave : Gave) → KeepsAll gave name old mid → new ≡ reported o mid → new.warned ≡ (reported o old).warned
text_is o old mid new name gave keeps is = ap (λ (w : WorldState). w.warned) is ∙ warned_of o old mid (mid_warned gave name old mid keeps)

pub says_without : (o : Outcome) (old mid new : WorldState) (name : List ℕ) (f0 f1 : ℕ) → RanWithout old mid f0 f1 name o → new ≡ reported o mid → SaysOf o old new name f0 f1
says_without o old mid new name f0 f1 r is =
    says_by r.gave o old mid new name f0 f1 r.keeps (same_but o mid new is) (text_is o old mid new name r.gave r.keeps is) r.at

-- What a report changes, and what the world then gave and keeps.
use Rattle.std.proofs.Common.{◌≡◌, List, ℕ, Option, Some, None, refl, ap, sym, ◌∙◌}
use Rattle.std.specs.Prelude.{if◌then◌else◌}
use Rattle.std.proofs.lemmas.Slice.Eq.{bytes_eq-Decides}
use Rattle.demi_core.specs.World.{WorldState, Link, Log, after_log, LogRefused}
use Rattle.demi_cli.specs.Given.{Gave, A_log, Nothing, KeepsAll, LinkOf, LogOf, NoLink, SameButWarned, with_link}
use Rattle.demi_cli.specs.Outcome.{reported}
use Rattle.demi_cli.specs.declared.outcome.Outcome.{Outcome}
use Rattle.demi_cli.specs.declared.outcome.Outcome.TheVariants as outcome

-- a report changes the warning alone
only_warned : (o : Outcome) (mid : WorldState) → reported o mid ≡ record mid { warned = (reported o mid).warned }
only_warned outcome.Done mid = refl
only_warned outcome.Usage mid = refl
only_warned outcome.NotYet mid = refl
only_warned (outcome.BadReply link index) mid = refl
only_warned (outcome.BadEntry version) mid = refl
only_warned outcome.ReadFault mid = refl
only_warned outcome.WriteFault mid = refl
only_warned outcome.PrintFault mid = refl
only_warned outcome.LogFault mid = refl
only_warned outcome.NoMemory mid = refl
only_warned (outcome.Refused code) mid = refl
only_warned (outcome.BadLog at) mid = refl
only_warned outcome.CannotOpen mid = refl

pub same_but : (o : Outcome) (mid new : WorldState) → new ≡ reported o mid → SameButWarned mid new
same_but o mid new is = is ∙ only_warned o mid ∙ ap (λ (t : List ℕ). record mid { warned = t }) (ap (λ (w : WorldState). w.warned) (sym is))

pub warned_of : (o : Outcome) (old mid : WorldState) → mid.warned ≡ old.warned → (reported o mid).warned ≡ (reported o old).warned
warned_of outcome.Done old mid e = e
warned_of outcome.Usage old mid e = refl
warned_of outcome.NotYet old mid e = refl
warned_of (outcome.BadReply link index) old mid e = refl
warned_of (outcome.BadEntry version) old mid e = refl
warned_of outcome.ReadFault old mid e = refl
warned_of outcome.WriteFault old mid e = refl
warned_of outcome.PrintFault old mid e = refl
warned_of outcome.LogFault old mid e = refl
warned_of outcome.NoMemory old mid e = refl
warned_of (outcome.Refused code) old mid e = refl
warned_of (outcome.BadLog at) old mid e = refl
warned_of outcome.CannotOpen old mid e = refl

-- neither warned nor said by what was given
pub plain_link : (link : Option (Link × Link)) (w : WorldState) → ((with_link link w).warned ≡ w.warned) × ((with_link link w).said ≡ w.said) × ((with_link link w).given_logs ≡ w.given_logs)
plain_link None w = (refl, refl, refl)
plain_link (Some p) w = (refl, refl, refl)

pub mid_warned : (gave : Gave) (name : List ℕ) (old mid : WorldState) → KeepsAll gave name old mid → mid.warned ≡ old.warned
mid_warned Nothing name old mid keeps = ap (λ (w : WorldState). w.warned) keeps.0
mid_warned (A_log log kept link) name old mid keeps = ap (λ (w : WorldState). w.warned) keeps ∙ (plain_link link (after_log old name log)).0

pub mid_said : (gave : Gave) (name : List ℕ) (old mid : WorldState) → KeepsAll gave name old mid → mid.said ≡ old.said
mid_said Nothing name old mid keeps = ap (λ (w : WorldState). w.said) keeps.0
mid_said (A_log log kept link) name old mid keeps = ap (λ (w : WorldState). w.said) keeps ∙ (plain_link link (after_log old name log)).1

-- the log and the link
abbrev pub log_of : (old mid new : WorldState) (name : List ℕ) (log kept : Log) (link : Option (Link × Link)) → KeepsAll (A_log log kept link) name old mid → SameButWarned mid new → LogOf old new name
log_of old mid new name log kept link keeps same = record {
  log = log;
  kept = kept;
  gave = ap (λ (w : WorldState). w.given_logs) same ∙ ap (λ (w : WorldState). w.given_logs) keeps ∙ (plain_link link (after_log old name log)).2;
  keeps = ap (λ (w : WorldState). w.kept_log name) same ∙ ap (λ (w : WorldState). w.kept_log name) keeps
      ∙ ap (λ b. if b then Some kept else (with_link link (after_log old name log)).kept_log name) ((bytes_eq-Decides name name).1 refl);
}

abbrev pub kept_log_of : (old new : WorldState) (name : List ℕ) (log kept : Log) (link : Option (Link × Link)) → KeepsAll (A_log log kept link) name old new → LogOf old new name
kept_log_of old new name log kept link keeps = log_of old new new name log kept link keeps refl

abbrev pub link_of : (old mid new : WorldState) (name : List ℕ) (log kept : Log) (p : Link × Link) → KeepsAll (A_log log kept (Some p)) name old mid → SameButWarned mid new → LinkOf old new
link_of old mid new name log kept p keeps same = record {
  link = p.0;
  kept = p.1;
  gave = ap (λ (w : WorldState). w.given_links) same ∙ ap (λ (w : WorldState). w.given_links) keeps;
  keeps = ap (λ (w : WorldState). w.kept_link 0) same ∙ ap (λ (w : WorldState). w.kept_link 0) keeps;
}

pub no_link : (old mid new : WorldState) (name : List ℕ) (log kept : Log) → KeepsAll (A_log log kept None) name old mid → SameButWarned mid new → NoLink old new
no_link old mid new name log kept keeps same = ap (λ (w : WorldState). w.given_links) same ∙ ap (λ (w : WorldState). w.given_links) keeps

pub nothing : (old mid new : WorldState) (name : List ℕ) → LogRefused old mid name → SameButWarned mid new → NoLink old new × (new.given_logs ≡ old.given_logs)
nothing old mid new name keeps same =
    (ap (λ (w : WorldState). w.given_links) same ∙ ap (λ (w : WorldState). w.given_links) keeps.0, ap (λ (w : WorldState). w.given_logs) same ∙ ap (λ (w : WorldState). w.given_logs) keeps.0)

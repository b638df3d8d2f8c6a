-- What each status of `log` says, from what stands at its outcome.
use Rattle.std.proofs.Common.{◌≡◌, ◌≢◌, ℕ, ◌≤◌, List, Option, None, ap, sym, ◌∙◌, subst, inl, inr, ◌⊎◌, arith}
use Rattle.std.specs.Prelude.{IfSome, Result, Ok, Err, IfOk, IfErr, false}
use Rattle.std.specs.Io.KnownBytes.{append_known}
use Rattle.demi_core.specs.Outside.{Rose}
use Rattle.demi_core.specs.World.{WorldState, Log, after_log, after_keep_log, after_say, LogRefused}
use Rattle.demi_spec.specs.Record.{Record, records}
use Rattle.demi_cli.specs.declared.heads.Heads.{Heads}
use Rattle.demi_cli.specs.Heads.{HeadsOf}
use Rattle.demi_cli.specs.declared.outcome.Outcome.{Outcome}
use Rattle.demi_cli.specs.declared.outcome.Outcome.TheVariants as outcome
use Rattle.demi_cli.specs.Lines.{log_lines}
use Rattle.demi_cli.specs.Outcome.{status_of, reported}
use Rattle.demi_server.specs.Logs.{Contents, HadRecords, contents_of}
use Rattle.demi_cli.specs.Ended.{Unopened}
use Rattle.demi_cli.specs.Given.{LogOf, NoLink, NoLog}
use Rattle.demi_cli.specs.Run.{LogFaulted, BadLog, GoodLog, Warned}
use Rattle.demi_cli.specs.Listing.{KeepsOne, SameButTold, KeepsLog, SaysLines, SaysPart, GivesNone, Unread, Listed}
use Rattle.demi_cli.proofs.Clauses.{kept_log_of}

-- a log that was not opened was not read
pub unread : (o : Outcome) (log kept : Log) → Unopened o log kept → Unread o log kept
unread (outcome.BadLog at) log kept u = u
unread outcome.LogFault log kept u = u.0
unread outcome.NoMemory log kept u = tt
unread outcome.Done log kept u = u
unread outcome.Usage log kept u = u
unread outcome.NotYet log kept u = u
unread (outcome.BadReply link index) log kept u = u
unread (outcome.BadEntry version) log kept u = u
unread outcome.ReadFault log kept u = u
unread outcome.WriteFault log kept u = u
unread outcome.PrintFault log kept u = u
unread (outcome.Refused code) log kept u = u
unread outcome.CannotOpen log kept u = u

-- the same where calls before it changed nothing
pub unread_since : (o : Outcome) (log mid kept : Log) → contents_of mid ≡ contents_of log → log.faults ≤ mid.faults → Unread o mid kept → Unread o log kept
unread_since (outcome.BadLog at) log mid kept same later u = (
  subst (λ (b : Option (List ℕ)). IfSome b (λ t. records t ≡ Err at)) (ap (λ (c : Contents). c.bytes) same) u.0,
  (λ e. u.1 (ap (λ (c : Contents). c.held) same ∙ e)),
  u.2 ∙ same,
)
unread_since outcome.LogFault log mid kept same later u = omega (arith, u)
unread_since outcome.NoMemory log mid kept same later u = tt
unread_since outcome.Done log mid kept same later u = u
unread_since outcome.Usage log mid kept same later u = u
unread_since outcome.NotYet log mid kept same later u = u
unread_since (outcome.BadReply link index) log mid kept same later u = u
unread_since (outcome.BadEntry version) log mid kept same later u = u
unread_since outcome.ReadFault log mid kept same later u = u
unread_since outcome.WriteFault log mid kept same later u = u
unread_since outcome.PrintFault log mid kept same later u = u
unread_since (outcome.Refused code) log mid kept same later u = u
unread_since outcome.CannotOpen log mid kept same later u = u

-- nothing but what was said and warned changed
pub told : (mid new : WorldState) (said : Option (List ℕ)) (warned : List ℕ) → new ≡ record mid { said = said; warned = warned } → SameButTold mid new
told mid new said warned is =
    is ∙ ap (λ x. record mid { said = x; warned = warned }) (sym (ap (λ (w : WorldState). w.said) is))
    ∙ ap (λ x. record mid { said = new.said; warned = x }) (sym (ap (λ (w : WorldState). w.warned) is))

-- the log that the world keeps
abbrev pub log_of : (old mid new : WorldState) (name : List ℕ) (k : KeepsOne old mid name) → SameButTold mid new → LogOf old new name
log_of old mid new name k same = record {
  log = k.log;
  kept = k.kept;
  gave = ap (λ (w : WorldState). w.given_logs) same ∙ (kept_log_of old mid name k.log k.kept None k.keeps).gave;
  keeps = ap (λ (w : WorldState). w.kept_log name) same ∙ (kept_log_of old mid name k.log k.kept None k.keeps).keeps;
}

-- all that is said of a status
pub record Facts (n : ℕ) (old new : WorldState) (name : List ℕ) (f0 f1 p0 p1 : ℕ) : Type 0 where
  pub keeps : KeepsLog old new name
  pub no_link : NoLink old new
  pub never : (n ≢ 2) × (n ≢ 6) × (n ≢ 1)
  pub lines : n ≡ 0 → SaysLines old new name
  pub part : n ≡ 3 → SaysPart old new name
  pub silent : n ≢ 0 → n ≢ 3 → new.said ≡ old.said
  pub print_fault : n ≡ 3 → Rose p0 p1
  pub log_fault : n ≡ 4 → LogFaulted old new name
  pub bad_log : n ≡ 7 → BadLog old new name
  pub good_log : n ≢ 7 → n ≢ 4 → n ≢ 5 → GoodLog old new name
  pub cannot_open : n ≡ 8 → GivesNone old new f0 f1
  pub warned : Warned false n old new

pub facts : (o : Outcome) (n : ℕ) (old mid new : WorldState) (name : List ℕ) (f0 f1 p0 p1 : ℕ) → Listed o old mid name f0 f1 p0 p1 → n ≡ status_of o → new ≡ reported o mid → Facts n old new name f0 f1 p0 p1
facts outcome.Done n old mid new name f0 f1 p0 p1 l status is =
    let h = l.1 in
    let all : new ≡ after_say l.0 (log_lines h.records) = is ∙ l.2 in
    let same : SameButTold l.0 new = told l.0 new (append_known l.0.said (log_lines h.records)) l.0.warned all in
    let d : LogOf old new name = log_of old l.0 new name h.keeps same in
    record {
      keeps = (l.0, inr h.keeps, same);
      no_link = ap (λ (w : WorldState). w.given_links) all ∙ ap (λ (w : WorldState). w.given_links) h.keeps.keeps;
      never = ((λ e. omega arith), (λ e. omega arith), (λ e. omega arith));
      lines = λ e. record {
        of_log = d;
        records = h.records;
        had = h.had;
        said = ap (λ (w : WorldState). w.said) all ∙ ap (λ (w : WorldState). append_known w.said (log_lines h.records)) h.keeps.keeps;
      };
      part = λ e. absurd (omega arith);
      silent = λ a b. absurd (a status);
      print_fault = λ e. absurd (omega arith);
      log_fault = λ e. absurd (omega arith);
      bad_log = λ e. absurd (omega arith);
      good_log = λ a b c. inr (d, (h.records, h.had));
      cannot_open = λ e. absurd (omega arith);
      warned = (outcome.Done, status, (λ e. cc), ap (λ (w : WorldState). w.warned) all ∙ ap (λ (w : WorldState). w.warned) h.keeps.keeps);
    }
facts outcome.PrintFault n old mid new name f0 f1 p0 p1 l status is =
    let h = l.1 in
    let f = l.2.1 in
    let said : mid ≡ after_say l.0 f.front = f.says in
    let all : new ≡ reported outcome.PrintFault (after_say l.0 f.front) = is ∙ ap (reported outcome.PrintFault) said in
    let same : SameButTold l.0 new = told l.0 new (append_known l.0.said f.front) (reported outcome.PrintFault old).warned all in
    let d : LogOf old new name = log_of old l.0 new name h.keeps same in
    record {
      keeps = (l.0, inr h.keeps, same);
      no_link = ap (λ (w : WorldState). w.given_links) all ∙ ap (λ (w : WorldState). w.given_links) h.keeps.keeps;
      never = ((λ e. omega arith), (λ e. omega arith), (λ e. omega arith));
      lines = λ e. absurd (omega arith);
      part = λ e. record {
        of_log = d;
        records = h.records;
        had = h.had;
        front = f.front;
        rest = l.2.0;
        parts = f.parts;
        said = ap (λ (w : WorldState). w.said) all ∙ ap (λ (w : WorldState). append_known w.said f.front) h.keeps.keeps;
      };
      silent = λ a b. absurd (b status);
      print_fault = λ e. l.3;
      log_fault = λ e. absurd (omega arith);
      bad_log = λ e. absurd (omega arith);
      good_log = λ a b c. inr (d, (h.records, h.had));
      cannot_open = λ e. absurd (omega arith);
      warned = (outcome.PrintFault, status, (λ e. cc), ap (λ (w : WorldState). w.warned) all);
    }
facts (outcome.BadLog at) n old mid new name f0 f1 p0 p1 l status is =
    let same : SameButTold mid new = told mid new mid.said (reported (outcome.BadLog at) old).warned is in
    let d : LogOf old new name = log_of old mid new name l.0 same in
    let links : NoLink old new = ap (λ (w : WorldState). w.given_links) is ∙ ap (λ (w : WorldState). w.given_links) l.0.keeps in
    record {
      keeps = (mid, inr l.0, same);
      no_link = links;
      never = ((λ e. omega arith), (λ e. omega arith), (λ e. omega arith));
      lines = λ e. absurd (omega arith);
      part = λ e. absurd (omega arith);
      silent = λ a b. ap (λ (w : WorldState). w.said) is ∙ ap (λ (w : WorldState). w.said) l.0.keeps;
      print_fault = λ e. absurd (omega arith);
      log_fault = λ e. absurd (omega arith);
      bad_log = λ e. (links, (d, (at, l.1, ap (λ (w : WorldState). w.warned) is)));
      good_log = λ a b c. absurd (a status);
      cannot_open = λ e. absurd (omega arith);
      warned = (outcome.BadLog at, status, (λ e. cc), ap (λ (w : WorldState). w.warned) is);
    }
facts outcome.LogFault n old mid new name f0 f1 p0 p1 l status is =
    let same : SameButTold mid new = told mid new mid.said (reported outcome.LogFault old).warned is in
    let d : LogOf old new name = log_of old mid new name l.0 same in
    record {
      keeps = (mid, inr l.0, same);
      no_link = ap (λ (w : WorldState). w.given_links) is ∙ ap (λ (w : WorldState). w.given_links) l.0.keeps;
      never = ((λ e. omega arith), (λ e. omega arith), (λ e. omega arith));
      lines = λ e. absurd (omega arith);
      part = λ e. absurd (omega arith);
      silent = λ a b. ap (λ (w : WorldState). w.said) is ∙ ap (λ (w : WorldState). w.said) l.0.keeps;
      print_fault = λ e. absurd (omega arith);
      log_fault = λ e. (d, l.1);
      bad_log = λ e. absurd (omega arith);
      good_log = λ a b c. absurd (b status);
      cannot_open = λ e. absurd (omega arith);
      warned = (outcome.LogFault, status, (λ e. cc), ap (λ (w : WorldState). w.warned) is);
    }
facts outcome.NoMemory n old mid new name f0 f1 p0 p1 l status is =
    let same : SameButTold mid new = told mid new mid.said (reported outcome.NoMemory old).warned is in
    record {
      keeps = (mid, l, same);
      no_link = ap (λ (w : WorldState). w.given_links) is ∙ (plain l).0;
      never = ((λ e. omega arith), (λ e. omega arith), (λ e. omega arith));
      lines = λ e. absurd (omega arith);
      part = λ e. absurd (omega arith);
      silent = λ a b. ap (λ (w : WorldState). w.said) is ∙ (plain l).1;
      print_fault = λ e. absurd (omega arith);
      log_fault = λ e. absurd (omega arith);
      bad_log = λ e. absurd (omega arith);
      good_log = λ a b c. absurd (c status);
      cannot_open = λ e. absurd (omega arith);
      warned = (outcome.NoMemory, status, (λ e. cc), ap (λ (w : WorldState). w.warned) is);
    }
  where
    plain : LogRefused old mid name ⊎ KeepsOne old mid name → (mid.given_links ≡ old.given_links) × (mid.said ≡ old.said)
    plain (inl r) = (ap (λ (w : WorldState). w.given_links) r.0, ap (λ (w : WorldState). w.said) r.0)
    plain (inr k) = (ap (λ (w : WorldState). w.given_links) k.keeps, ap (λ (w : WorldState). w.said) k.keeps)
facts outcome.CannotOpen n old mid new name f0 f1 p0 p1 l status is =
    let same : SameButTold mid new = told mid new mid.said (reported outcome.CannotOpen old).warned is in
    let logs : NoLog old new = ap (λ (w : WorldState). w.given_logs) is ∙ ap (λ (w : WorldState). w.given_logs) l.0.0 in
    record {
      keeps = (mid, inl l.0, same);
      no_link = ap (λ (w : WorldState). w.given_links) is ∙ ap (λ (w : WorldState). w.given_links) l.0.0;
      never = ((λ e. omega arith), (λ e. omega arith), (λ e. omega arith));
      lines = λ e. absurd (omega arith);
      part = λ e. absurd (omega arith);
      silent = λ a b. ap (λ (w : WorldState). w.said) is ∙ ap (λ (w : WorldState). w.said) l.0.0;
      print_fault = λ e. absurd (omega arith);
      log_fault = λ e. absurd (omega arith);
      bad_log = λ e. absurd (omega arith);
      good_log = λ a b c. inl logs;
      cannot_open = λ e. (l.1, logs);
      warned = (outcome.CannotOpen, status, (λ e. cc), ap (λ (w : WorldState). w.warned) is);
    }
facts outcome.Usage n old mid new name f0 f1 p0 p1 l status is = absurd l
facts outcome.NotYet n old mid new name f0 f1 p0 p1 l status is = absurd l
facts (outcome.BadReply link index) n old mid new name f0 f1 p0 p1 l status is = absurd l
facts (outcome.BadEntry version) n old mid new name f0 f1 p0 p1 l status is = absurd l
facts outcome.ReadFault n old mid new name f0 f1 p0 p1 l status is = absurd l
facts outcome.WriteFault n old mid new name f0 f1 p0 p1 l status is = absurd l
facts (outcome.Refused code) n old mid new name f0 f1 p0 p1 l status is = absurd l

-- a log whose records were not read is kept
pub listed_unread : (o : Outcome) (old mid : WorldState) (name : List ℕ) (f0 f1 p0 p1 : ℕ) (k : KeepsOne old mid name) → Unread o k.log k.kept → Listed o old mid name f0 f1 p0 p1
listed_unread (outcome.BadLog at) old mid name f0 f1 p0 p1 k u = (k, u)
listed_unread outcome.LogFault old mid name f0 f1 p0 p1 k u = (k, u)
listed_unread outcome.NoMemory old mid name f0 f1 p0 p1 k u = inr k
listed_unread outcome.Done old mid name f0 f1 p0 p1 k u = absurd u
listed_unread outcome.Usage old mid name f0 f1 p0 p1 k u = absurd u
listed_unread outcome.NotYet old mid name f0 f1 p0 p1 k u = absurd u
listed_unread (outcome.BadReply link index) old mid name f0 f1 p0 p1 k u = absurd u
listed_unread (outcome.BadEntry version) old mid name f0 f1 p0 p1 k u = absurd u
listed_unread outcome.ReadFault old mid name f0 f1 p0 p1 k u = absurd u
listed_unread outcome.WriteFault old mid name f0 f1 p0 p1 k u = absurd u
listed_unread outcome.PrintFault old mid name f0 f1 p0 p1 k u = absurd u
listed_unread (outcome.Refused code) old mid name f0 f1 p0 p1 k u = absurd u
listed_unread outcome.CannotOpen old mid name f0 f1 p0 p1 k u = absurd u

-- the log was given and is kept
abbrev pub keeps_one : (old mid new : WorldState) (name : List ℕ) (log kept : Log) → mid ≡ after_log old name log → new ≡ after_keep_log mid name kept → contents_of kept ≡ contents_of log → KeepsOne old new name
keeps_one old mid new name log kept given keeps same = record {
  log = log;
  kept = kept;
  keeps = keeps ∙ ap (λ (w : WorldState). after_keep_log w name kept) given;
  same = same;
}

-- what a result says at its variant
pub on_unread : (r : Result Heads Outcome) (o : Outcome) (log kept : Log) → r ≡ Err o → IfErr r (λ x. Unread x log kept) → Unread o log kept
on_unread r o log kept is u = subst (λ (x : Result Heads Outcome). IfErr x (λ y. Unread y log kept)) is u

pub on_read : (r : Result Heads Outcome) (heads : Heads) (log : Log) → r ≡ Ok heads → IfOk r (λ h. (rs : List Record) × HadRecords log rs × HeadsOf h rs) → (rs : List Record) × HadRecords log rs × HeadsOf heads rs
on_read r heads log is u = subst (λ (x : Result Heads Outcome). IfOk x (λ h. (rs : List Record) × HadRecords log rs × HeadsOf h rs)) is u

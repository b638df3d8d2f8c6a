-- What each status of `check` says, from what stands at its outcome.
use Rattle.std.proofs.Common.{◌≡◌, ◌≢◌, ℕ, List, Option, None, Some, ap, sym, ◌∙◌, subst, inl, inr, ◌⊎◌, arith}
use Rattle.std.specs.Prelude.{IfSome, Result, Ok, Err, IfOk, IfErr, false}
use Rattle.std.specs.Io.KnownBytes.{append_known}
use Rattle.demi_core.specs.Outside.{Rose}
use Rattle.demi_core.specs.World.{WorldState, Log, after_say, LogRefused}
use Rattle.demi_audit.specs.declared.checking.CheckEnd.{CheckEnd}
use Rattle.demi_cli.specs.declared.outcome.Outcome.{Outcome}
use Rattle.demi_cli.specs.declared.outcome.Outcome.TheVariants as outcome
use Rattle.demi_cli.specs.Lines.{verdict_line}
use Rattle.demi_cli.specs.Outcome.{status_of, reported}
use Rattle.demi_cli.specs.Given.{LogOf, NoLink, NoLog}
use Rattle.demi_cli.specs.Run.{LogFaulted, Warned}
use Rattle.demi_cli.specs.Listing.{KeepsOne, SameButTold, KeepsLog, GivesNone}
use Rattle.demi_cli.specs.Checking.{BadTranscript, Checked, Checking, Consistent, Inconsistent, Judged, Refuted, SaysVerdict, SaysVerdictPart}
use Rattle.demi_cli.proofs.Lists.{log_of, told}

-- all that is said of a status
pub record Facts (n : ℕ) (old new : WorldState) (name : List ℕ) (f0 f1 p0 p1 : ℕ) : Type 0 where
  pub checking : Checking n old new name p0 p1
  pub no_link : NoLink old new
  pub ran : n ≢ 1
  pub log_fault : n ≡ 4 → LogFaulted old new name
  pub cannot_open : n ≡ 8 → GivesNone old new f0 f1
  pub warned : Warned false n old new

-- an outcome by which the disk is kept and nothing is said
kept_silent : (o : Outcome) (n : ℕ) (old mid new : WorldState) (name : List ℕ) → (k : KeepsOne old mid name) → new ≡ record mid { warned = (reported o old).warned } → SameButTold mid new × NoLink old new × (new.said ≡ old.said) × (new.warned ≡ (reported o old).warned)
kept_silent o n old mid new name k is = (
  told mid new mid.said (reported o old).warned is,
  ap (λ (w : WorldState). w.given_links) is ∙ ap (λ (w : WorldState). w.given_links) k.keeps,
  ap (λ (w : WorldState). w.said) is ∙ ap (λ (w : WorldState). w.said) k.keeps,
  ap (λ (w : WorldState). w.warned) is,
)

pub facts : (o : Outcome) (n : ℕ) (old mid new : WorldState) (name : List ℕ) (f0 f1 p0 p1 : ℕ) → Checked o old mid name f0 f1 p0 p1 → n ≡ status_of o → new ≡ reported o mid → Facts n old new name f0 f1 p0 p1
facts outcome.Done n old mid new name f0 f1 p0 p1 l status is =
    let h = l.1 in
    let all : new ≡ after_say l.0 (verdict_line h.links h.replies h.records) = is ∙ l.2 in
    let same : SameButTold l.0 new = told l.0 new (append_known l.0.said (verdict_line h.links h.replies h.records)) l.0.warned all in
    let d : LogOf old new name = log_of old l.0 new name h.keeps same in
    record {
      checking = record {
        keeps = (l.0, inr h.keeps, same);
        never = ((λ e. omega arith), (λ e. omega arith));
        verdict = λ e. record {
          of_log = d;
          links = h.links;
          replies = h.replies;
          records = h.records;
          consistent = h.consistent;
          said = ap (λ (w : WorldState). w.said) all ∙ ap (λ (w : WorldState). append_known w.said (verdict_line h.links h.replies h.records)) h.keeps.keeps;
        };
        part = λ e. absurd (omega arith);
        rose = λ e. absurd (omega arith);
        silent = λ a b. absurd (a status);
        bad = λ e. absurd (omega arith);
        inconsistent = λ e. absurd (omega arith);
      };
      no_link = ap (λ (w : WorldState). w.given_links) all ∙ ap (λ (w : WorldState). w.given_links) h.keeps.keeps;
      ran = λ e. omega arith;
      log_fault = λ e. absurd (omega arith);
      cannot_open = λ e. absurd (omega arith);
      warned = (outcome.Done, status, (λ e. cc), ap (λ (w : WorldState). w.warned) all ∙ ap (λ (w : WorldState). w.warned) h.keeps.keeps);
    }
facts outcome.PrintFault n old mid new name f0 f1 p0 p1 l status is =
    let h = l.1 in
    let f = l.2.1 in
    let said : mid ≡ after_say l.0 f.front = f.says in
    let all : new ≡ reported outcome.PrintFault (after_say l.0 f.front) = is ∙ ap (reported outcome.PrintFault) said in
    let same : SameButTold l.0 new = told l.0 new (append_known l.0.said f.front) (reported outcome.PrintFault old).warned all in
    let d : LogOf old new name = log_of old l.0 new name h.keeps same in
    record {
      checking = record {
        keeps = (l.0, inr h.keeps, same);
        never = ((λ e. omega arith), (λ e. omega arith));
        verdict = λ e. absurd (omega arith);
        part = λ e. record {
          of_log = d;
          links = h.links;
          replies = h.replies;
          records = h.records;
          consistent = h.consistent;
          front = f.front;
          rest = l.2.0;
          parts = f.parts;
          said = ap (λ (w : WorldState). w.said) all ∙ ap (λ (w : WorldState). append_known w.said f.front) h.keeps.keeps;
        };
        rose = λ e. l.3;
        silent = λ a b. absurd (b status);
        bad = λ e. absurd (omega arith);
        inconsistent = λ e. absurd (omega arith);
      };
      no_link = ap (λ (w : WorldState). w.given_links) all ∙ ap (λ (w : WorldState). w.given_links) h.keeps.keeps;
      ran = λ e. omega arith;
      log_fault = λ e. absurd (omega arith);
      cannot_open = λ e. absurd (omega arith);
      warned = (outcome.PrintFault, status, (λ e. cc), ap (λ (w : WorldState). w.warned) all);
    }
facts (outcome.BadLog at) n old mid new name f0 f1 p0 p1 l status is =
    let s = kept_silent (outcome.BadLog at) n old mid new name l.0 is in
    record {
      checking = record {
        keeps = (mid, inr l.0, s.0);
        never = ((λ e. omega arith), (λ e. omega arith));
        verdict = λ e. absurd (omega arith);
        part = λ e. absurd (omega arith);
        rose = λ e. absurd (omega arith);
        silent = λ a b. s.2;
        bad = λ e. record { of_log = log_of old mid new name l.0 s.0; at = at; bad = l.1; warned_is = s.3 };
        inconsistent = λ e. absurd (omega arith);
      };
      no_link = s.1;
      ran = λ e. omega arith;
      log_fault = λ e. absurd (omega arith);
      cannot_open = λ e. absurd (omega arith);
      warned = (outcome.BadLog at, status, (λ e. cc), s.3);
    }
facts (outcome.BadReply link index) n old mid new name f0 f1 p0 p1 l status is =
    let s = kept_silent (outcome.BadReply link index) n old mid new name l.0 is in
    record {
      checking = record {
        keeps = (mid, inr l.0, s.0);
        never = ((λ e. omega arith), (λ e. omega arith));
        verdict = λ e. absurd (omega arith);
        part = λ e. absurd (omega arith);
        rose = λ e. absurd (omega arith);
        silent = λ a b. s.2;
        bad = λ e. absurd (omega arith);
        inconsistent = λ e. record { of_log = log_of old mid new name l.0 s.0; fault = outcome.BadReply link index; is_fault = tt; found = l.1; warned_is = s.3 };
      };
      no_link = s.1;
      ran = λ e. omega arith;
      log_fault = λ e. absurd (omega arith);
      cannot_open = λ e. absurd (omega arith);
      warned = (outcome.BadReply link index, status, (λ e. cc), s.3);
    }
facts (outcome.BadEntry version) n old mid new name f0 f1 p0 p1 l status is =
    let s = kept_silent (outcome.BadEntry version) n old mid new name l.0 is in
    record {
      checking = record {
        keeps = (mid, inr l.0, s.0);
        never = ((λ e. omega arith), (λ e. omega arith));
        verdict = λ e. absurd (omega arith);
        part = λ e. absurd (omega arith);
        rose = λ e. absurd (omega arith);
        silent = λ a b. s.2;
        bad = λ e. absurd (omega arith);
        inconsistent = λ e. record { of_log = log_of old mid new name l.0 s.0; fault = outcome.BadEntry version; is_fault = tt; found = l.1; warned_is = s.3 };
      };
      no_link = s.1;
      ran = λ e. omega arith;
      log_fault = λ e. absurd (omega arith);
      cannot_open = λ e. absurd (omega arith);
      warned = (outcome.BadEntry version, status, (λ e. cc), s.3);
    }
facts outcome.LogFault n old mid new name f0 f1 p0 p1 l status is =
    let s = kept_silent outcome.LogFault n old mid new name l.0 is in
    record {
      checking = record {
        keeps = (mid, inr l.0, s.0);
        never = ((λ e. omega arith), (λ e. omega arith));
        verdict = λ e. absurd (omega arith);
        part = λ e. absurd (omega arith);
        rose = λ e. absurd (omega arith);
        silent = λ a b. s.2;
        bad = λ e. absurd (omega arith);
        inconsistent = λ e. absurd (omega arith);
      };
      no_link = s.1;
      ran = λ e. omega arith;
      log_fault = λ e. (log_of old mid new name l.0 s.0, l.1);
      cannot_open = λ e. absurd (omega arith);
      warned = (outcome.LogFault, status, (λ e. cc), s.3);
    }
facts outcome.NoMemory n old mid new name f0 f1 p0 p1 l status is =
    let same : SameButTold mid new = told mid new mid.said (reported outcome.NoMemory old).warned is in
    record {
      checking = record {
        keeps = (mid, l, same);
        never = ((λ e. omega arith), (λ e. omega arith));
        verdict = λ e. absurd (omega arith);
        part = λ e. absurd (omega arith);
        rose = λ e. absurd (omega arith);
        silent = λ a b. ap (λ (w : WorldState). w.said) is ∙ (plain l).1;
        bad = λ e. absurd (omega arith);
        inconsistent = λ e. absurd (omega arith);
      };
      no_link = ap (λ (w : WorldState). w.given_links) is ∙ (plain l).0;
      ran = λ e. omega arith;
      log_fault = λ e. absurd (omega arith);
      cannot_open = λ e. absurd (omega arith);
      warned = (outcome.NoMemory, status, (λ e. cc), ap (λ (w : WorldState). w.warned) is);
    }
  where
    plain : LogRefused old mid name ⊎ KeepsOne old mid name → (mid.given_links ≡ old.given_links) × (mid.said ≡ old.said)
    plain (inl r) = (ap (λ (w : WorldState). w.given_links) r.0, ap (λ (w : WorldState). w.said) r.0)
    plain (inr k) = (ap (λ (w : WorldState). w.given_links) k.keeps, ap (λ (w : WorldState). w.said) k.keeps)
facts outcome.CannotOpen n old mid new name f0 f1 p0 p1 l status is =
    let same : SameButTold mid new = told mid new mid.said (reported outcome.CannotOpen old).warned is in
    let logs : NoLog old new = ap (λ (w : WorldState). w.given_logs) is ∙ ap (λ (w : WorldState). w.given_logs) l.0.0 in
    record {
      checking = record {
        keeps = (mid, inl l.0, same);
        never = ((λ e. omega arith), (λ e. omega arith));
        verdict = λ e. absurd (omega arith);
        part = λ e. absurd (omega arith);
        rose = λ e. absurd (omega arith);
        silent = λ a b. ap (λ (w : WorldState). w.said) is ∙ ap (λ (w : WorldState). w.said) l.0.0;
        bad = λ e. absurd (omega arith);
        inconsistent = λ e. absurd (omega arith);
      };
      no_link = ap (λ (w : WorldState). w.given_links) is ∙ ap (λ (w : WorldState). w.given_links) l.0.0;
      ran = λ e. omega arith;
      log_fault = λ e. absurd (omega arith);
      cannot_open = λ e. (l.1, logs);
      warned = (outcome.CannotOpen, status, (λ e. cc), ap (λ (w : WorldState). w.warned) is);
    }
facts outcome.Usage n old mid new name f0 f1 p0 p1 l status is = absurd l
facts outcome.NotYet n old mid new name f0 f1 p0 p1 l status is = absurd l
facts outcome.ReadFault n old mid new name f0 f1 p0 p1 l status is = absurd l
facts outcome.WriteFault n old mid new name f0 f1 p0 p1 l status is = absurd l
facts (outcome.Refused code) n old mid new name f0 f1 p0 p1 l status is = absurd l

-- a disk that was refuted is kept
pub checked_refuted : (o : Outcome) (old mid : WorldState) (name : List ℕ) (f0 f1 p0 p1 : ℕ) (k : KeepsOne old mid name) → Refuted o k.log k.kept → Checked o old mid name f0 f1 p0 p1
checked_refuted (outcome.BadLog at) old mid name f0 f1 p0 p1 k u = (k, u)
checked_refuted (outcome.BadReply link index) old mid name f0 f1 p0 p1 k u = (k, u)
checked_refuted (outcome.BadEntry version) old mid name f0 f1 p0 p1 k u = (k, u)
checked_refuted outcome.LogFault old mid name f0 f1 p0 p1 k u = (k, u)
checked_refuted outcome.NoMemory old mid name f0 f1 p0 p1 k u = inr k
checked_refuted outcome.Done old mid name f0 f1 p0 p1 k u = absurd u
checked_refuted outcome.Usage old mid name f0 f1 p0 p1 k u = absurd u
checked_refuted outcome.NotYet old mid name f0 f1 p0 p1 k u = absurd u
checked_refuted outcome.ReadFault old mid name f0 f1 p0 p1 k u = absurd u
checked_refuted outcome.WriteFault old mid name f0 f1 p0 p1 k u = absurd u
checked_refuted outcome.PrintFault old mid name f0 f1 p0 p1 k u = absurd u
checked_refuted (outcome.Refused code) old mid name f0 f1 p0 p1 k u = absurd u
checked_refuted outcome.CannotOpen old mid name f0 f1 p0 p1 k u = absurd u

moved : (o : Outcome) (text : List ℕ) (told : Option (List ℕ)) → IfSome told (λ b. text ≡ b) → Judged o text → IfSome told (Judged o)
moved o text None read j = tt
moved o text (Some b) read j = subst (Judged o) read j

pub consistent_by : (links replies records : ℕ) (text : List ℕ) (told : Option (List ℕ)) → IfSome told (λ b. text ≡ b) → Consistent links replies records text → IfSome told (Consistent links replies records)
consistent_by links replies records text None read j = tt
consistent_by links replies records text (Some b) read j = subst (Consistent links replies records) read j

-- what is judged of the bytes that were read is judged of the disk, where it tells them
pub refuted_by : (o : Outcome) (text : List ℕ) (log kept : Log) → IfSome log.bytes (λ b. text ≡ b) → Judged o text → Refuted o log kept
refuted_by (outcome.BadLog at) text log kept read j = moved (outcome.BadLog at) text log.bytes read j
refuted_by (outcome.BadReply link index) text log kept read j = moved (outcome.BadReply link index) text log.bytes read j
refuted_by (outcome.BadEntry version) text log kept read j = moved (outcome.BadEntry version) text log.bytes read j
refuted_by outcome.NoMemory text log kept read j = tt
refuted_by outcome.LogFault text log kept read j = absurd j
refuted_by outcome.Done text log kept read j = absurd j
refuted_by outcome.Usage text log kept read j = absurd j
refuted_by outcome.NotYet text log kept read j = absurd j
refuted_by outcome.ReadFault text log kept read j = absurd j
refuted_by outcome.WriteFault text log kept read j = absurd j
refuted_by outcome.PrintFault text log kept read j = absurd j
refuted_by (outcome.Refused code) text log kept read j = absurd j
refuted_by outcome.CannotOpen text log kept read j = absurd j

-- a disk that was not read
pub refuted_unread : (o : Outcome) (log kept : Log) → (o ≡ outcome.NoMemory) ⊎ ((o ≡ outcome.LogFault) × Rose log.faults kept.faults) → Refuted o log kept
refuted_unread o log kept (inl e) = subst (λ (x : Outcome). Refuted x log kept) (sym e) tt
refuted_unread o log kept (inr e) = subst (λ (x : Outcome). Refuted x log kept) (sym e.0) e.1

-- what a result says at its variant
pub on_refuted : (r : Result CheckEnd Outcome) (o : Outcome) (log kept : Log) → r ≡ Err o → IfErr r (λ x. Refuted x log kept) → Refuted o log kept
on_refuted r o log kept is u = subst (λ (x : Result CheckEnd Outcome). IfErr x (λ y. Refuted y log kept)) is u

pub on_consistent : (r : Result CheckEnd Outcome) (end : CheckEnd) (told : Option (List ℕ)) → r ≡ Ok end → IfOk r (λ e. IfSome told (Consistent e.links e.replies e.records)) → IfSome told (Consistent end.links end.replies end.records)
on_consistent r end told is u = subst (λ (x : Result CheckEnd Outcome). IfOk x (λ e. IfSome told (Consistent e.links e.replies e.records))) is u

-- an audit of the bytes that were read is one of the disk
pub audited_good : (r : Result CheckEnd Outcome) (text : List ℕ) (told : Option (List ℕ)) → IfSome told (λ b. text ≡ b) → IfOk r (λ e. Consistent e.links e.replies e.records text) → IfOk r (λ e. IfSome told (Consistent e.links e.replies e.records))
audited_good (Ok e) text told read c = consistent_by e.links e.replies e.records text told read c
audited_good (Err o) text told read c = tt

pub audited_bad : (r : Result CheckEnd Outcome) (text : List ℕ) (log kept : Log) → IfSome log.bytes (λ b. text ≡ b) → IfErr r (λ o. Judged o text) → IfErr r (λ o. Refuted o log kept)
audited_bad (Ok e) text log kept read j = tt
audited_bad (Err o) text log kept read j = refuted_by o text log kept read j

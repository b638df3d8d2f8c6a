-- What stands of a log that was opened, said of the log as it was before.
use Rattle.std.proofs.Common.{◌≡◌, ◌≢◌, ℕ, zero, suc, ◌≤◌, ◌⊎◌, List, [], ◌++◌, length, map, Bool, true, false, Option, Some, None, IfSome, refl, ap, sym, ◌∙◌, arith, subst, inl, inr, length-append, drop}
use Rattle.std.proofs.lemmas.List.{length-map}
use Rattle.std.specs.Prelude.{Ok, Err, ◌==◌, if◌then◌else◌, flat_map}
use Rattle.std.proofs.lemmas.Bool.Decides.{nat_tests}
use Rattle.std.specs.Io.KnownBytes.{append_known}
use Rattle.demi_core.specs.Outside.{Rose}
use Rattle.demi_core.specs.World.{Link, Log}
use Rattle.demi_link.specs.declared.phase.Cause.{Cause}
use Rattle.demi_link.specs.declared.phase.Cause.TheVariants as cause
use Rattle.demi_logq.specs.Items.{tells}
use Rattle.demi_logq.proofs.Saying.{tells_append}
use Rattle.demi_server.specs.Logs.{Contents, HadRecords, HeadedInPart, LogGrew, contents, contents_of, opened_log}
use Rattle.demi_served.specs.Ends.{StoreEnd}
use Rattle.demi_server.specs.Session.{HasCause, LinkServed, RxEndValue, TxEndValue}
use Rattle.demi_server.specs.declared.outcome.Outcome.{Outcome as SessionOutcome}
use Rattle.demi_spec.specs.LogText.{entry, header}
use Rattle.demi_spec.specs.Record.{Record, entries_of, log_of, payload, records}
use Rattle.demi_store.specs.Laws.{StoreBasis}
use Rattle.demi_cli.specs.Ended.{Refusal, Unmade, Unopened}
use Rattle.demi_cli.specs.Sessions.{SessionEnds, SessionOver}
use Rattle.demi_cli.specs.declared.outcome.Outcome.{Outcome}
use Rattle.demi_cli.specs.declared.outcome.Outcome.TheVariants as outcome
use Rattle.demi_server.proofs.Opens.{none_held, none_of}

-- it tells its bytes where it did before
headed_tells : (b : Bool) (told : Option (List ℕ)) → tells (if b then append_known told header else told) ≡ tells told
headed_tells true told = tells_append header told (append_known told header) refl
headed_tells false told = refl

pub opened_tells : (log mid : Log) → contents_of mid ≡ contents_of (opened_log log) → tells mid.bytes ≡ tells log.bytes
opened_tells log mid same = ap (λ (c : Contents). tells c.bytes) same ∙ headed_tells (log.held == 0) log.bytes

-- it is not empty, and it is as before where that was not
pub record Since (log mid : Log) : Type 0 where
  pub some : mid.held ≢ 0
  pub kept : log.held ≢ 0 → contents_of mid ≡ contents_of log
  pub headed : log.held ≡ 0 → contents_of mid ≡ contents (append_known log.bytes header) 8

since_by : (b : Bool) (log mid : Log) → (b ≡ true → log.held ≡ 0) → (b ≡ false → log.held ≢ 0)
    → contents_of mid ≡ contents (if b then append_known log.bytes header else log.bytes) (if b then 8 else log.held) → Since log mid
since_by true log mid none some same = record {
  some = λ e. let held : mid.held ≡ 8 = ap (λ (c : Contents). c.held) same in omega arith;
  kept = λ not. absurd (not (none refl));
  headed = λ e. same;
}
since_by false log mid none some same = record {
  some = λ e. some refl (sym (ap (λ (c : Contents). c.held) same) ∙ e);
  kept = λ not. same;
  headed = λ e. absurd (some refl e);
}

pub since : (log mid : Log) → contents_of mid ≡ contents_of (opened_log log) → Since log mid
since log mid same = since_by (log.held == 0) log mid (λ e. let f = e in grind (arith, nat_tests)) (λ e. let f = e in λ n. grind (arith, nat_tests)) same

-- a text of records has its header at least
text_long : (rs : List Record) → 8 ≤ length (log_of rs)
text_long rs = omega (arith, length-append header (flat_map entry (map payload rs)))

no_records : (rs : List Record) → length (log_of rs) ≡ 8 → rs ≡ []
no_records rs e =
    let none : map payload rs ≡ [] = none_held (map payload rs) e in
    none_of rs (sym (length-map rs payload) ∙ ap (λ (l : List (List ℕ)). length l) none)

no_size : (n : ℕ) (rs : List Record) → n ≡ 0 → ((n ≡ 0) × (rs ≡ [])) ⊎ (n ≡ length (log_of rs)) → rs ≡ []
no_size n rs e (inl both) = both.1
no_size n rs e (inr is) = absurd (omega (arith, text_long rs))

headed_size : (n : ℕ) (rs : List Record) → n ≡ 8 → ((n ≡ 0) × (rs ≡ [])) ⊎ (n ≡ length (log_of rs)) → rs ≡ []
headed_size n rs e (inl both) = both.1
headed_size n rs e (inr is) = no_records rs (sym is ∙ e)

had_by : (log mid : Log) (old now : List Record) → Since log mid → HadRecords log old → HadRecords mid now → (log.held ≡ 0) ⊎ (log.held ≢ 0) → HadRecords log now
had_by log mid old now s had has (inl none) =
    let first : old ≡ [] = no_size log.held old none had.size in
    let held : mid.held ≡ 8 = ap (λ (c : Contents). c.held) (s.headed none) in
    let second : now ≡ [] = headed_size mid.held now held has.size in
    subst (λ (rs : List Record). HadRecords log rs) (first ∙ sym second) had
had_by log mid old now s had has (inr some) =
    let same = s.kept some in
    record {
      read = subst (λ (b : Option (List ℕ)). IfSome b (λ t. records t ≡ Ok now)) (ap (λ (c : Contents). c.bytes) same) has.read;
      size = subst (λ n. ((n ≡ 0) × (now ≡ [])) ⊎ (n ≡ length (log_of now))) (ap (λ (c : Contents). c.held) same) has.size;
    }

zero_or_not : (n : ℕ) → (n ≡ 0) ⊎ (n ≢ 0)
zero_or_not zero = inl refl
zero_or_not (suc n) = inr (λ e. omega arith)

-- the records that it has now are those that it had
pub had_since : (log mid : Log) (old now : List Record) → contents_of mid ≡ contents_of (opened_log log) → HadRecords log old → HadRecords mid now → HadRecords log now
had_since log mid old now same had has = had_by log mid old now (since log mid same) had has (zero_or_not log.held)

-- an opened log that is opened again stays as it is
again_by : (b : Bool) (mid : Log) → (b ≡ true → mid.held ≡ 0) → mid.held ≢ 0 → (if b then append_known mid.bytes header else mid.bytes) ≡ mid.bytes
again_by true mid none some = absurd (some (none refl))
again_by false mid none some = refl

pub again : (mid : Log) → mid.held ≢ 0 → (opened_log mid).bytes ≡ mid.bytes
again mid some = again_by (mid.held == 0) mid (λ e. let f = e in grind (arith, nat_tests)) some

rose_from : (a b c : ℕ) → a ≤ b → Rose b c → Rose a c
rose_from a b c le rose = omega arith

pub rose_or : (torn : List ℕ) (a b c : ℕ) → a ≤ b → (torn ≡ []) ⊎ Rose b c → (torn ≡ []) ⊎ Rose a c
rose_or torn a b c le (inl none) = inl none
rose_or torn a b c le (inr rose) = inr (rose_from a b c le rose)

-- what is told of a log that tells its bytes
pub told_since : (a b : Option (List ℕ)) (P : Type 0) → tells b ≡ tells a → IfSome b (λ _. P) → IfSome a (λ _. P)
told_since None b P e is = tt
told_since (Some x) None P e is = absurd (cc)
told_since (Some x) (Some y) P e is = is

abbrev pub grew_since : (log mid kept : Log) (old new : List Record) → contents_of mid ≡ contents_of (opened_log log) → log.faults ≤ mid.faults → LogGrew mid kept old new → LogGrew log kept old new
grew_since log mid kept old new same later grew =
    let s = since log mid same in
    let bytes : (opened_log mid).bytes ≡ (opened_log log).bytes = again mid s.some ∙ ap (λ (c : Contents). c.bytes) same in
    let text : List ℕ = entries_of (drop (length old) new) ++ grew.torn in
    record {
      torn = grew.torn;
      grew = told_since log.bytes mid.bytes (kept.bytes ≡ append_known (opened_log log).bytes text) (opened_tells log mid same)
          (subst (λ (b : Option (List ℕ)). IfSome mid.bytes (λ _. kept.bytes ≡ append_known b text)) bytes grew.grew);
      front = grew.front;
      rose = rose_or grew.torn log.faults mid.faults kept.faults later grew.rose;
    }

cause_since : (c : Cause) (r0 r1 w0 w1 a b l : ℕ) → a ≤ b → HasCause c r0 r1 w0 w1 b l → HasCause c r0 r1 w0 w1 a l
cause_since cause.Clean r0 r1 w0 w1 a b l le h = h
cause_since cause.Bye r0 r1 w0 w1 a b l le h = h
cause_since (cause.Refused code) r0 r1 w0 w1 a b l le h = h
cause_since cause.ReadFault r0 r1 w0 w1 a b l le h = h
cause_since cause.WriteFault r0 r1 w0 w1 a b l le h = h
cause_since cause.LogFault r0 r1 w0 w1 a b l le h = rose_from a b l le h
cause_since cause.NoMemory r0 r1 w0 w1 a b l le h = h
cause_since cause.Lost r0 r1 w0 w1 a b l le h = h

-- what a link came to, as it tells it itself
abbrev pub LinkOver : StoreBasis → Link × Link → Link × Link → ℕ → ℕ → Cause → StoreEnd → RxEndValue → TxEndValue → List Record → Type 0
LinkOver =
    LinkServed (λ (l : Link). l.taken) (λ (l : Link). l.left) (λ (l : Link). l.read_faults) (λ (l : Link). l.written) (λ (l : Link). l.write_faults)

link_since : (base : StoreBasis) (before after : Link × Link) (a b l : ℕ) (c : Cause) (service : StoreEnd) (rx : RxEndValue) (tx : TxEndValue) (rs : List Record) → a ≤ b
    → LinkOver base before after b l c service rx tx rs → LinkOver base before after a l c service rx tx rs
link_since base before after a b l c service rx tx rs le s = record {
  known = s.known;
  run = s.run;
  moved = s.moved;
  ports = s.ports;
  pops = s.pops;
  took = s.took;
  pushes = s.pushes;
  wrote = s.wrote;
  base_is = s.base_is;
  served = s.served;
  to_end = s.to_end;
  on_read_fault = s.on_read_fault;
  why = cause_since c before.0.read_faults after.0.read_faults before.1.write_faults after.1.write_faults a b l le s.why;
}

pub session_since : (limit : ℕ) (link kept : Link) (log mid kept_log : Log) (o : SessionOutcome) (ends : SessionEnds) (old : List Record) → contents_of mid ≡ contents_of (opened_log log) → log.faults ≤ mid.faults → HadRecords log old
    → SessionOver limit link kept mid kept_log o ends → SessionOver limit link kept log kept_log o ends
session_since limit link kept log mid kept_log o ends old same later had r =
    let base : Bool → StoreBasis = λ t. record { records = r.old; limit = limit; told = t } in
    record {
      old = r.old;
      had = had_since log mid old r.old same had r.had;
      one = r.one;
      why = r.why;
      outcome_is = r.outcome_is;
      records = r.records;
      served = subst (λ (t : Bool). LinkOver (base t) r.one.link r.one.now log.faults kept_log.faults r.why ends.service r.one.rx_end r.one.tx_end r.records) (opened_tells log mid same)
          (link_since (base (tells mid.bytes)) r.one.link r.one.now log.faults mid.faults kept_log.faults r.why ends.service r.one.rx_end r.one.tx_end r.records later r.served);
      grew = grew_since log mid kept_log r.old r.records same later r.grew;
      settled = r.settled;
    }

-- why no session was made
headed_same : (mid kept : Log) → mid.held ≢ 0 → HeadedInPart mid kept → contents_of kept ≡ contents_of mid
headed_same mid kept some (inl same) = same
headed_same mid kept some (inr part) = absurd (some part.0)

not_told : (told : Option (List ℕ)) (rs : List Record) (at : ℕ) → IfSome told (λ b. records b ≡ Ok rs) → IfSome told (λ b. records b ≡ Err at) → tells told ≡ false
not_told None rs at good bad = refl
not_told (Some b) rs at good bad = absurd (cc)

-- a log that was opened and is refused afterwards is as it was opened
pub unmade_since : (o : Outcome) (log mid kept : Log) (old now : List Record) → contents_of mid ≡ contents_of (opened_log log) → log.faults ≤ mid.faults → HadRecords log old → IfSome mid.bytes (λ b. records b ≡ Ok now)
    → Unopened o mid kept → Unmade o log kept × (contents_of kept ≡ contents_of (opened_log log))
unmade_since (outcome.BadLog at) log mid kept old now same later had good u = (sym (opened_tells log mid same) ∙ not_told mid.bytes now at good u.0, u.2 ∙ same)
unmade_since outcome.LogFault log mid kept old now same later had good u =
    (rose_from log.faults mid.faults kept.faults later u.0, headed_same mid kept (since log mid same).some u.1 ∙ same)
unmade_since outcome.NoMemory log mid kept old now same later had good u = (tt, headed_same mid kept (since log mid same).some u ∙ same)
unmade_since outcome.Done log mid kept old now same later had good u = absurd u
unmade_since outcome.Usage log mid kept old now same later had good u = absurd u
unmade_since outcome.NotYet log mid kept old now same later had good u = absurd u
unmade_since (outcome.BadReply link index) log mid kept old now same later had good u = absurd u
unmade_since (outcome.BadEntry version) log mid kept old now same later had good u = absurd u
unmade_since outcome.ReadFault log mid kept old now same later had good u = absurd u
unmade_since outcome.WriteFault log mid kept old now same later had good u = absurd u
unmade_since outcome.PrintFault log mid kept old now same later had good u = absurd u
unmade_since (outcome.Refused code) log mid kept old now same later had good u = absurd u
unmade_since outcome.CannotOpen log mid kept old now same later had good u = absurd u

pub refusal_since : (o : Outcome) (f0 f1 f2 f3 : ℕ) → f0 ≤ f1 → f3 ≡ f2 → Refusal o f1 f2 → Refusal o f0 f3
refusal_since outcome.CannotOpen f0 f1 f2 f3 le e r = subst (Rose f0) (sym e) (rose_from f0 f1 f2 le r)
refusal_since outcome.NoMemory f0 f1 f2 f3 le e r = tt
refusal_since (outcome.BadLog at) f0 f1 f2 f3 le e r = absurd r
refusal_since outcome.LogFault f0 f1 f2 f3 le e r = absurd r
refusal_since outcome.Done f0 f1 f2 f3 le e r = absurd r
refusal_since outcome.Usage f0 f1 f2 f3 le e r = absurd r
refusal_since outcome.NotYet f0 f1 f2 f3 le e r = absurd r
refusal_since (outcome.BadReply link index) f0 f1 f2 f3 le e r = absurd r
refusal_since (outcome.BadEntry version) f0 f1 f2 f3 le e r = absurd r
refusal_since outcome.ReadFault f0 f1 f2 f3 le e r = absurd r
refusal_since outcome.WriteFault f0 f1 f2 f3 le e r = absurd r
refusal_since outcome.PrintFault f0 f1 f2 f3 le e r = absurd r
refusal_since (outcome.Refused code) f0 f1 f2 f3 le e r = absurd r

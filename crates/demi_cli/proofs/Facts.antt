-- What a status says of a run of `pipe`, with a session and without.
use Rattle.std.proofs.Common.{◌≡◌, ◌≢◌, ◌<◌, ◌⊎◌, List, ℕ, Option, Some, None, refl, ap, sym, ◌∙◌, arith, inl, inr}
use Rattle.std.specs.Prelude.{IfNone, IfSome, IsSome, MatchOption, true}
use Rattle.demi_core.specs.World.{WorldState}
use Rattle.demi_link.specs.Ends.{IsDone}
use Rattle.demi_link.specs.declared.phase.Cause.{Cause}
use Rattle.demi_link.specs.declared.phase.Cause.TheVariants as cause
use Rattle.demi_logq.specs.Items.{tells}
use Rattle.demi_served.specs.Links.{LinkEnded, LinkPorts}
use Rattle.demi_served.specs.Served.{TornTalk}
use Rattle.demi_served.specs.Talks.{LinkRun, Talk}
use Rattle.demi_closed.specs.TextEnds.{ending_of}
use Rattle.demi_cli.specs.Ended.{RanWith, RanWithout}
use Rattle.demi_server.specs.Logs.{HadRecords, contents_of, opened_log}
use Rattle.demi_spec.specs.Record.{Record}
use Rattle.demi_cli.specs.Given.{A_log, Gave, Keeps, LinkOf, LinkUnused, LogOf, NoLog, SameButWarned}
use Rattle.demi_cli.specs.Outcome.{status_of, reported}
use Rattle.demi_cli.specs.Run.{BadLater, BadLog, CannotOpen, FinishedRun, FrontRun, GoodLog, LogFaulted, ReadFaulted, StoppedRun, Unserved, Warned, WriteFaulted, outcome_at_end, status_by}
use Rattle.demi_cli.specs.Serving.{Stopped, refused_code}
use Rattle.demi_cli.specs.Sessions.{AccountedRun, IsFault, SessionEnds, outcome_by}
use Rattle.demi_cli.specs.declared.outcome.Outcome.{Outcome}
use Rattle.demi_cli.specs.declared.outcome.Outcome.TheVariants as outcome
use Rattle.demi_cli.proofs.Clauses.{link_of, log_of, mid_said, same_but}
use Rattle.demi_cli.proofs.Links.{at_end, ends_by, finished, outcome_is, over, stopped}
use Rattle.demi_cli.proofs.Without.{SaysOf, says_without, text_is}

-- what a run says by its status, whether a session ran or not
pub record Facts (limit : ℕ) (n : ℕ) (old new : WorldState) (name : List ℕ) (f0 f1 : ℕ) : Type 0 where
  pub keeps : Keeps old new name
  pub not_usage : n ≢ 1
  pub no_audit : n ≢ 9
  pub cannot_open : n ≡ 8 → CannotOpen old new name f0 f1
  pub bad_log : n ≡ 7 → BadLog old new name ⊎ BadLater old new name
  pub good_log : n ≢ 7 → n ≢ 4 → n ≢ 5 → GoodLog old new name
  pub log_fault : n ≡ 4 → LogFaulted old new name
  pub read_fault : n ≡ 2 → ReadFaulted old new
  pub write_fault : n ≡ 3 → WriteFaulted old new
  pub whole : (n ≡ 0) ⊎ (n ≡ 6) → FinishedRun limit old new name n
  pub front : (why : Cause) → IsFault why → n ≡ status_by why → LinkUnused old new ⊎ FrontRun limit old new name
  pub said : new.said ≡ old.said
  pub warned : Warned true n old new

-- what it says where none ran
pub record Bare (limit : ℕ) (n : ℕ) (old new : WorldState) (name : List ℕ) (f0 f1 : ℕ) : Type 0 where
  pub facts : Facts limit n old new name f0 f1
  pub unserved : (why : Cause) → IsFault why → n ≡ status_by why → Unserved why old new name
  pub never : (n ≡ 0) ⊎ ((n ≡ 2) ⊎ ((n ≡ 3) ⊎ (n ≡ 6))) → ⊥

-- what it says where one ran, with these ends
pub record Full (limit : ℕ) (n : ℕ) (old new : WorldState) (name : List ℕ) (f0 f1 : ℕ) (ends : SessionEnds) : Type 0 where
  pub facts : Facts limit n old new name f0 f1
  pub stopped : StoppedRun limit old new name
  pub accounted : AccountedRun limit n old new name ends

-- a fault that is no other than the one of this status
only_log : (why : Cause) (old new : WorldState) (name : List ℕ) → IsFault why → 4 ≡ status_by why → Unserved cause.LogFault old new name → Unserved why old new name
only_log cause.LogFault old new name fault e u = u
only_log cause.NoMemory old new name fault e u = absurd (omega arith)
only_log cause.ReadFault old new name fault e u = absurd (omega arith)
only_log cause.WriteFault old new name fault e u = absurd (omega arith)
only_log cause.Clean old new name fault e u = absurd fault
only_log cause.Bye old new name fault e u = absurd fault
only_log (cause.Refused code) old new name fault e u = absurd fault
only_log cause.Lost old new name fault e u = absurd fault

only_memory : (why : Cause) (old new : WorldState) (name : List ℕ) → IsFault why → 5 ≡ status_by why → Unserved cause.NoMemory old new name → Unserved why old new name
only_memory cause.NoMemory old new name fault e u = u
only_memory cause.LogFault old new name fault e u = absurd (omega arith)
only_memory cause.ReadFault old new name fault e u = absurd (omega arith)
only_memory cause.WriteFault old new name fault e u = absurd (omega arith)
only_memory cause.Clean old new name fault e u = absurd fault
only_memory cause.Bye old new name fault e u = absurd fault
only_memory (cause.Refused code) old new name fault e u = absurd fault
only_memory cause.Lost old new name fault e u = absurd fault

no_fault : (n : ℕ) (why : Cause) → IsFault why → n ≡ status_by why → 6 < n → ⊥
no_fault n cause.NoMemory fault e more = omega arith
no_fault n cause.LogFault fault e more = omega arith
no_fault n cause.ReadFault fault e more = omega arith
no_fault n cause.WriteFault fault e more = omega arith
no_fault n cause.Clean fault e more = absurd fault
no_fault n cause.Bye fault e more = absurd fault
no_fault n (cause.Refused code) fault e more = absurd fault
no_fault n cause.Lost fault e more = absurd fault

unused_log : (why : Cause) (old new : WorldState) (name : List ℕ) → Unserved why old new name → LinkUnused old new
unused_log cause.LogFault old new name u = u.0
unused_log cause.NoMemory old new name u = u.0
unused_log cause.ReadFault old new name u = absurd u
unused_log cause.WriteFault old new name u = absurd u
unused_log cause.Clean old new name u = absurd u
unused_log cause.Bye old new name u = absurd u
unused_log (cause.Refused code) old new name u = absurd u
unused_log cause.Lost old new name u = absurd u

-- none of these numbers is above three but the last
not_served : (n : ℕ) → (n ≢ 0) → (n ≢ 2) → (n ≢ 3) → (n ≢ 6) → (n ≡ 0) ⊎ ((n ≡ 2) ⊎ ((n ≡ 3) ⊎ (n ≡ 6))) → ⊥
not_served n a b c d (inl e) = a e
not_served n a b c d (inr (inl e)) = b e
not_served n a b c d (inr (inr (inl e))) = c e
not_served n a b c d (inr (inr (inr e))) = d e

not_whole : {P : Type 0} (n : ℕ) → (n ≢ 0) → (n ≢ 6) → (n ≡ 0) ⊎ (n ≡ 6) → P
not_whole n a b (inl e) = absurd (a e)
not_whole n a b (inr e) = absurd (b e)

good : (old new : WorldState) (name : List ℕ) → NoLog old new ⊎ ((d : LogOf old new name) × ((had : List Record) × HadRecords d.log had × (contents_of d.kept ≡ contents_of (opened_log d.log)))) → GoodLog old new name
good old new name (inl none) = inl none
good old new name (inr d) = inr (d.0, (d.1.0, d.1.1))

below_nine : (c : Cause) → status_by c ≢ 9
below_nine cause.Clean = λ e. omega arith
below_nine cause.Bye = λ e. omega arith
below_nine (cause.Refused code) = λ e. omega arith
below_nine cause.ReadFault = λ e. omega arith
below_nine cause.WriteFault = λ e. omega arith
below_nine cause.LogFault = λ e. omega arith
below_nine cause.NoMemory = λ e. omega arith
below_nine cause.Lost = λ e. omega arith

no_print : (c : Cause) → outcome_by c ≢ outcome.PrintFault
no_print cause.Clean = λ e. cc
no_print cause.Bye = λ e. cc
no_print (cause.Refused code) = λ e. cc
no_print cause.ReadFault = λ e. cc
no_print cause.WriteFault = λ e. cc
no_print cause.LogFault = λ e. cc
no_print cause.NoMemory = λ e. cc
no_print cause.Lost = λ e. cc

either : {A B P : Type 0} → (A → P) → (B → P) → A ⊎ B → P
either f g (inl a) = f a
either f g (inr b) = g b

module _ (limit : ℕ) (n : ℕ) (old new : WorldState) (name : List ℕ) (f0 f1 : ℕ) where
  -- what each outcome without a session says of its status
  bare_by : (o : Outcome) → n ≡ status_of o → Keeps old new name → new.said ≡ old.said → new.warned ≡ (reported o old).warned → SaysOf o old new name f0 f1 → Bare limit n old new name f0 f1
  bare_by (outcome.BadLog at) is keeps said text u = record {
    facts = record {
      keeps = keeps;
      not_usage = λ e. omega arith;
      no_audit = λ e. omega arith;
      cannot_open = λ e. absurd (omega arith);
      bad_log = λ e. u;
      good_log = λ a b c. absurd (a is);
      log_fault = λ e. absurd (omega arith);
      read_fault = λ e. absurd (omega arith);
      write_fault = λ e. absurd (omega arith);
      whole = not_whole n (λ e. omega arith) (λ e. omega arith);
      front = λ why fault e. absurd (no_fault n why fault e (omega arith));
      said = said;
      warned = (outcome.BadLog at, is, (λ e. cc), text);
    };
    unserved = λ why fault e. absurd (no_fault n why fault e (omega arith));
    never = not_served n (λ e. omega arith) (λ e. omega arith) (λ e. omega arith) (λ e. omega arith);
  }
  bare_by outcome.LogFault is keeps said text u =
      let unserved : (why : Cause) → IsFault why → n ≡ status_by why → Unserved why old new name = λ why fault e. only_log why old new name fault (sym is ∙ e) u.1 in record {
        facts = record {
          keeps = keeps;
          not_usage = λ e. omega arith;
          no_audit = λ e. omega arith;
          cannot_open = λ e. absurd (omega arith);
          bad_log = λ e. absurd (omega arith);
          good_log = λ a b c. absurd (b is);
          log_fault = λ e. u.0;
          read_fault = λ e. absurd (omega arith);
          write_fault = λ e. absurd (omega arith);
          whole = not_whole n (λ e. omega arith) (λ e. omega arith);
          front = λ why fault e. inl (unused_log why old new name (unserved why fault e));
          said = said;
          warned = (outcome.LogFault, is, (λ e. cc), text);
        };
        unserved = unserved;
        never = not_served n (λ e. omega arith) (λ e. omega arith) (λ e. omega arith) (λ e. omega arith);
      }
  bare_by outcome.NoMemory is keeps said text u =
      let unserved : (why : Cause) → IsFault why → n ≡ status_by why → Unserved why old new name = λ why fault e. only_memory why old new name fault (sym is ∙ e) u in record {
        facts = record {
          keeps = keeps;
          not_usage = λ e. omega arith;
          no_audit = λ e. omega arith;
          cannot_open = λ e. absurd (omega arith);
          bad_log = λ e. absurd (omega arith);
          good_log = λ a b c. absurd (c is);
          log_fault = λ e. absurd (omega arith);
          read_fault = λ e. absurd (omega arith);
          write_fault = λ e. absurd (omega arith);
          whole = not_whole n (λ e. omega arith) (λ e. omega arith);
          front = λ why fault e. inl (unused_log why old new name (unserved why fault e));
          said = said;
          warned = (outcome.NoMemory, is, (λ e. cc), text);
        };
        unserved = unserved;
        never = not_served n (λ e. omega arith) (λ e. omega arith) (λ e. omega arith) (λ e. omega arith);
      }
  bare_by outcome.CannotOpen is keeps said text u = record {
    facts = record {
      keeps = keeps;
      not_usage = λ e. omega arith;
      no_audit = λ e. omega arith;
      cannot_open = λ e. u;
      bad_log = λ e. absurd (omega arith);
      good_log = λ a b c. good old new name u.2;
      log_fault = λ e. absurd (omega arith);
      read_fault = λ e. absurd (omega arith);
      write_fault = λ e. absurd (omega arith);
      whole = not_whole n (λ e. omega arith) (λ e. omega arith);
      front = λ why fault e. absurd (no_fault n why fault e (omega arith));
      said = said;
      warned = (outcome.CannotOpen, is, (λ e. cc), text);
    };
    unserved = λ why fault e. absurd (no_fault n why fault e (omega arith));
    never = not_served n (λ e. omega arith) (λ e. omega arith) (λ e. omega arith) (λ e. omega arith);
  }
  bare_by outcome.Done is keeps said text u = absurd u
  bare_by outcome.Usage is keeps said text u = absurd u
  bare_by outcome.NotYet is keeps said text u = absurd u
  bare_by (outcome.BadReply link index) is keeps said text u = absurd u
  bare_by (outcome.BadEntry version) is keeps said text u = absurd u
  bare_by outcome.ReadFault is keeps said text u = absurd u
  bare_by outcome.WriteFault is keeps said text u = absurd u
  bare_by outcome.PrintFault is keeps said text u = absurd u
  bare_by (outcome.Refused code) is keeps said text u = absurd u

  -- without a session
  pub bare : (o : Outcome) (mid : WorldState) → RanWithout old mid f0 f1 name o → n ≡ status_of o → new ≡ reported o mid → Bare limit n old new name f0 f1
  bare o mid r status is =
      let same : SameButWarned mid new = same_but o mid new is in
      bare_by o status (r.gave, (mid, r.keeps, same)) (ap (λ (w : WorldState). w.said) same ∙ mid_said r.gave name old mid r.keeps) (text_is o old mid new name r.gave r.keeps is) (says_without o old mid new name f0 f1 r is)

  -- with one
  pub full : (o : Outcome) (mid : WorldState) (ends : SessionEnds) → ((l : LinkRun) (e : LinkPorts) (t : Talk) → LinkEnded l e t → TornTalk l t)
      → RanWith limit old mid name o ends → n ≡ status_of o → new ≡ reported o mid → Full limit n old new name f0 f1 ends
  full o mid ends law r status is =
      let s = r.at.ran in
      let gave : Gave = A_log r.log r.kept (Some (r.link, r.kept_link)) in
      let same : SameButWarned mid new = same_but o mid new is in
      let d : LogOf old new name = log_of old mid new name r.log r.kept (Some (r.link, r.kept_link)) r.keeps same in
      let l : LinkOf old new = link_of old mid new name r.log r.kept (r.link, r.kept_link) r.keeps same in
      let v = over limit r.link r.kept_link r.log r.kept r.at.came_to ends s in
      let o_is : o ≡ outcome_by s.why = outcome_is o r.at.came_to s.why r.at.outcome_is s.outcome_is in
      let by : n ≡ status_by s.why = status ∙ ap status_of o_is in
      let e = ends_by n s.why r.link.read_faults r.kept_link.read_faults r.link.write_faults r.kept_link.write_faults r.log.faults r.kept.faults v.known by v.why in
      let stop : Stopped limit (tells r.log.bytes) s.old r.link r.kept_link r.log r.kept = stopped limit r.link r.kept_link r.log r.kept r.at.came_to ends s law in
      let text : new.warned ≡ (reported o old).warned = text_is o old mid new name gave r.keeps is in
      let whole : IsDone s.why → FinishedRun limit old new name n = λ done.
      let at : o ≡ outcome_at_end (refused_code (ending_of s.why)) = o_is ∙ at_end s.why done in record {
        of_log = d;
        of_link = l;
        code = refused_code (ending_of s.why);
        records = s.old;
        had = s.had;
        whole = finished limit r.link r.kept_link r.log r.kept r.at.came_to ends s done;
        status_is = status ∙ ap status_of at;
        warned_is = text ∙ ap (λ (x : Outcome). (reported x old).warned) at;
      } in record {
        facts = record {
          keeps = (gave, (mid, r.keeps, same));
          not_usage = e.never.0;
          no_audit = λ x. below_nine s.why (sym by ∙ x);
          cannot_open = λ x. absurd (e.never.2 x);
          bad_log = λ x. absurd (e.never.1 x);
          good_log = λ a b c. inr (d, (s.old, s.had));
          log_fault = λ x. (d, e.log x);
          read_fault = λ x. (l, e.read x);
          write_fault = λ x. (l, e.write x);
          whole = either (λ x. whole (e.clean x)) (λ x. whole (e.refused x));
          front = λ why fault x. inr (record {
            of_log = d;
            records = s.old;
            had = s.had;
            of_link = l;
            taken = stop.taken;
            ended = stop.ended;
            said = stop.written;
            took = stop.took;
            says = stop.says;
            front = stop.front;
          });
          said = ap (λ (w : WorldState). w.said) same ∙ mid_said gave name old mid r.keeps;
          warned = (o, status, (λ x. no_print s.why (sym o_is ∙ x)), text);
        };
        stopped = record { of_log = d; of_link = l; records = s.old; had = s.had; stopped = stop };
        accounted = record { of_log = d; of_link = l; came_to = r.at.came_to; status_is = status ∙ ap status_of r.at.outcome_is; ran = s };
      }

-- what a status says by the ends that the run left, where it left any
pub record Both (limit : ℕ) {E : Type 0} (n : ℕ) (old new : WorldState) (name : List ℕ) (f0 f1 : ℕ) (ends : Option E) (seen : E → SessionEnds) : Type 0 where
  pub facts : Facts limit n old new name f0 f1
  pub stopped : (why : Cause) → IsFault why → n ≡ status_by why → MatchOption ends (Unserved why old new name) (λ _. StoppedRun limit old new name)
  pub accounted : IfSome ends (λ e. AccountedRun limit n old new name (seen e))
  pub there : (n ≡ 0) ⊎ ((n ≡ 2) ⊎ ((n ≡ 3) ⊎ (n ≡ 6))) → IsSome ends

pub both : (limit : ℕ) {E : Type 0} (n : ℕ) (old mid new : WorldState) (name : List ℕ) (f0 f1 : ℕ) (o : Outcome) (ends : Option E) (seen : E → SessionEnds)
    → ((l : LinkRun) (e : LinkPorts) (t : Talk) → LinkEnded l e t → TornTalk l t)
    → IfNone ends (RanWithout old mid f0 f1 name o) → IfSome ends (λ e. RanWith limit old mid name o (seen e)) → n ≡ status_of o → new ≡ reported o mid → Both limit n old new name f0 f1 ends seen
both limit n old mid new name f0 f1 o None seen law without ran status is =
    let b = bare limit n old new name f0 f1 o mid without status is in
    record { facts = b.facts; stopped = b.unserved; accounted = tt; there = λ e. absurd (b.never e) }
both limit n old mid new name f0 f1 o (Some e) seen law without ran status is =
    let b = full limit n old new name f0 f1 o mid (seen e) law ran status is in
    record { facts = b.facts; stopped = λ why fault x. b.stopped; accounted = b.accounted; there = λ x. refl }

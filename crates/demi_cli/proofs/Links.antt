-- What a session over a link comes to, in the words of the link's run.
use Rattle.std.proofs.Common.{◌≡◌, ◌≢◌, ◌⊎◌, ℕ, ◌+◌, List, [], ◌∷◌, length, take, drop, refl, ap, sym, ◌∙◌, arith, subst}
use Rattle.demi_core.specs.Outside.{Rose}
use Rattle.demi_core.specs.World.{Link, Log}
use Rattle.demi_link.specs.Ends.{IsDone, IsKnown}
use Rattle.demi_link.specs.declared.phase.Cause.{Cause}
use Rattle.demi_link.specs.declared.phase.Cause.TheVariants as cause
use Rattle.demi_logq.specs.Items.{tells}
use Rattle.demi_port_core.specs.Trails.{StartsWith}
use Rattle.demi_served.specs.Links.{LinkEnded, LinkPorts}
use Rattle.demi_served.specs.Served.{TornTalk}
use Rattle.demi_served.specs.Talks.{LinkRun, Talk}
use Rattle.demi_server.specs.Outcomes.{told_of}
use Rattle.demi_server.specs.Session.{HasCause}
use Rattle.demi_closed.specs.TextEnds.{ending_of}
use Rattle.demi_server.specs.declared.outcome.Outcome.{Outcome as SessionOutcome}
use Rattle.demi_spec.specs.Input.{Asked, Open}
use Rattle.demi_store.specs.Laws.{StoreBasis}
use Rattle.demi_cli.specs.Run.{outcome_at_end, status_by}
use Rattle.demi_cli.specs.Serving.{Finished, Stopped, records_of, refused_code, replies_to, text_to}
use Rattle.demi_cli.specs.Sessions.{SessionEnds, SessionOver, as_outcome, outcome_by}
use Rattle.demi_cli.specs.declared.outcome.Outcome.{Outcome}
use Rattle.demi_cli.proofs.Since.{LinkOver}

-- the outcome of a run by why its link ended
told_by : (c : Cause) → as_outcome (told_of 0 c) ≡ outcome_by c
told_by cause.Clean = refl
told_by cause.Bye = refl
told_by (cause.Refused code) = refl
told_by cause.ReadFault = refl
told_by cause.WriteFault = refl
told_by cause.LogFault = refl
told_by cause.NoMemory = refl
told_by cause.Lost = refl

pub outcome_is : (o : Outcome) (s : SessionOutcome) (c : Cause) → o ≡ as_outcome s → s ≡ told_of 0 c → o ≡ outcome_by c
outcome_is o s c is told = is ∙ ap as_outcome told ∙ told_by c

-- what a status says of the end of a link
pub record Ends (n : ℕ) (c : Cause) (r0 r1 w0 w1 l0 l1 : ℕ) : Type 0 where
  pub clean : n ≡ 0 → IsDone c
  pub refused : n ≡ 6 → IsDone c
  pub read : n ≡ 2 → Rose r0 r1
  pub write : n ≡ 3 → Rose w0 w1
  pub log : n ≡ 4 → Rose l0 l1
  pub never : (n ≢ 1) × (n ≢ 7) × (n ≢ 8)

pub ends_by : (n : ℕ) (c : Cause) (r0 r1 w0 w1 l0 l1 : ℕ) → IsKnown c → n ≡ status_by c → HasCause c r0 r1 w0 w1 l0 l1 → Ends n c r0 r1 w0 w1 l0 l1
ends_by n cause.Clean r0 r1 w0 w1 l0 l1 known is why =
    record { clean = λ e. tt; refused = λ e. tt; read = λ e. absurd (omega arith); write = λ e. absurd (omega arith); log = λ e. absurd (omega arith); never = ((λ e. omega arith), (λ e. omega arith), (λ e. omega arith)) }
ends_by n cause.Bye r0 r1 w0 w1 l0 l1 known is why =
    record { clean = λ e. tt; refused = λ e. tt; read = λ e. absurd (omega arith); write = λ e. absurd (omega arith); log = λ e. absurd (omega arith); never = ((λ e. omega arith), (λ e. omega arith), (λ e. omega arith)) }
ends_by n (cause.Refused code) r0 r1 w0 w1 l0 l1 known is why =
    record { clean = λ e. tt; refused = λ e. tt; read = λ e. absurd (omega arith); write = λ e. absurd (omega arith); log = λ e. absurd (omega arith); never = ((λ e. omega arith), (λ e. omega arith), (λ e. omega arith)) }
ends_by n cause.ReadFault r0 r1 w0 w1 l0 l1 known is why =
    record { clean = λ e. absurd (omega arith); refused = λ e. absurd (omega arith); read = λ e. why; write = λ e. absurd (omega arith); log = λ e. absurd (omega arith); never = ((λ e. omega arith), (λ e. omega arith), (λ e. omega arith)) }
ends_by n cause.WriteFault r0 r1 w0 w1 l0 l1 known is why =
    record { clean = λ e. absurd (omega arith); refused = λ e. absurd (omega arith); read = λ e. absurd (omega arith); write = λ e. why; log = λ e. absurd (omega arith); never = ((λ e. omega arith), (λ e. omega arith), (λ e. omega arith)) }
ends_by n cause.LogFault r0 r1 w0 w1 l0 l1 known is why =
    record { clean = λ e. absurd (omega arith); refused = λ e. absurd (omega arith); read = λ e. absurd (omega arith); write = λ e. absurd (omega arith); log = λ e. why; never = ((λ e. omega arith), (λ e. omega arith), (λ e. omega arith)) }
ends_by n cause.NoMemory r0 r1 w0 w1 l0 l1 known is why =
    record { clean = λ e. absurd (omega arith); refused = λ e. absurd (omega arith); read = λ e. absurd (omega arith); write = λ e. absurd (omega arith); log = λ e. absurd (omega arith); never = ((λ e. omega arith), (λ e. omega arith), (λ e. omega arith)) }
ends_by n cause.Lost r0 r1 w0 w1 l0 l1 known is why = absurd known

-- the outcome at an end of the input
pub at_end : (c : Cause) → IsDone c → outcome_by c ≡ outcome_at_end (refused_code (ending_of c))
at_end cause.Clean done = refl
at_end cause.Bye done = refl
at_end (cause.Refused code) done = refl
at_end cause.ReadFault done = absurd done
at_end cause.WriteFault done = absurd done
at_end cause.LogFault done = absurd done
at_end cause.NoMemory done = absurd done
at_end cause.Lost done = absurd done

closed : (c : Cause) → IsDone c → ending_of c ≢ Open
closed cause.Clean done = λ e. cc
closed cause.Bye done = λ e. cc
closed (cause.Refused code) done = λ e. cc
closed cause.ReadFault done = absurd done
closed cause.WriteFault done = absurd done
closed cause.LogFault done = absurd done
closed cause.NoMemory done = absurd done
closed cause.Lost done = absurd done

first_is : {A : Type 0} (x y : A) → x ∷ [] ≡ y ∷ [] → x ≡ y
first_is x y e = cc

module _ (limit : ℕ) (link kept : Link) (log kept_log : Log) (o : SessionOutcome) (ends : SessionEnds) (r : SessionOver limit link kept log kept_log o ends) where
  abbrev base : StoreBasis
  base = record { records = r.old; limit = limit; told = tells log.bytes }

  -- the link as it was given and as it is kept
  pub over : LinkOver base (link, link) (kept, kept) log.faults kept_log.faults r.why ends.service r.one.rx_end r.one.tx_end r.records
  over =
      subst (λ (x : Link × Link). LinkOver base (link, link) x log.faults kept_log.faults r.why ends.service r.one.rx_end r.one.tx_end r.records) (sym (first_is (kept, kept) r.one.now r.one.is))
      (subst (λ (x : Link × Link). LinkOver base x r.one.now log.faults kept_log.faults r.why ends.service r.one.rx_end r.one.tx_end r.records) (sym (first_is (link, link) r.one.link r.one.was)) r.served)

  pub finished : IsDone r.why → Finished limit (tells log.bytes) r.old link kept log kept_log (refused_code (ending_of r.why))
  finished done =
      let s = over in
      let e = s.to_end done in record {
        taken = s.run.read;
        ended = s.run.ended;
        requests = e.requests;
        how = ending_of r.why;
        written = s.run.written;
        records = r.records;
        took = record { left = s.moved.left_is; count = s.moved.taken_is };
        at_end = s.moved.ended_is.none;
        parses = e.parses;
        closed = closed r.why done;
        code_is = refl;
        says = s.moved.written_is;
        all = λ t. s.served.all_output t done ∙ ap (λ (a : List Asked). text_to limit r.old a) s.served.link.asks;
        added = λ t. s.served.all_records t done ∙ ap (λ (a : List Asked). records_of limit r.old a) s.served.link.asks;
        grew = r.grew;
        whole = r.settled done;
      }

  pub stopped : ((l : LinkRun) (e : LinkPorts) (t : Talk) → LinkEnded l e t → TornTalk l t) → Stopped limit (tells log.bytes) r.old link kept log kept_log
  stopped law =
      let s = over in
      let n : ℕ = length s.served.talk.replies in
      let torn = law s.run s.ports s.served.talk s.served.link in record {
        taken = s.run.read;
        ended = s.run.ended;
        replies = s.served.talk.replies;
        written = s.run.written;
        records = r.records;
        took = record { left = s.moved.left_is; count = s.moved.taken_is };
        at_end = s.moved.ended_is.none;
        says = s.moved.written_is;
        torn = torn.written;
        due = λ t. s.served.replies t ∙ ap (λ (a : List Asked). take n (replies_to limit r.old a)) s.served.link.asks;
        front = λ t. subst (λ (a : List Asked). StartsWith (text_to limit r.old a) s.run.written) s.served.link.asks (s.served.output t);
        added = λ t. subst (λ (a : List Asked). (drop (length r.old) r.records ≡ records_of limit r.old (take n a)) ⊎ (drop (length r.old) r.records ≡ records_of limit r.old (take (n + 1) a))) s.served.link.asks (s.served.records_are t);
        grew = r.grew;
      }

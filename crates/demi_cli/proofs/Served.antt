-- A session's contract, said of what the link and the log tell, and what a run of `pipe` makes of it.
use Rattle.std.proofs.Common.{◌≡◌, ℕ, ◌≤◌, List, [], ◌∷◌, length, Option, Some, None, IfSome, refl, ap, sym, ◌∙◌, arith, subst, inr}
use Rattle.std.specs.Prelude.{Err, IfNone, IfOk, Ok, Result, map}
use Rattle.demi_core.specs.World.{Link, Log, WorldState, after_keep_link, after_keep_log, after_links, after_log}
use Rattle.demi_link.specs.declared.phase.Cause.{Cause}
use Rattle.demi_logq.specs.Items.{tells}
use Rattle.demi_served.specs.Ends.{StoreEnd}
use Rattle.demi_server.specs.Logs.{HadRecords, Unmade as SessionUnmade, contents_of, log_at, opened_log}
use Rattle.demi_server.specs.Session.{LinkServed, RanOne, RxEndValue, TxEndValue}
use Rattle.demi_server.specs.declared.outcome.Outcome.{Outcome as SessionOutcome}
use Rattle.demi_server.specs.declared.outcome.Outcome.TheVariants as session
use Rattle.demi_spec.specs.Record.{Record, records}
use Rattle.demi_store.specs.Laws.{StoreBasis}
use Rattle.demi_cli.specs.Ended.{LinkNone, LinkRan, LinkWithout, RanWith, RanWithout, Unopened}
use Rattle.demi_cli.specs.Given.{A_log, with_link}
use Rattle.demi_cli.specs.Sessions.{SessionEnds, SessionOver, as_outcome, link_at}
use Rattle.demi_cli.specs.declared.outcome.Outcome.{Outcome}
use Rattle.demi_cli.proofs.Since.{LinkOver, refusal_since, session_since, unmade_since}

-- the one element of a list
pub one_of : {A : Type 0} (xs : List A) → length xs ≡ 1 → (x : A) × (xs ≡ x ∷ [])
one_of [] e = absurd (omega arith)
one_of (x ∷ []) e = (x, refl)
one_of (x ∷ y ∷ xs) e = absurd (omega arith)

-- a list of one link that was given
pub one_given : {V E P : Type 0} (r : Result V E) (items : V → List P) (seen : P → Link) (w0 w1 : WorldState) → IfOk r (λ v. length (items v) ≡ 1) → IfOk r (λ v. w1 ≡ after_links w0 (map seen (items v)))
    → IfOk r (λ v. (x : P) × (items v ≡ x ∷ []) × (w1 ≡ after_links w0 (seen x ∷ [])))
one_given {V} {E} {P} (Ok v) items seen w0 w1 count given =
    let o = one_of (items v) count in
    (o.0, o.1, given ∙ ap (λ (l : List P). after_links w0 (map seen l)) o.1)
one_given (Err e) items seen w0 w1 count given = tt

first_is : {A : Type 0} (x y : A) → x ∷ [] ≡ y ∷ [] → x ≡ y
first_is x y e = cc

-- the outcome of a session that was not made
pub unmade_as : (o : SessionOutcome) (log kept : Log) → SessionUnmade o log kept → Unopened (as_outcome o) log kept
unmade_as (session.BadLog at) log kept u = u
unmade_as session.NoMemory log kept u = u
unmade_as session.LogFault log kept u = u
unmade_as session.Served log kept u = absurd u
unmade_as (session.ReadFault link) log kept u = absurd u
unmade_as (session.WriteFault link) log kept u = absurd u
unmade_as (session.Refused link code) log kept u = absurd u

module _ {I O D : Type 0} (taken : I → ℕ) (left : I → Option (List ℕ)) (read_faults : I → ℕ) (written : O → Option (List ℕ)) (write_faults : O → ℕ) (bytes : D → Option (List ℕ)) (held faults : D → ℕ) where
  -- a source and a sink as they tell
  abbrev seen : I × O → Link
  seen p = link_at taken left read_faults written write_faults p

  link_told : (base : StoreBasis) (p q : I × O) (a b : ℕ) (c : Cause) (service : StoreEnd) (rx : RxEndValue) (tx : TxEndValue) (rs : List Record)
      → LinkServed taken left read_faults written write_faults base p q a b c service rx tx rs → LinkOver base (seen p, seen p) (seen q, seen q) a b c service rx tx rs
  link_told base p q a b c service rx tx rs s = record {
    known = s.known;
    run = s.run;
    moved = record {
      taken_is = s.moved.taken_is;
      left_is = s.moved.left_is;
      written_is = s.moved.written_is;
      ended_is = s.moved.ended_is;
      read_faults_on = s.moved.read_faults_on;
      write_faults_on = s.moved.write_faults_on;
    };
    ports = s.ports;
    pops = s.pops;
    took = s.took;
    pushes = s.pushes;
    wrote = s.wrote;
    base_is = s.base_is;
    served = s.served;
    to_end = s.to_end;
    on_read_fault = s.on_read_fault;
    why = s.why;
  }

  -- a session over this source, this sink and this disk is one over what they tell
  pub session_told : (limit : ℕ) (p q : I × O) (before after : List (I × O)) (log kept : D) (o : SessionOutcome) (service : StoreEnd) (rxs : List RxEndValue) (txs : List TxEndValue)
      → before ≡ p ∷ [] → after ≡ q ∷ [] → RanOne taken left read_faults written write_faults bytes held faults limit before after log kept o service rxs txs
      → SessionOver limit (seen p) (seen q) (log_at bytes held faults log) (log_at bytes held faults kept) o (record { service = service; rx = rxs; tx = txs })
  session_told limit p q before after log kept o service rxs txs was is r =
      let p_is : r.one.link ≡ p = first_is r.one.link p (sym r.one.was ∙ was) in
      let q_is : r.one.now ≡ q = first_is r.one.now q (sym r.one.is ∙ is) in
      let base : StoreBasis = record { records = r.old; limit = limit; told = tells (bytes log) } in
      record {
        old = r.old;
        had = r.had;
        one = record {
          link = (seen p, seen p);
          was = refl;
          now = (seen q, seen q);
          is = refl;
          rx_end = r.one.rx_end;
          rx_is = r.one.rx_is;
          tx_end = r.one.tx_end;
          tx_is = r.one.tx_is;
        };
        why = r.why;
        outcome_is = r.outcome_is;
        records = r.records;
        served = link_told base p q (faults log) (faults kept) r.why service r.one.rx_end r.one.tx_end r.records
            (subst (λ (x : I × O). LinkServed taken left read_faults written write_faults base p x (faults log) (faults kept) r.why service r.one.rx_end r.one.tx_end r.records) q_is
            (subst (λ (x : I × O). LinkServed taken left read_faults written write_faults base x r.one.now (faults log) (faults kept) r.why service r.one.rx_end r.one.tx_end r.records) p_is r.served));
        grew = r.grew;
        settled = r.settled;
      }

  -- a session that was not made leaves the link as it was
  pub unmade_told : {E : Type 0} (ends : Option E) (p q : I × O) (before after : List (I × O)) (o : SessionOutcome) (log kept : Log) → before ≡ p ∷ [] → after ≡ q ∷ []
      → IfNone ends ((after ≡ before) × SessionUnmade o log kept) → IfNone ends ((seen q ≡ seen p) × SessionUnmade o log kept)
  unmade_told None p q before after o log kept was is u = (ap seen (first_is q p (sym is ∙ u.0 ∙ was)), u.1)
  unmade_told (Some e) p q before after o log kept was is u = tt

  pub made_told : (limit : ℕ) {E : Type 0} (ends : Option E) (see : E → SessionEnds) (p q : I × O) (before after : List (I × O)) (log kept : D) (o : SessionOutcome) → before ≡ p ∷ [] → after ≡ q ∷ []
      → IfSome ends (λ e. RanOne taken left read_faults written write_faults bytes held faults limit before after log kept o (see e).service (see e).rx (see e).tx)
      → IfSome ends (λ e. SessionOver limit (seen p) (seen q) (log_at bytes held faults log) (log_at bytes held faults kept) o (see e))
  made_told limit None see p q before after log kept o was is r = tt
  made_told limit (Some e) see p q before after log kept o was is r = session_told limit p q before after log kept o (see e).service (see e).rx (see e).tx was is r

-- a link that no session served, and one that one did
pub link_none : {E : Type 0} (ends : Option E) (s : SessionOutcome) (o : Outcome) (w0 w1 w2 : WorldState) (p q : Link) (log kept : Log) (f0 f1 : ℕ) → o ≡ as_outcome s → w1 ≡ after_links w0 (p ∷ []) → w2 ≡ after_keep_link w1 0 q
    → IfNone ends ((q ≡ p) × SessionUnmade s log kept) → IfNone ends (LinkNone o w0 w2 log kept f0 f1)
link_none None s o w0 w1 w2 p q log kept f0 f1 is given keeps u = record {
  link = Some (p, q);
  keeps = keeps ∙ ap (λ (w : WorldState). after_keep_link w 0 q) given;
  at = (u.0, subst (λ (x : Outcome). Unopened x log kept) (sym is) (unmade_as s log kept u.1));
}
link_none (Some e) s o w0 w1 w2 p q log kept f0 f1 is given keeps u = tt

pub link_ran : (limit : ℕ) {E : Type 0} (ends : Option E) (see : E → SessionEnds) (s : SessionOutcome) (o : Outcome) (w0 w1 w2 : WorldState) (p q : Link) (log kept : Log) → o ≡ as_outcome s → w1 ≡ after_links w0 (p ∷ []) → w2 ≡ after_keep_link w1 0 q
    → IfSome ends (λ e. SessionOver limit p q log kept s (see e)) → IfSome ends (λ e. LinkRan limit o w0 w2 log kept (see e))
link_ran limit None see s o w0 w1 w2 p q log kept is given keeps r = tt
link_ran limit (Some e) see s o w0 w1 w2 p q log kept is given keeps r = record {
  link = p;
  kept_link = q;
  keeps = keeps ∙ ap (λ (w : WorldState). after_keep_link w 0 q) given;
  at = record { came_to = s; outcome_is = is; ran = r };
}

-- what stands of the log that was tried, and of the world that gave it and was handed it back
pub record Tried (w0 w1 w2 w3 : WorldState) (name : List ℕ) (log mid kept : Log) (f0 f1 f2 f3 : ℕ) : Type 0 where
  pub old : List Record
  pub had : HadRecords log old
  pub good : IfSome mid.bytes (λ b. records b ≡ Ok old)
  pub same : contents_of mid ≡ contents_of (opened_log log)
  pub later : log.faults ≤ mid.faults
  pub faults : f0 ≤ f1
  pub kept_faults : f3 ≡ f2
  pub given : w1 ≡ after_log w0 name log
  pub keeps : w3 ≡ after_keep_log w2 name kept

without : (o : Outcome) (w0 w1 w2 w3 : WorldState) (name : List ℕ) (log mid kept : Log) (f0 f1 f2 f3 : ℕ) → (t : Tried w0 w1 w2 w3 name log mid kept f0 f1 f2 f3) → (link : Option (Link × Link)) → w2 ≡ with_link link w1
    → LinkWithout o link mid kept f1 f2 → RanWithout w0 w3 f0 f3 name o
without o w0 w1 w2 w3 name log mid kept f0 f1 f2 f3 t None linked at = record {
  gave = A_log log kept None;
  keeps = t.keeps ∙ ap (λ (w : WorldState). after_keep_log w name kept) (linked ∙ t.given);
  at = inr (record { why = refusal_since o f0 f1 f2 f3 t.faults t.kept_faults at.0; records = t.old; had = t.had; same = at.1 ∙ t.same });
}
without o w0 w1 w2 w3 name log mid kept f0 f1 f2 f3 t (Some p) linked at =
    let u = unmade_since o log mid kept t.old t.old t.same t.later t.had t.good at.1 in record {
      gave = A_log log kept (Some p);
      keeps = t.keeps ∙ ap (λ (w : WorldState). after_keep_log w name kept) (linked ∙ ap (with_link (Some p)) t.given);
      at = record { as_given = at.0; why = u.0; records = t.old; had = t.had; same = u.1 };
    }

pub piped_none : {E : Type 0} (ends : Option E) (o : Outcome) (w0 w1 w2 w3 : WorldState) (name : List ℕ) (log mid kept : Log) (f0 f1 f2 f3 : ℕ) → Tried w0 w1 w2 w3 name log mid kept f0 f1 f2 f3
    → IfNone ends (LinkNone o w1 w2 mid kept f1 f2) → IfNone ends (RanWithout w0 w3 f0 f3 name o)
piped_none None o w0 w1 w2 w3 name log mid kept f0 f1 f2 f3 t n = without o w0 w1 w2 w3 name log mid kept f0 f1 f2 f3 t n.link n.keeps n.at
piped_none (Some e) o w0 w1 w2 w3 name log mid kept f0 f1 f2 f3 t n = tt

pub piped_ran : (limit : ℕ) {E : Type 0} (ends : Option E) (see : E → SessionEnds) (o : Outcome) (w0 w1 w2 w3 : WorldState) (name : List ℕ) (log mid kept : Log) (f0 f1 f2 f3 : ℕ) → Tried w0 w1 w2 w3 name log mid kept f0 f1 f2 f3
    → IfSome ends (λ e. LinkRan limit o w1 w2 mid kept (see e)) → IfSome ends (λ e. RanWith limit w0 w3 name o (see e))
piped_ran limit None see o w0 w1 w2 w3 name log mid kept f0 f1 f2 f3 t r = tt
piped_ran limit (Some e) see o w0 w1 w2 w3 name log mid kept f0 f1 f2 f3 t r = record {
  log = log;
  kept = kept;
  link = r.link;
  kept_link = r.kept_link;
  keeps = t.keeps ∙ ap (λ (w : WorldState). after_keep_log w name kept) (r.keeps ∙ ap (with_link (Some (r.link, r.kept_link))) t.given);
  at = record {
    came_to = r.at.came_to;
    outcome_is = r.at.outcome_is;
    ran = session_since limit r.link r.kept_link log mid kept r.at.came_to (see e) t.old t.same t.later t.had r.at.ran;
  };
}

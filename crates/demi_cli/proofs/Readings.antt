-- Which reads were made of a link's source, from a session to a run.
use Rattle.std.proofs.Common.{◌≡◌, ℕ, List, [], ◌∷◌, ◌++◌, Option, Some, None, IfSome, refl, ap, sym, ◌∙◌, subst, inl, inr}
use Rattle.std.specs.Prelude.{Err, IfNone, IfOk, MatchOption, Ok, Result, slice_get}
use Rattle.demi_core.specs.World.{Link, Log, SameSources, WorldState, after_keep_link, after_keep_log, after_links, after_log}
use Rattle.demi_logq.specs.Items.{tells}
use Rattle.demi_server.specs.Logs.{log_at}
use Rattle.demi_server.specs.Session.{ReadWhatWasDue}
use Rattle.demi_cli.specs.Ended.{LinkRan}
use Rattle.demi_cli.specs.Given.{LinkOf, SameButWarned, with_link}
use Rattle.demi_cli.specs.Reading.{DueInRun, DueOver, GivenSource, NothingRead, ReadOnlyDue}
use Rattle.demi_cli.specs.Sessions.{SessionEnds, link_at}
use Rattle.demi_cli.specs.declared.outcome.Outcome.{Outcome}
use Rattle.demi_cli.proofs.Clauses.{kept_log_of}
use Rattle.demi_cli.proofs.Served.{Tried}
use Rattle.demi_cli.proofs.Since.{had_since, opened_tells}

first_is : {A : Type 0} (x y : A) → x ∷ [] ≡ y ∷ [] → x ≡ y
first_is x y e = cc

-- the source of the first of some links that were given
pub first_given : {V E P : Type 0} (r : Result V E) (items : V → List P) (next : ℕ → P → Type 0) → IfOk r (λ v. (number : ℕ) → IfSome (slice_get (items v) number) (λ p. next number p))
    → IfOk r (λ v. IfSome (slice_get (items v) 0) (λ p. next 0 p))
first_given (Ok v) items next given = given 0
first_given (Err e) items next given = tt

pub only_given : {P : Type 0} (items : List P) (p : P) (next : P → Type 0) → items ≡ p ∷ [] → IfSome (slice_get items 0) next → next p
only_given {P} items p next is given = subst (λ (l : List P). IfSome (slice_get l 0) next) is given

module _ {I O D : Type 0} (taken : I → ℕ) (left : I → Option (List ℕ)) (read_faults : I → ℕ) (reads : I → ℕ → Option (List ℕ) → I → Type 0) (written : O → Option (List ℕ)) (write_faults : O → ℕ)
    (bytes : D → Option (List ℕ)) (held faults : D → ℕ) where
  -- a source and a sink as they tell
  abbrev seen : I × O → Link
  seen p = link_at taken left read_faults written write_faults p

  -- the link of a world that gave this one and keeps that one
  abbrev sources : (next kept : ℕ → I → Type 0) (p q : I × O) (w0 w1 w2 : WorldState) → w1 ≡ after_links w0 (seen p ∷ []) → w2 ≡ after_keep_link w1 0 (seen q) → next 0 p.0 → kept 0 q.0
      → GivenSource taken left read_faults next kept w0 w2
  sources next kept p q w0 w1 w2 given keeps next_is kept_is = record {
    of_link = record {
      link = seen p;
      kept = seen q;
      gave = ap (λ (w : WorldState). w.given_links) keeps ∙ ap (λ (w : WorldState). w.given_links) given;
      keeps = ap (λ (w : WorldState). w.kept_link 0) keeps;
    };
    before = p.0;
    before_given = next_is;
    before_is = record { taken_is = refl; left_is = refl; faults_are = refl };
    after = q.0;
    after_kept = kept_is;
    after_is = record { taken_is = refl; left_is = refl; faults_are = refl };
  }

  -- what a session read of its link
  only_due : (limit : ℕ) (p q : I × O) (before after : List (I × O)) (log : D) → before ≡ p ∷ [] → after ≡ q ∷ []
      → (r : ReadWhatWasDue taken left read_faults reads written write_faults bytes held faults limit before after log)
      → ReadOnlyDue limit reads (tells (bytes log)) r.old p.0 q.0 (seen p) (seen q)
  only_due limit p q before after log was is r =
      let p_is : r.link ≡ p = first_is r.link p (sym r.was ∙ was) in
      let q_is : r.now ≡ q = first_is r.now q (sym r.is ∙ is) in
      subst (λ (x : I × O). ReadOnlyDue limit reads (tells (bytes log)) r.old p.0 x.0 (seen p) (seen x)) q_is
      (subst (λ (x : I × O). ReadOnlyDue limit reads (tells (bytes log)) r.old x.0 r.now.0 (seen x) (seen r.now)) p_is
      (record { run = r.run; took = record { left = r.moved.left_is; count = r.moved.taken_is }; says = r.moved.written_is; due = r.due }))

  pub link_reads : (limit : ℕ) {E : Type 0} (ends : Option E) (rest : Type 0) (next kept : ℕ → I → Type 0) (p q : I × O) (before after : List (I × O)) (w0 w1 w2 : WorldState) (log : D)
      → before ≡ p ∷ [] → after ≡ q ∷ [] → w1 ≡ after_links w0 (seen p ∷ []) → w2 ≡ after_keep_link w1 0 (seen q) → next 0 p.0 → kept 0 q.0
      → IfNone ends ((after ≡ before) × rest) → IfSome ends (λ _. ReadWhatWasDue taken left read_faults reads written write_faults bytes held faults limit before after log)
      → MatchOption ends (NothingRead taken left read_faults next kept w0 w2) (λ _. DueOver limit reads taken left read_faults next kept w0 w2 (log_at bytes held faults log))
  link_reads limit None rest next kept p q before after w0 w1 w2 log was is given keeps next_is kept_is unmade due =
      inr (sources next kept p q w0 w1 w2 given keeps next_is kept_is, ap (λ (x : I × O). x.0) (first_is q p (sym is ∙ unmade.0 ∙ was)))
  link_reads limit (Some e) rest next kept p q before after w0 w1 w2 log was is given keeps next_is kept_is unmade due = record {
    sources = sources next kept p q w0 w1 w2 given keeps next_is kept_is;
    records = due.old;
    had = due.had;
    only = only_due limit p q before after log was is due;
  }

module _ {Source : Type 0} (reads : Source → ℕ → Option (List ℕ) → Source → Type 0) (taken : Source → ℕ) (left : Source → Option (List ℕ)) (faults : Source → ℕ) where
  -- the same from and to worlds that tell the same of links
  abbrev between : (next next' kept kept' : ℕ → Source → Type 0) (old old' new new' : WorldState) → SameSources next' next → SameSources kept kept'
      → old'.given_links ≡ old.given_links → new'.given_links ≡ new.given_links → new'.kept_link 0 ≡ new.kept_link 0
      → GivenSource taken left faults next kept old new → GivenSource taken left faults next' kept' old' new'
  between next next' kept kept' old old' new new' same_next same_kept was is keeps s =
      let l : LinkOf old new = s.of_link in record {
        of_link = record {
          link = l.link;
          kept = l.kept;
          gave = is ∙ l.gave ∙ ap (λ (links : List Link). links ++ l.link ∷ []) (sym was);
          keeps = keeps ∙ l.keeps;
        };
        before = s.before;
        before_given = (same_next 0 s.before).1 s.before_given;
        before_is = s.before_is;
        after = s.after;
        after_kept = (same_kept 0 s.after).0 s.after_kept;
        after_is = s.after_is;
      }

  nothing_between : (next next' kept kept' : ℕ → Source → Type 0) (old old' new new' : WorldState) → SameSources next' next → SameSources kept kept'
      → old'.given_links ≡ old.given_links → new'.given_links ≡ new.given_links → new'.kept_link 0 ≡ new.kept_link 0
      → NothingRead taken left faults next kept old new → NothingRead taken left faults next' kept' old' new'
  nothing_between next next' kept kept' old old' new new' same_next same_kept was is keeps (inl none) = inl (is ∙ none ∙ sym was)
  nothing_between next next' kept kept' old old' new new' same_next same_kept was is keeps (inr s) =
      inr (between next next' kept kept' old old' new new' same_next same_kept was is keeps s.0, s.1)

  -- a run over a log that was tried first
  pub piped_reads : (limit : ℕ) {E : Type 0} (ends : Option E) (see : E → SessionEnds) (o : Outcome) (next next' kept kept' : ℕ → Source → Type 0) (w0 w1 w2 w3 : WorldState) (name : List ℕ) (log mid kept_log : Log) (f0 f1 f2 f3 : ℕ)
      → Tried w0 w1 w2 w3 name log mid kept_log f0 f1 f2 f3 → SameSources next' next → SameSources kept kept' → IfSome ends (λ e. LinkRan limit o w1 w2 mid kept_log (see e))
      → MatchOption ends (NothingRead taken left faults next kept w1 w2) (λ _. DueOver limit reads taken left faults next kept w1 w2 mid)
      → MatchOption ends (NothingRead taken left faults next' kept' w0 w3) (λ _. DueInRun limit reads taken left faults next' kept' w0 w3 name)
  piped_reads limit None see o next next' kept kept' w0 w1 w2 w3 name log mid kept_log f0 f1 f2 f3 t same_next same_kept ran r =
      nothing_between next next' kept kept' w1 w0 w2 w3 same_next same_kept (sym (ap (λ (w : WorldState). w.given_links) t.given)) (ap (λ (w : WorldState). w.given_links) t.keeps) (ap (λ (w : WorldState). w.kept_link 0) t.keeps) r
  piped_reads limit (Some e) see o next next' kept kept' w0 w1 w2 w3 name log mid kept_log f0 f1 f2 f3 t same_next same_kept ran r =
      let all : w3 ≡ after_keep_log (with_link (Some (ran.link, ran.kept_link)) (after_log w0 name log)) name kept_log =
      t.keeps ∙ ap (λ (w : WorldState). after_keep_log w name kept_log) (ran.keeps ∙ ap (with_link (Some (ran.link, ran.kept_link))) t.given) in
      record {
        of_log = kept_log_of w0 w3 name log kept_log (Some (ran.link, ran.kept_link)) all;
        over = record {
          sources = between next next' kept kept' w1 w0 w2 w3 same_next same_kept (sym (ap (λ (w : WorldState). w.given_links) t.given)) (ap (λ (w : WorldState). w.given_links) t.keeps) (ap (λ (w : WorldState). w.kept_link 0) t.keeps) r.sources;
          records = r.records;
          had = had_since log mid t.old r.records t.same t.had r.had;
          only = subst (λ told. ReadOnlyDue limit reads told r.records r.sources.before r.sources.after r.sources.of_link.link r.sources.of_link.kept) (opened_tells log mid t.same) r.only;
        };
      }

  -- the same to a world in which this was reported
  pub reported_reads : (limit : ℕ) {E : Type 0} (ends : Option E) (next kept kept' : ℕ → Source → Type 0) (old new new' : WorldState) (name : List ℕ) → SameSources kept kept' → SameButWarned new new'
      → MatchOption ends (NothingRead taken left faults next kept old new) (λ _. DueInRun limit reads taken left faults next kept old new name)
      → MatchOption ends (NothingRead taken left faults next kept' old new') (λ _. DueInRun limit reads taken left faults next kept' old new' name)
  reported_reads limit None next kept kept' old new new' name same_kept same r =
      nothing_between next next kept kept' old old new new' (λ number source. (λ is. is, λ is. is)) same_kept refl (ap (λ (w : WorldState). w.given_links) same) (ap (λ (w : WorldState). w.kept_link 0) same) r
  reported_reads limit (Some e) next kept kept' old new new' name same_kept same r = record {
    of_log = record {
      log = r.of_log.log;
      kept = r.of_log.kept;
      gave = ap (λ (w : WorldState). w.given_logs) same ∙ r.of_log.gave;
      keeps = ap (λ (w : WorldState). w.kept_log name) same ∙ r.of_log.keeps;
    };
    over = record {
      sources = between next next kept kept' old old new new' (λ number source. (λ is. is, λ is. is)) same_kept refl (ap (λ (w : WorldState). w.given_links) same) (ap (λ (w : WorldState). w.kept_link 0) same) r.over.sources;
      records = r.over.records;
      had = r.over.had;
      only = r.over.only;
    };
  }

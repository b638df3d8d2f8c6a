-- What a session comes to, once its log was opened.
use Rattle.std.proofs.Common.{◌≡◌, ◌∙◌, ℕ, ◌≤◌, ◌⊎◌, Bool, true, false, List, [], ◌∷◌, ◌++◌, Option, Some, None, IfSome, ap, arith, inl, inr, refl, subst, sym}
use Rattle.std.specs.Prelude.{◌==◌, IfNone, drop, if◌then◌else◌, length, slice_get}
use Rattle.std.specs.Io.KnownBytes.{append_known}
use Rattle.demi_core.specs.Outside.{Rose}
use Rattle.demi_core.specs.World.{Log}
use Rattle.demi_logq.proofs.Saying.{tells_append}
use Rattle.demi_logq.specs.Items.{tells}
use Rattle.demi_port.specs.Seen.{says}
use Rattle.demi_served.specs.Accounts.{asked_in, standing_at_end}
use Rattle.demi_served.specs.Asking.{Ask, Puts}
use Rattle.demi_served.specs.Ends.{StoreEnd}
use Rattle.demi_served.specs.LogEnds.{IsTorn}
use Rattle.demi_spec.specs.LogText.{header}
use Rattle.demi_spec.specs.Record.{Record, entries_of}
use Rattle.demi_store.specs.Engine.{EngineValue, GoesTo, Steps}
use Rattle.demi_store.specs.Laws.{StoreBasis}
use Rattle.demi_store.specs.declared.ask.StoreAsk.{StoreAsk}
use Rattle.demi_store.specs.declared.out.StoreOut.{StoreOut}
use Rattle.demi_store.specs.declared.told.StoreTold.{StoreTold}
use Rattle.demi_link.specs.Ends.{IsDone}
use Rattle.demi_link.specs.declared.phase.Cause.{Cause}
use Rattle.demi_link.specs.declared.phase.Cause.TheVariants as cause
use Rattle.demi_worker.specs.declared.ended.Ended.{Ended}
use Rattle.demi_server.specs.Ending.{LogCame, OneCame, OneEnded}
use Rattle.demi_server.specs.Gathering.{AllDevices, Have}
use Rattle.demi_server.specs.Logs.{Contents, HadRecords, IsEntryFront, LogGrew, Unmade, contents, contents_of, log_at, opened_log}
use Rattle.demi_server.specs.Outcomes.{told_of}
use Rattle.demi_closed.specs.Reading.{OnlyDueReads}
use Rattle.demi_server.specs.Session.{HasCause, LinkServed, RanOne, ReadWhatWasDue, RxEndValue, TxEndValue}
use Rattle.demi_server.specs.declared.outcome.Outcome.{Outcome}
use Rattle.demi_server.specs.declared.outcome.Outcome.TheVariants as outcome
use Rattle.demi_server.specs.declared.parts.Parts.{Parts}
use Rattle.demi_closed.proofs.NoneStruck.{none_struck}
use Rattle.demi_server.proofs.Opens.{opened_part}

-- a store's disk has no fewer faults later
steps_later : {D : Type 0} (bytes : D → Option (List ℕ)) (held faults : D → ℕ) (appends : D → List ℕ → Bool → D → Type 0) (looks : D → D → Type 0) (xs : List (StoreAsk × StoreOut)) (a b : EngineValue D)
    → Steps bytes held faults appends looks xs a b → faults a.core.log.disk ≤ faults b.core.log.disk
steps_later bytes held faults appends looks [] a b is = subst (λ (z : EngineValue _). faults a.core.log.disk ≤ faults z.core.log.disk) (sym is) (omega arith)
steps_later bytes held faults appends looks (x ∷ xs) a b s = let first = s.1.moves.later in let rest = steps_later bytes held faults appends looks xs s.0 b s.2 in omega (arith, first, rest)

pub goes_later : {D : Type 0} (bytes : D → Option (List ℕ)) (held faults : D → ℕ) (appends : D → List ℕ → Bool → D → Type 0) (looks : D → D → Type 0) (a b : EngineValue D)
    → GoesTo bytes held faults appends looks a b → faults a.core.log.disk ≤ faults b.core.log.disk
goes_later bytes held faults appends looks a b g = steps_later bytes held faults appends looks g.0 a b g.1

-- a cause that stood between two moments stands between earlier and later ones
earlier_cause : (c : Cause) (r0 r1 w0 w1 l0 l1 l : ℕ) → l ≤ l0 → HasCause c r0 r1 w0 w1 l0 l1 → HasCause c r0 r1 w0 w1 l l1
earlier_cause cause.Clean r0 r1 w0 w1 l0 l1 l le h = h
earlier_cause cause.Bye r0 r1 w0 w1 l0 l1 l le h = h
earlier_cause (cause.Refused code) r0 r1 w0 w1 l0 l1 l le h = h
earlier_cause cause.ReadFault r0 r1 w0 w1 l0 l1 l le h = h
earlier_cause cause.WriteFault r0 r1 w0 w1 l0 l1 l le h = h
earlier_cause cause.LogFault r0 r1 w0 w1 l0 l1 l le h = omega (arith, le, h)
earlier_cause cause.NoMemory r0 r1 w0 w1 l0 l1 l le h = h
earlier_cause cause.Lost r0 r1 w0 w1 l0 l1 l le h = h

-- what is torn is nothing, or the count rose
torn_rose : (fault : Option ℕ) (asks : List Ask) (torn : List ℕ) (f0 f1 : ℕ) → ((at : ℕ) → fault ≡ Some at → Rose f0 f1) → IsTorn fault asks torn → (torn ≡ []) ⊎ Rose f0 f1
torn_rose fault asks torn f0 f1 struck (inl none) = inl none
torn_rose fault asks torn f0 f1 struck (inr t) = inr (struck t.0 t.3)

-- an opened log tells its bytes where it did before
headed_tells : (b : Bool) (told : Option (List ℕ)) → tells (if b then append_known told header else told) ≡ tells told
headed_tells true told = tells_append header told (append_known told header) refl
headed_tells false told = refl

opened_told : (log : Log) (x : List ℕ) → log.bytes ≡ Some x → (opened_log log).bytes ≡ None → ⊥
opened_told log x told none =
    let same : tells (opened_log log).bytes ≡ tells log.bytes = headed_tells (log.held == 0) log.bytes in
    let no : false ≡ true = sym (ap tells none) ∙ same ∙ ap tells told in absurd (cc)

if_some : {P : Type 0} (o : Option (List ℕ)) → P → IfSome o (λ _. P)
if_some None p = tt
if_some (Some x) p = p

torn_front : (fault : Option ℕ) (asks : List Ask) (torn : List ℕ) → IsTorn fault asks torn → IsEntryFront torn
torn_front fault asks torn (inl none) = inl none
torn_front fault asks torn (inr t) = inr (t.1, t.2, t.5, t.6)

torn_none : (fault : Option ℕ) (asks : List Ask) (torn : List ℕ) → ((p : ℕ) (r : Record) → fault ≡ Some p → slice_get asks p ≡ Some (Puts r) → ⊥) → IsTorn fault asks torn → torn ≡ []
torn_none fault asks torn never (inl none) = none
torn_none fault asks torn never (inr t) = absurd (never t.0 t.1 t.3 t.4)

-- a log that was opened and then came to this has grown so; and by nothing more where no put was struck
log_grew : (log kept : Log) (disk : Option (List ℕ)) (b : StoreBasis) (history : List StoreAsk) (trail : List (ℕ × StoreTold)) (records : List Record) (Settled : Type 0)
    → disk ≡ (opened_log log).bytes → ((at : ℕ) → (standing_at_end b history trail).fault ≡ Some at → Rose log.faults kept.faults)
    → (Settled → (p : ℕ) (r : Record) → (standing_at_end b history trail).fault ≡ Some p → slice_get (asked_in history) p ≡ Some (Puts r) → ⊥)
    → LogCame disk kept.bytes b history trail records → (x : LogGrew log kept b.records records) × (Settled → x.torn ≡ [])
log_grew log kept None b history trail records Settled was struck never came = (record { torn = []; grew = none_told log.bytes refl; front = inl refl; rose = inl refl }, λ s. refl)
  where
    none_told : (o : Option (List ℕ)) → log.bytes ≡ o → IfSome log.bytes (λ _. kept.bytes ≡ append_known (opened_log log).bytes (entries_of (drop (length b.records) records) ++ []))
    none_told None e = subst (λ (o : Option (List ℕ)). IfSome o (λ _. kept.bytes ≡ append_known (opened_log log).bytes (entries_of (drop (length b.records) records) ++ []))) (sym e) tt
    none_told (Some x) e = absurd (opened_told log x e (sym was))
log_grew log kept (Some old) b history trail records Settled was struck never came =
    let ends = came.2 in (
      record {
        torn = ends.torn;
        grew = if_some log.bytes (came.1 ∙ ap Some ends.text ∙ ap (λ (o : Option (List ℕ)). append_known o (entries_of (drop (length b.records) records) ++ ends.torn)) was);
        front = torn_front (standing_at_end b history trail).fault (asked_in history) ends.torn ends.is_torn;
        rose = torn_rose (standing_at_end b history trail).fault (asked_in history) ends.torn log.faults kept.faults struck ends.is_torn;
      },
      λ s. torn_none (standing_at_end b history trail).fault (asked_in history) ends.torn (never s) ends.is_torn,
    )

-- A store's base is what an opened log had; and a session over it ran.
pub ran_one : {I O D : Type 0} (taken : I → ℕ) (left : I → Option (List ℕ)) (read_faults : I → ℕ) (reads : I → ℕ → Option (List ℕ) → I → Type 0) (written : O → Option (List ℕ)) (write_faults : O → ℕ) (bytes : D → Option (List ℕ)) (held faults : D → ℕ)
    (limit : ℕ) (before after : List (I × O)) (log disk kept : D) (outcome : Outcome) (service : StoreEnd) (rx_ends : List RxEndValue) (tx_ends : List TxEndValue) (old : List Record) (base : StoreBasis)
    → base ≡ record { records = old; limit = limit; told = tells (bytes log) } → HadRecords (log_at bytes held faults log) old → contents (bytes disk) (held disk) ≡ contents_of (opened_log (log_at bytes held faults log)) → faults log ≤ faults disk
    → OneCame taken left read_faults reads written write_faults bytes faults base before after disk kept outcome service rx_ends tx_ends
    → RanOne taken left read_faults written write_faults bytes held faults limit before after log kept outcome service rx_ends tx_ends
ran_one taken left read_faults reads written write_faults bytes held faults limit before after log disk kept outcome service rx_ends tx_ends old base is had stands le o = record {
  old = old;
  had = had;
  one = o.one;
  why = o.why;
  outcome_is = o.outcome_is;
  records = o.records;
  served = subst (λ (b : StoreBasis). LinkServed taken left read_faults written write_faults b o.one.link o.one.now (faults log) (faults kept) o.why service o.one.rx_end o.one.tx_end o.records) is
      (record {
        known = o.served.known;
        run = o.served.run;
        moved = o.served.moved;
        ports = o.served.ports;
        pops = o.served.pops;
        took = o.served.took;
        pushes = o.served.pushes;
        wrote = o.served.wrote;
        base_is = o.served.base_is;
        served = o.served.served;
        to_end = o.served.to_end;
        on_read_fault = o.served.on_read_fault;
        why = earlier_cause o.why (read_faults o.one.link.0) (read_faults o.one.now.0) (write_faults o.one.link.1) (write_faults o.one.now.1) (faults disk) (faults kept) (faults log) le o.served.why;
      });
  grew = both.0;
  settled = both.1;
}
  where
    both : (x : LogGrew (log_at bytes held faults log) (log_at bytes held faults kept) old o.records) × (IsDone o.why → x.torn ≡ [])
    both = subst (λ (b : StoreBasis). (x : LogGrew (log_at bytes held faults log) (log_at bytes held faults kept) b.records o.records) × (IsDone o.why → x.torn ≡ [])) is
        (log_grew (log_at bytes held faults log) (log_at bytes held faults kept) (bytes disk) base (says service.history) service.trail o.records (IsDone o.why) (ap (λ (c : Contents). c.bytes) stands) (λ at f. let r = o.struck at f in omega (arith, r, le))
        (none_struck o.why base service.history service.trail o.served.run o.served.ports o.records o.served.served) o.log)

-- and only due reads were made
pub read_due : {I O D : Type 0} (taken : I → ℕ) (left : I → Option (List ℕ)) (read_faults : I → ℕ) (reads : I → ℕ → Option (List ℕ) → I → Type 0) (written : O → Option (List ℕ)) (write_faults : O → ℕ) (bytes : D → Option (List ℕ)) (held faults : D → ℕ)
    (limit : ℕ) (before after : List (I × O)) (log disk kept : D) (outcome : Outcome) (service : StoreEnd) (rx_ends : List RxEndValue) (tx_ends : List TxEndValue) (old : List Record) (base : StoreBasis)
    → base ≡ record { records = old; limit = limit; told = tells (bytes log) } → HadRecords (log_at bytes held faults log) old
    → OneCame taken left read_faults reads written write_faults bytes faults base before after disk kept outcome service rx_ends tx_ends
    → ReadWhatWasDue taken left read_faults reads written write_faults bytes held faults limit before after log
read_due taken left read_faults reads written write_faults bytes held faults limit before after log disk kept outcome service rx_ends tx_ends old base is had o = record {
  old = old;
  had = had;
  link = o.one.link;
  was = o.one.was;
  now = o.one.now;
  is = o.one.is;
  run = o.served.run;
  moved = o.served.moved;
  due = subst (λ (b : StoreBasis). OnlyDueReads reads b.told b.limit b.records o.one.link.0 o.one.now.0 o.served.run) is o.due;
}

-- what was promised where there is none, or where there is one, in other words
pub none_as : {A : Type 0} {P Q : Type 0} (o : Option A) → (P → Q) → IfNone o P → IfNone o Q
none_as None f p = f p
none_as (Some x) f p = tt

pub some_as : {A : Type 0} {P Q : A → Type 0} (o : Option A) → ((x : A) → P x → Q x) → IfSome o P → IfSome o Q
some_as None f p = tt
some_as (Some x) f p = f x p

-- memory was refused once the log was opened
pub log_unmade : {D : Type 0} (bytes : D → Option (List ℕ)) (held faults : D → ℕ) (log disk kept : D) (o : Outcome) → contents (bytes disk) (held disk) ≡ contents_of (opened_log (log_at bytes held faults log)) → kept ≡ disk → o ≡ outcome.NoMemory
    → Unmade o (log_at bytes held faults log) (log_at bytes held faults kept)
log_unmade bytes held faults log disk kept o stands same is =
    subst (λ (x : Outcome). Unmade x (log_at bytes held faults log) (log_at bytes held faults kept)) (sym is)
    (opened_part (log_at bytes held faults log) (log_at bytes held faults kept) (ap (λ (k : _). contents (bytes k) (held k)) same ∙ stands))

module _ {I O D : Type 0} (taken : I → ℕ) (left : I → Option (List ℕ)) (read_faults : I → ℕ) (reads : I → ℕ → Option (List ℕ) → I → Type 0) (written : O → Option (List ℕ)) (write_faults : O → ℕ) (bytes : D → Option (List ℕ)) (held faults : D → ℕ) where
  -- what a session of one link ended as, in the words of its parts
  pub one_came : (p q : Parts I O D) (v w : AllDevices I O D) (ended : List Ended) (service : StoreEnd) (rx_ends : List RxEndValue) (tx_ends : List TxEndValue) (kept : D) (o : Outcome)
      → Have v p → Have w q → kept ≡ q.store.core.log.disk → ((e : Ended) → ended ≡ e ∷ [] → o ≡ told_of 0 e.cause)
      → OneEnded taken left read_faults reads written write_faults bytes faults p q v w ended service rx_ends tx_ends
      → OneCame taken left read_faults reads written write_faults bytes faults p.store.base p.links.items q.links.items p.store.core.log.disk kept o service rx_ends tx_ends
  one_came p q v w ended service rx_ends tx_ends kept o had has last told e =
      let there : OneCame taken left read_faults reads written write_faults bytes faults p.store.base p.links.items q.links.items v.store.engine.core.log.disk w.store.engine.core.log.disk o service rx_ends tx_ends =
      record { one = e.one; why = e.end.cause; outcome_is = told e.end e.only; records = e.records; served = e.served; log = e.log; struck = e.struck; due = e.due } in
      subst (λ (a : EngineValue D). OneCame taken left read_faults reads written write_faults bytes faults p.store.base p.links.items q.links.items a.core.log.disk kept o service rx_ends tx_ends) (sym had.store)
      (subst (λ (k : D). OneCame taken left read_faults reads written write_faults bytes faults p.store.base p.links.items q.links.items v.store.engine.core.log.disk k o service rx_ends tx_ends)
      (ap (λ (b : EngineValue D). b.core.log.disk) (sym has.store) ∙ sym last) there)

  module _ (limit : ℕ) (links given after : List (I × O)) (log kept : D) (o : Outcome) (service : StoreEnd) (rx_ends : List RxEndValue) (tx_ends : List TxEndValue) (opened store : EngineValue D)
      (same_store : store ≡ opened) (same_links : given ≡ links)
      (base : opened.base ≡ record { records = opened.core.records; limit = limit; told = tells (bytes log) }) (had : HadRecords (log_at bytes held faults log) opened.core.records)
      (came : OneCame taken left read_faults reads written write_faults bytes faults store.base given after store.core.log.disk kept o service rx_ends tx_ends) where
    as_given : OneCame taken left read_faults reads written write_faults bytes faults opened.base links after opened.core.log.disk kept o service rx_ends tx_ends
    as_given =
        subst (λ (x : List (I × O)). OneCame taken left read_faults reads written write_faults bytes faults opened.base x after opened.core.log.disk kept o service rx_ends tx_ends) same_links
        (subst (λ (x : EngineValue D). OneCame taken left read_faults reads written write_faults bytes faults x.base given after x.core.log.disk kept o service rx_ends tx_ends) same_store came)

    -- it ran
    pub session_ran : contents (bytes opened.core.log.disk) (held opened.core.log.disk) ≡ contents_of (opened_log (log_at bytes held faults log)) → faults log ≤ faults opened.core.log.disk
        → RanOne taken left read_faults written write_faults bytes held faults limit links after log kept o service rx_ends tx_ends
    session_ran stands le = ran_one taken left read_faults reads written write_faults bytes held faults limit links after log opened.core.log.disk kept o service rx_ends tx_ends opened.core.records opened.base base had stands le as_given

    -- and read what was due
    pub session_read : ReadWhatWasDue taken left read_faults reads written write_faults bytes held faults limit links after log
    session_read = read_due taken left read_faults reads written write_faults bytes held faults limit links after log opened.core.log.disk kept o service rx_ends tx_ends opened.core.records opened.base base had as_given

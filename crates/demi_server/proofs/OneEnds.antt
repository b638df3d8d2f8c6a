-- What a session of one link comes to, from how its link and its store were closed.
use Rattle.std.proofs.Common.{◌≡◌, ℕ, List, [], Option, Some, None, refl, ◌∙◌, sym, subst, inl, append-nil}
use Rattle.demi_core.specs.Outside.{Rose}
use Rattle.demi_port.specs.Seen.{known_at, known_by, says}
use Rattle.demi_port_core.specs.Trails.{Behind}
use Rattle.demi_spec.specs.Record.{Record}
use Rattle.demi_store.specs.Laws.{Admits, StoreBasis}
use Rattle.demi_store.specs.declared.ask.StoreAsk.{StoreAsk}
use Rattle.demi_store.specs.declared.told.StoreTold.{StoreTold}
use Rattle.demi_served.specs.Accounts.{LeftInLog, standing_at_end}
use Rattle.demi_served.specs.Ends.{StoreEnd}
use Rattle.demi_served.specs.LogEnds.{LogEnds}
use Rattle.demi_served.specs.Reading.{Popped}
use Rattle.demi_served.specs.Talks.{LinkRun, Talk}
use Rattle.demi_link.specs.Fitting.{Fits, HeardOf}
use Rattle.demi_link.specs.Heard.{IsLogFault}
use Rattle.demi_link.specs.Sights.{worker_of}
use Rattle.demi_link.specs.declared.phase.Cause.{Cause}
use Rattle.demi_link.specs.declared.phase.Cause.TheVariants as cause
use Rattle.demi_link.specs.declared.phase.Phase.TheVariants.{Over}
use Rattle.demi_worker.specs.declared.ended.Ended.{Ended}
use Rattle.demi_server.specs.Building.{ends_of}
use Rattle.demi_context.specs.ContextPorts.{Caller, Whole}
use Rattle.demi_server.specs.Ending.{LogCame, OneEnded}
use Rattle.demi_server.specs.Gathering.{AllDevices}
use Rattle.demi_closed.specs.LinkClosed.{LinkMoved, LinkResult, WasServed, ports_of}
use Rattle.demi_closed.specs.OnlyLink.{OneServed}
use Rattle.demi_closed.specs.Reading.{AnsweredInFull, OnlyDueReads}
use Rattle.demi_server.specs.Session.{HasCause, RxEndValue, TxEndValue}
use Rattle.demi_server.specs.declared.parts.Parts.{Parts}
use Rattle.demi_server.proofs.Causes.{admitted_on, read_rose, write_rose}
use Rattle.demi_closed.proofs.Entries.{behind_on}
use Rattle.demi_server.proofs.LogFaults.{Failed, log_has_failed}
use Rattle.demi_closed.proofs.NeverBegan.{settle}
use Rattle.demi_server.proofs.TakenApart.{TakenApart}

-- the records that a log has at the end, and what became of it
pub log_came : (after before : Option (List ℕ)) (b : StoreBasis) (history : List StoreAsk) (trail : List (ℕ × StoreTold)) (x : StoreBasis) (served : List StoreAsk) (told : List (ℕ × StoreTold)) → x ≡ b → served ≡ history → told ≡ trail
    → ((old : List ℕ) → before ≡ Some old → (bytes : List ℕ) × (records : List Record) × (after ≡ Some bytes) × LogEnds x served told old bytes records)
    → (records : List Record) × LeftInLog b history trail records × LogCame before after b history trail records
log_came after before b history trail x served told same_base same_history same_trail ends = go before refl
  where
    go : (o : Option (List ℕ)) → before ≡ o → (records : List Record) × LeftInLog b history trail records × LogCame o after b history trail records
    go None e = ((standing_at_end b history trail).records, record { extra = []; all = sym (append-nil (standing_at_end b history trail).records); left = inl refl }, refl)
    go (Some old) e =
        let r = ends old e in
        let by_base : LogEnds b served told old r.0 r.1 = subst (λ (z : StoreBasis). LogEnds z served told old r.0 r.1) same_base r.3 in
        let by_history : LogEnds b history told old r.0 r.1 = subst (λ (h : List StoreAsk). LogEnds b h told old r.0 r.1) same_history by_base in
        let is : LogEnds b history trail old r.0 r.1 = subst (λ (t : List (ℕ × StoreTold)). LogEnds b history t old r.0 r.1) same_trail by_history in
        (r.1, is.logged, (r.0, r.2, is))

-- the same standing has failed
pub failed_there : (b : StoreBasis) (history : List StoreAsk) (trail : List (ℕ × StoreTold)) (x : StoreBasis) (served : List StoreAsk) (told : List (ℕ × StoreTold)) → x ≡ b → served ≡ history → told ≡ trail
    → Failed (standing_at_end b history trail) → Failed (standing_at_end x served told)
failed_there b history trail x served told same_base same_history same_trail failed =
    let by_trail : Failed (standing_at_end b history told) = subst (λ (t : List (ℕ × StoreTold)). Failed (standing_at_end b history t)) (sym same_trail) failed in
    let by_history : Failed (standing_at_end b served told) = subst (λ (h : List StoreAsk). Failed (standing_at_end b h told)) (sym same_history) by_trail in
    subst (λ (z : StoreBasis). Failed (standing_at_end z served told)) (sym same_base) by_history

module _ {I O D : Type 0} (taken : I → ℕ) (left : I → Option (List ℕ)) (read_faults : I → ℕ) (reads : I → ℕ → Option (List ℕ) → I → Type 0) (written : O → Option (List ℕ)) (write_faults : O → ℕ)
    (d : Whole) (p q : Parts I O D) (w : AllDevices I O D) (after : Caller) (ended : List Ended) (service : StoreEnd) (rx_ends : List RxEndValue) (tx_ends : List TxEndValue)
    (t : TakenApart taken left read_faults reads written write_faults d p q w after ended service rx_ends tx_ends) where
  -- why it ended, where the log failed if an answer said so
  pub why_of : (log0 log1 : ℕ) (c : Cause) → WasServed t.there t.end.had.value t.desk c → (Fits t.there t.end.had.value t.desk (Over c) → Popped t.ports.rx_end.heard t.ports.rx_end.trail t.desk.talk.outs)
      → (HeardOf IsLogFault t.end.had.value t.desk → Rose log0 log1)
      → HasCause c (read_faults t.old.first.engine.source) (read_faults t.new.first.engine.source) (write_faults t.old.second.engine.sink) (write_faults t.new.second.engine.sink) log0 log1
  why_of log0 log1 cause.Clean s popped failed = tt
  why_of log0 log1 cause.Bye s popped failed = tt
  why_of log0 log1 (cause.Refused code) s popped failed = tt
  why_of log0 log1 cause.NoMemory s popped failed = tt
  why_of log0 log1 cause.Lost s popped failed = tt
  why_of log0 log1 cause.ReadFault s popped failed =
      settle t.there t.end.had.value t.desk cause.ReadFault
      (λ f. read_rose taken left read_faults reads written write_faults t.end.had.value t.old.first.engine t.new.first.engine t.old.second.engine t.new.second.engine t.ports t.desk.talk.outs (popped f) f.agrees.6)
      (λ n. absurd (let no : cause.ReadFault ≡ cause.NoMemory = n.cause in cc)) s
  why_of log0 log1 cause.WriteFault s popped failed =
      settle t.there t.end.had.value t.desk cause.WriteFault
      (λ f. write_rose taken left read_faults reads written write_faults t.end.had.value t.old.first.engine t.new.first.engine t.old.second.engine t.new.second.engine t.ports f.agrees.1.0 f.agrees.1.2)
      (λ n. absurd (let no : cause.WriteFault ≡ cause.NoMemory = n.cause in cc)) s
  why_of log0 log1 cause.LogFault s popped failed =
      settle t.there t.end.had.value t.desk cause.LogFault
      (λ f. failed f.agrees.6)
      (λ n. absurd (let no : cause.LogFault ≡ cause.NoMemory = n.cause in cc)) s

  -- where an answer said that the log failed, it has failed by all that its port heard and told
  pub log_failed : HeardOf IsLogFault t.end.had.value t.desk → Failed (standing_at_end p.store.base (says service.history) service.trail)
  log_failed heard =
      let behind : Behind (known_at service) (worker_of t.end.had.value).known =
      behind_on (known_at service) t.later.store.known t.end.had.value.store.known (behind_on (known_at service) (known_by after.service) t.later.store.known t.ends.behind.0 t.added.grows) t.went.worker.known in
      let admitted : Admits t.end.had.value.base service.heard service.trail heard.place heard.outcome = admitted_on t.end.had.value.base (worker_of t.end.had.value).known (known_at service) heard.place heard.outcome behind heard.below heard.admitted in
      let failed : Failed (standing_at_end t.end.had.value.base service.heard service.trail) = log_has_failed t.end.had.value.base service.heard service.trail heard.place heard.outcome heard.is admitted in
      subst (λ (b : StoreBasis). Failed (standing_at_end b (says service.history) service.trail)) (sym t.went.base ∙ t.base)
      (subst (λ (h : List StoreAsk). Failed (standing_at_end t.end.had.value.base h service.trail)) t.ends.heard failed)

  -- all of it
  pub one_ended : (v : AllDevices I O D) (bytes : D → Option (List ℕ)) (faults : D → ℕ) (l : LinkRun) (talk : Talk) (records : List Record)
      → LinkMoved taken left read_faults written write_faults (ends_of t.old) (ends_of t.new) l
      → LinkResult t.end.cause t.desk l (ports_of t.new.first.engine t.new.second.engine) talk
      → OneServed t.end.cause t.later.base service.history service.trail l (ports_of t.new.first.engine t.new.second.engine) records
      → HasCause t.end.cause (read_faults t.old.first.engine.source) (read_faults t.new.first.engine.source) (write_faults t.old.second.engine.sink) (write_faults t.new.second.engine.sink) (faults v.store.engine.core.log.disk) (faults w.store.engine.core.log.disk)
      → LogCame (bytes v.store.engine.core.log.disk) (bytes w.store.engine.core.log.disk) p.store.base (says service.history) service.trail records
      → ((at : ℕ) → (standing_at_end p.store.base (says service.history) service.trail).fault ≡ Some at → Rose (faults v.store.engine.core.log.disk) (faults w.store.engine.core.log.disk))
      → OnlyDueReads reads p.store.base.told p.store.base.limit p.store.base.records t.old.first.engine.source t.new.first.engine.source l
      → (t.end.cause ≡ cause.ReadFault → AnsweredInFull p.store.base.told p.store.base.limit p.store.base.records l)
      → OneEnded taken left read_faults reads written write_faults bytes faults p q v w ended service rx_ends tx_ends
  one_ended v bytes faults l talk records moved result served why log struck due on_read_fault = record {
    one = record { link = ends_of t.old; was = t.was; now = ends_of t.new; is = t.now; rx_end = t.ports.rx_end; rx_is = t.rx_is; tx_end = t.ports.tx_end; tx_is = t.tx_is };
    end = t.end;
    only = t.only;
    link = t.link;
    records = records;
    served = record {
      known = t.served.known;
      run = l;
      moved = moved;
      ports = ports_of t.new.first.engine t.new.second.engine;
      pops = sym t.ports.rx_closed.ends.grounded ∙ t.ports.rx_closed.all;
      took = t.ports.rx_closed.ends.trail ∙ t.ports.rx_closed.agrees.tells;
      pushes = sym t.ports.tx_closed.ends.grounded ∙ t.ports.tx_closed.all;
      wrote = t.ports.tx_closed.ends.trail ∙ t.ports.tx_closed.agrees.tells;
      base_is = t.base_is;
      served = subst (λ (b : StoreBasis). OneServed t.end.cause b service.history service.trail l (ports_of t.new.first.engine t.new.second.engine) records) t.base served;
      to_end = result.to_end;
      why = why;
      on_read_fault = on_read_fault;
    };
    log = log;
    struck = struck;
    due = due;
  }

-- What a session of one link and one worker comes to, by what it was given and what it hands back.
use Rattle.std.specs.Prelude.{◌≡◌, ℕ, List, [], ◌∷◌, Option}
use Rattle.demi_core.specs.Outside.{Rose}
use Rattle.demi_device.specs.Serving.{trail}
use Rattle.demi_heap.specs.Seen.{HeapId}
use Rattle.demi_link.specs.Ends.{IsDone, IsKnown}
use Rattle.demi_link.specs.declared.phase.Cause.{Cause}
use Rattle.demi_link.specs.declared.phase.Cause.TheVariants as cause
use Rattle.demi_logq.specs.Items.{tells}
use Rattle.demi_port.specs.Seen.{EndValue, says}
use Rattle.demi_served.specs.Ends.{StoreEnd}
use Rattle.demi_served.specs.Links.{LinkPorts}
use Rattle.demi_served.specs.Talks.{LinkRun}
use Rattle.demi_spec.specs.Record.{Record}
use Rattle.demi_store.specs.Laws.{StoreBasis}
use Rattle.demi_streamq.specs.Receiving as rx
use Rattle.demi_streamq.specs.Sending as tx
use Rattle.demi_streamq.specs.declared.rx_op.RxOp.{RxOp}
use Rattle.demi_streamq.specs.declared.rx_told.RxTold.{RxTold}
use Rattle.demi_streamq.specs.declared.tx_op.TxOp.{TxOp}
use Rattle.demi_closed.specs.LinkClosed.{LinkMoved}
use Rattle.demi_server.specs.Logs.{HadRecords, LogGrew, log_at}
use Rattle.demi_closed.specs.OnlyLink.{OneServed}
use Rattle.demi_server.specs.Outcomes.{told_of}
use Rattle.demi_closed.specs.Reading.{AnsweredInFull, OnlyDueReads}
use Rattle.demi_closed.specs.TextEnds.{ReadToEnd}
use Rattle.demi_server.specs.declared.outcome.Outcome.{Outcome}

-- the ends of a receiving and of a sending port
abbrev pub RxEndValue : Type 0
RxEndValue = EndValue RxOp RxTold HeapId

abbrev pub TxEndValue : Type 0
TxEndValue = EndValue TxOp ℕ HeapId

-- a fault comes only where the count of what failed rose: that of the link's source, of its sink, of the log
abbrev pub HasCause : Cause → (read0 read1 write0 write1 log0 log1 : ℕ) → Type 0
HasCause cause.ReadFault read0 read1 write0 write1 log0 log1 = Rose read0 read1
HasCause cause.WriteFault read0 read1 write0 write1 log0 log1 = Rose write0 write1
HasCause cause.LogFault read0 read1 write0 write1 log0 log1 = Rose log0 log1
HasCause other read0 read1 write0 write1 log0 log1 = Unit {0}

-- What the one link of a session came to: its source and sink before and after it; why it ended; what was read of it and written to it;
-- what its ports were asked and what came of that, which is what their ends say; the records that the log then has; and by all of that,
-- over a store on this base, it was served. Where a read of it failed, all that was read whole was answered.
pub record LinkServed {I O : Type 0} (taken : I → ℕ) (left : I → Option (List ℕ)) (read_faults : I → ℕ) (written : O → Option (List ℕ)) (write_faults : O → ℕ)
    (base : StoreBasis) (before after : I × O) (log_faults0 log_faults1 : ℕ) (c : Cause) (service : StoreEnd) (rx_end : RxEndValue) (tx_end : TxEndValue) (records : List Record) : Type 0 where
  pub known : IsKnown c
  pub run : LinkRun
  pub moved : LinkMoved taken left read_faults written write_faults before after run
  pub ports : LinkPorts
  pub pops : says rx_end.history ≡ ports.pops
  pub took : rx_end.trail ≡ trail rx.told ports.took
  pub pushes : says tx_end.history ≡ ports.pushes
  pub wrote : tx_end.trail ≡ trail tx.told ports.wrote
  pub base_is : service.base ≡ base
  pub served : OneServed c base service.history service.trail run ports records
  pub to_end : IsDone c → ReadToEnd c run
  pub why : HasCause c (read_faults before.0) (read_faults after.0) (write_faults before.1) (write_faults after.1) log_faults0 log_faults1
  pub on_read_fault : c ≡ cause.ReadFault → AnsweredInFull base.told base.limit base.records run

-- the one link of a session, with its ports' ends
pub record OnlyOne {I O : Type 0} (before after : List (I × O)) (rx_ends : List RxEndValue) (tx_ends : List TxEndValue) : Type 0 where
  pub link : I × O
  pub was : before ≡ link ∷ []
  pub now : I × O
  pub is : after ≡ now ∷ []
  pub rx_end : RxEndValue
  pub rx_is : rx_ends ≡ rx_end ∷ []
  pub tx_end : TxEndValue
  pub tx_is : tx_ends ≡ tx_end ∷ []

-- A session of one link ran over a log: it served the link on the records that the log had, the log has grown by those that were added, and by
-- nothing more where the input came to an end; and the outcome is that of the link's end.
pub record RanOne {I O D : Type 0} (taken : I → ℕ) (left : I → Option (List ℕ)) (read_faults : I → ℕ) (written : O → Option (List ℕ)) (write_faults : O → ℕ) (bytes : D → Option (List ℕ)) (held faults : D → ℕ)
    (limit : ℕ) (before after : List (I × O)) (log kept : D) (outcome : Outcome) (service : StoreEnd) (rx_ends : List RxEndValue) (tx_ends : List TxEndValue) : Type 0 where
  pub old : List Record
  pub had : HadRecords (log_at bytes held faults log) old
  pub one : OnlyOne before after rx_ends tx_ends
  pub why : Cause
  pub outcome_is : outcome ≡ told_of 0 why
  pub records : List Record
  pub served : LinkServed taken left read_faults written write_faults (record { records = old; limit = limit; told = tells (bytes log) }) one.link one.now (faults log) (faults kept) why service one.rx_end one.tx_end records
  pub grew : LogGrew (log_at bytes held faults log) (log_at bytes held faults kept) old records
  pub settled : IsDone why → grew.torn ≡ []

-- Of the one link of a session only due reads were made, over the records that the log had: a read that is due behind those before it.
pub record ReadWhatWasDue {I O D : Type 0} (taken : I → ℕ) (left : I → Option (List ℕ)) (read_faults : I → ℕ) (reads : I → ℕ → Option (List ℕ) → I → Type 0) (written : O → Option (List ℕ)) (write_faults : O → ℕ) (bytes : D → Option (List ℕ)) (held faults : D → ℕ)
    (limit : ℕ) (before after : List (I × O)) (log : D) : Type 0 where
  pub old : List Record
  pub had : HadRecords (log_at bytes held faults log) old
  pub link : I × O
  pub was : before ≡ link ∷ []
  pub now : I × O
  pub is : after ≡ now ∷ []
  pub run : LinkRun
  pub moved : LinkMoved taken left read_faults written write_faults link now run
  pub due : OnlyDueReads reads (tells (bytes log)) limit old link.0 now.0 run

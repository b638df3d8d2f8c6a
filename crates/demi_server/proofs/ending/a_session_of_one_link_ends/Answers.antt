use Rattle.std.proofs.Common.{◌≡◌, ◌∙◌, ℕ, Some, length, subst, sym, true}
use Rattle.std.specs.Prelude.{take}
use Rattle.demi_core.specs.Outside.{Rose}
use Rattle.demi_port.specs.Seen.{known_at, says}
use Rattle.demi_spec.specs.Store.{serial}
use Rattle.demi_store.specs.Laws.{StoreBasis}
use Rattle.demi_served.specs.Accounts.{LeftInLog, standing_at_end}
use Rattle.demi_served.specs.Talks.{Talk}
use Rattle.demi_link.specs.Fitting.{Fits, HeardOf}
use Rattle.demi_link.specs.Heard.{IsLogFault}
use Rattle.demi_link.specs.declared.phase.Cause.TheVariants as cause
use Rattle.demi_link.specs.declared.phase.Phase.TheVariants.{Over}
use Rattle.demi_closed.specs.LinkClosed.{ports_of}
use Rattle.demi_closed.specs.Reading.{AnsweredInFull, OnlyDueReads}
use Rattle.demi_closed.proofs.LinkCloses as link
use Rattle.demi_closed.proofs.NeverBegan.{settle}
use Rattle.demi_closed.proofs.NeverRead.{never_read}
use Rattle.demi_server.proofs.OneEnds.{failed_there, log_came, log_failed, one_ended, why_of}
use Rattle.demi_server.proofs.TakenApart.{taken_apart}
use Rattle.demi_server.proofs.ending.a_session_of_one_link_ends.Goals as goal

pub returns : goal.returns
returns g c = λ d p q v w first last after ended service rx_ends tx_ends e.
    let taken = g.I.Source.taken in
    let left = g.I.Source.left in
    let rf = g.I.Source.faults in
    let reads = g.I.Source.reads in
    let written = g.O.Sink.written in
    let wf = g.O.Sink.faults in
    let bytes = g.D.Disk.bytes in
    let faults = g.D.Disk.faults in
    let t = taken_apart taken left rf reads written wf bytes g.D.Disk.held faults g.D.Disk.appends g.D.Disk.looks d p q v w first last after ended service rx_ends tx_ends e in
    let a = v.store.engine in
    let b = w.store.engine in
    let s = t.end.had.value in
    let history = says service.history in
    let ports = ports_of t.new.first.engine t.new.second.engine in
    let served_is : b.served ≡ history = sym e.store.all_served ∙ t.ends.grounded in
    let trail_is : w.store.seat.trail ≡ service.trail = sym t.ends.trail in
    -- the link
    let closed = c.a_served_link_closes.ensures t.there s t.desk t.end.cause t.old.first.engine t.new.first.engine t.old.second.engine t.new.second.engine t.served t.ports in
    -- the log
    let log = log_came (bytes b.core.log.disk) (bytes a.core.log.disk) p.store.base history service.trail b.base b.served w.store.seat.trail t.same_base served_is trail_is
    (λ old told. c.a_log_ends_as_its_history.ensures.ends a b w.store.seat old e.unused.store.0 e.unused.store.1 told e.store.went e.store.agrees) in
    let struck = λ (at : ℕ) (is : (standing_at_end p.store.base history service.trail).fault ≡ Some at).
    let f = failed_there p.store.base history service.trail b.base b.served w.store.seat.trail t.same_base served_is trail_is (at, is) in
    c.a_log_ends_as_its_history.ensures.cause a b w.store.seat f.0 e.unused.store.0 e.unused.store.1 e.store.went e.store.agrees f.1 in
    let failed : HeardOf IsLogFault s t.desk → Rose (faults a.core.log.disk) (faults b.core.log.disk) = λ heard.
    let f = log_failed taken left rf reads written wf d p q w after ended service rx_ends tx_ends t heard in struck f.0 f.1 in
    -- the session
    let left_in : LeftInLog t.later.base history service.trail log.0 = subst (λ (z : StoreBasis). LeftInLog z history service.trail log.0) (sym t.base) log.1 in
    let one = c.a_session_of_one_link_closes.ensures t.there s t.later t.desk t.end.cause after.service d.service w.store.seat service closed.0 ports closed.1 log.0 t.served t.went t.one t.number t.added t.ends t.alone closed.3 left_in in
    let popped = λ (f : Fits t.there s t.desk (Over t.end.cause)). c.an_ended_link_popped_all.ensures t.there s t.desk t.end.cause (known_at t.ports.rx_end) f t.served.known
    (link.rx_knew taken left rf reads written wf t.there s t.desk t.end.cause t.served t.old.first.engine t.new.first.engine t.old.second.engine t.new.second.engine t.ports)
    (link.own_pop taken left rf reads written wf t.there s t.desk t.end.cause t.served t.old.first.engine t.new.first.engine t.old.second.engine t.new.second.engine t.ports) in
    -- the reads
    let b0 = t.later.base in
    let as_store : b0.told ≡ true → closed.1.replies ≡ take (length closed.1.replies) (serial b0.records b0.limit closed.1.asks).replies =
    λ told. subst (λ (k : Talk). k.replies ≡ take (length k.replies) (serial b0.records b0.limit k.asks).replies) one.1 (one.0.replies told) in
    let due : OnlyDueReads reads b0.told b0.limit b0.records t.old.first.engine.source t.new.first.engine.source closed.0 =
    settle t.there s t.desk t.end.cause
    (λ f. c.a_served_link_made_only_due_reads.ensures.due t.there s t.desk t.end.cause t.old.first.engine t.new.first.engine t.old.second.engine t.new.second.engine closed.0 closed.1 b0.told b0.limit b0.records f t.served.known t.ports closed.3 as_store)
    (λ n. never_read taken left rf reads written wf t.there s t.desk t.end.cause n t.served t.old.first.engine t.new.first.engine t.old.second.engine t.new.second.engine t.ports closed.0 closed.1 closed.3 b0.told b0.limit b0.records)
    t.served in
    let answered : t.end.cause ≡ cause.ReadFault → AnsweredInFull b0.told b0.limit b0.records closed.0 =
    λ failed. settle t.there s t.desk t.end.cause
    (λ f. c.a_served_link_made_only_due_reads.ensures.failed t.there s t.desk t.end.cause t.old.first.engine t.new.first.engine t.old.second.engine t.new.second.engine closed.0 closed.1 b0.told b0.limit b0.records f t.served.known t.ports closed.3 as_store failed)
    (λ n. absurd (let no : cause.ReadFault ≡ cause.NoMemory = sym failed ∙ n.cause in cc))
    t.served in
    one_ended taken left rf reads written wf d p q w after ended service rx_ends tx_ends t v bytes faults closed.0 closed.1 log.0 closed.2 closed.3 one.0
    (why_of taken left rf reads written wf d p q w after ended service rx_ends tx_ends t (faults a.core.log.disk) (faults b.core.log.disk) t.end.cause t.served popped failed)
    log.2 struck
    (subst (λ (z : StoreBasis). OnlyDueReads reads z.told z.limit z.records t.old.first.engine.source t.new.first.engine.source closed.0) t.base due)
    (subst (λ (z : StoreBasis). t.end.cause ≡ cause.ReadFault → AnsweredInFull z.told z.limit z.records closed.0) t.base answered)

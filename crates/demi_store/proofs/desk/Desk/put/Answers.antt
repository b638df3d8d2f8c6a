use Rattle.std.proofs.Common.{◌≤◌, List, length, ap, sym, subst, arith, Option, Some, None}
use Rattle.demi_logq.proofs.Pieces.{count_is}
use Rattle.demi_store.specs.Cores.{Core, CorePut}
use Rattle.demi_store.specs.declared.back.Back.TheVariants.{Nothing, Value}
use Rattle.demi_heap.specs.Seen.{HalfValue}
use Rattle.demi_store.specs.declared.op.StoreOp.TheVariants.{Put}
use Rattle.demi_store.specs.History.{Standing, record_of_put, value_bytes}
use Rattle.demi_store.specs.Serving.{Answered, Moves, Shows}
use Rattle.demi_store.proofs.Saying.{all_same, put_answered, put_moves}
use Rattle.demi_store.proofs.desk.Desk.put.Goals as goal

pub begin_with-requires-clause-most : goal.begin_with-requires-clause-most
begin_with-requires-clause-most g c =
    let n = count_is c.in-Some.sga in
    let most : length (value_bytes (Some c.in-Some.sga)) ≤ 65536 = subst (λ (v : Option (List HalfValue)). length (value_bytes v) ≤ 65536) c.in-Some.is c.requires.proper.1 in
    omega arith

pub returns-in-None-clause-answered : goal.returns-in-None-clause-answered
returns-in-None-clause-answered g c =
    let d = g.D.Disk in let a = c.args in let r = record_of_put a.link a.index a.key None in
    subst (λ (v : Option (List HalfValue)). Answered a.base.now.value.told a.base.now.value.limit a.place.0 (Put a.link a.index a.key v) a.stands.now.value (λ (t : Standing). Shows {D = g.row.D.Denot} (d.bytes c.put-answer.new.self.log.disk) c.put-answer.new.self a.base.now.value t a.self.now.stop) (record { answer = c.put-answer.result; back = Nothing })) (sym c.in-None.is)
    (put_answered d.bytes d.held d.faults d.appends d.looks a.base.now.value a.stands.now.value a.self.now.stop a.place a.self.now.core c.put-answer.new.self a.link a.index a.key None Nothing c.requires.shows c.requires.calm c.put-answer.result (λ x. tt)
    (subst (λ (v : Core g.row.D.Denot). CorePut d.bytes d.held d.faults d.appends v c.put-answer.new.self a.place.0 r c.put-answer.result) c.begin.ensures (c.put-answer.ensures.put r (ap (λ (v : Core g.row.D.Denot). v.begun) c.begin.ensures))))

pub returns-in-None-clause-moves : goal.returns-in-None-clause-moves
returns-in-None-clause-moves g c =
    let d = g.D.Disk in let a = c.args in let r = record_of_put a.link a.index a.key None in
    subst (λ (v : Option (List HalfValue)). Moves {D = g.row.D.Denot} d.bytes d.held d.faults d.appends d.looks a.self.now.core.log c.put-answer.new.self.log (Put a.link a.index a.key v) (record { answer = c.put-answer.result; back = Nothing })) (sym c.in-None.is)
    (put_moves d.bytes d.held d.faults d.appends d.looks a.base.now.value a.stands.now.value a.self.now.stop a.place a.self.now.core c.put-answer.new.self a.link a.index a.key None Nothing c.requires.shows c.requires.calm c.put-answer.result
    (subst (λ (v : Core g.row.D.Denot). d.faults v.log.disk ≤ d.faults c.put-answer.new.self.log.disk) c.begin.ensures c.put-answer.ensures.later)
    (subst (λ (v : Core g.row.D.Denot). CorePut d.bytes d.held d.faults d.appends v c.put-answer.new.self a.place.0 r c.put-answer.result) c.begin.ensures (c.put-answer.ensures.put r (ap (λ (v : Core g.row.D.Denot). v.begun) c.begin.ensures))))

pub returns-in-Some-clause-answered : goal.returns-in-Some-clause-answered
returns-in-Some-clause-answered g c =
    let d = g.D.Disk in let a = c.args in let r = record_of_put a.link a.index a.key (Some c.in-Some.sga) in
    subst (λ (v : Option (List HalfValue)). Answered a.base.now.value.told a.base.now.value.limit a.place.0 (Put a.link a.index a.key v) a.stands.now.value (λ (t : Standing). Shows {D = g.row.D.Denot} (d.bytes c.put-answer-in-Some.new.self.log.disk) c.put-answer-in-Some.new.self a.base.now.value t a.self.now.stop) (record { answer = c.put-answer-in-Some.result; back = (Value c.in-Some.sga) })) (sym c.in-Some.is)
    (put_answered d.bytes d.held d.faults d.appends d.looks a.base.now.value a.stands.now.value a.self.now.stop a.place a.self.now.core c.put-answer-in-Some.new.self a.link a.index a.key (Some c.in-Some.sga) (Value c.in-Some.sga) c.requires.shows c.requires.calm
    c.put-answer-in-Some.result (λ x. all_same c.in-Some.sga)
    (subst (λ (v : Core g.row.D.Denot). CorePut d.bytes d.held d.faults d.appends v c.put-answer-in-Some.new.self a.place.0 r c.put-answer-in-Some.result) c.begin_with.ensures (c.put-answer-in-Some.ensures.put r (ap (λ (v : Core g.row.D.Denot). v.begun) c.begin_with.ensures))))

pub returns-in-Some-clause-moves : goal.returns-in-Some-clause-moves
returns-in-Some-clause-moves g c =
    let d = g.D.Disk in let a = c.args in let r = record_of_put a.link a.index a.key (Some c.in-Some.sga) in
    subst (λ (v : Option (List HalfValue)). Moves {D = g.row.D.Denot} d.bytes d.held d.faults d.appends d.looks a.self.now.core.log c.put-answer-in-Some.new.self.log (Put a.link a.index a.key v) (record { answer = c.put-answer-in-Some.result; back = (Value c.in-Some.sga) })) (sym c.in-Some.is)
    (put_moves d.bytes d.held d.faults d.appends d.looks a.base.now.value a.stands.now.value a.self.now.stop a.place a.self.now.core c.put-answer-in-Some.new.self a.link a.index a.key (Some c.in-Some.sga) (Value c.in-Some.sga) c.requires.shows c.requires.calm
    c.put-answer-in-Some.result
    (subst (λ (v : Core g.row.D.Denot). d.faults v.log.disk ≤ d.faults c.put-answer-in-Some.new.self.log.disk) c.begin_with.ensures c.put-answer-in-Some.ensures.later)
    (subst (λ (v : Core g.row.D.Denot). CorePut d.bytes d.held d.faults d.appends v c.put-answer-in-Some.new.self a.place.0 r c.put-answer-in-Some.result) c.begin_with.ensures (c.put-answer-in-Some.ensures.put r (ap (λ (v : Core g.row.D.Denot). v.begun) c.begin_with.ensures))))

use Rattle.demi_store.proofs.Saying.{get_answered, get_moves}
use Rattle.demi_store.proofs.desk.Desk.get.Goals as goal

pub returns-clause-answered : goal.returns-clause-answered
returns-clause-answered g c =
    let d = g.D.Disk in let a = c.args in let e = c.fetch-answer.ensures in
    get_answered d.bytes d.held d.faults d.appends d.looks a.base.now.value a.stands.now.value a.self.now.stop a.place a.self.now.core c.fetch-answer.new.self a.key a.room c.fetch-answer.new.room c.requires.shows c.requires.calm e.same e.bytes
    c.fetch-answer.result e.room e.got

pub returns-clause-moves : goal.returns-clause-moves
returns-clause-moves g c =
    let d = g.D.Disk in let a = c.args in let e = c.fetch-answer.ensures in
    get_moves d.bytes d.held d.faults d.appends d.looks a.base.now.value a.stands.now.value a.self.now.stop a.place a.self.now.core c.fetch-answer.new.self a.key a.room c.fetch-answer.new.room c.requires.shows c.requires.calm e.same e.bytes
    c.fetch-answer.result e.later e.log e.calls e.held e.got

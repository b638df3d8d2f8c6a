use Rattle.std.proofs.Common.{◌≡◌, List, ℕ, false, subst, sym}
use Rattle.demi_spec.specs.Input.{Ends, Open, front}
use Rattle.demi_streamq.specs.RxKept.{all_bytes}
use Rattle.demi_link.specs.Desks.{desk_of}
use Rattle.demi_link.proofs.Found.{found_end, found_get, found_put, found_refused, hungry_next}
use Rattle.demi_link.proofs.Frames.{next_end, next_get, next_more, next_put, next_refused}
use Rattle.demi_link.proofs.desk.Desk.read.Goals as goal

pub pop-requires : goal.pop-requires
pop-requires g c =
    let d = desk_of c.args.self.now in
    let f = c.requires in
    let e = c.in-More.ensures in
    let h = e.consumed f.agrees.0.1 in
    hungry_next (g.C.Scanner.ports c.args.cx.now) (g.C.Calls.sight c.args.cx.now d.link) d c.next.new.self f c.if-self-ge4294967295.false
    (next_more d.decoder c.next.new.self (all_bytes d.talk.outs) d.talk.handed f.agrees.0.1 e.read f.keeps.read) h.3 h.2 (subst (λ (l : List ℕ). front false l ≡ Ends Open) (sym h.1) h.0)

pub prepare-requires : goal.prepare-requires
prepare-requires g c =
    let d = desk_of c.args.self.now in
    let f = c.requires in
    let e = c.in-Put.ensures in
    found_put (g.C.Scanner.ports c.args.cx.now) (g.C.Calls.sight c.args.cx.now d.link) d c.next.new.self f c.one_handed.result.value c.if-self-ge4294967295.false
    (next_put d.decoder c.next.new.self (all_bytes d.talk.outs) d.talk.handed f.agrees.0.1 e.next (e.consumed f.agrees.0.1) e.read f.keeps.read) c.one_handed.ensures

pub prepare-requires-in-Get : goal.prepare-requires-in-Get
prepare-requires-in-Get g c =
    let d = desk_of c.args.self.now in
    let f = c.requires in
    let e = c.in-Get.ensures in
    found_get (g.C.Scanner.ports c.args.cx.now) (g.C.Calls.sight c.args.cx.now d.link) d c.next.new.self f c.one_handed-in-Get.result.value c.if-self-ge4294967295.false
    (next_get d.decoder c.next.new.self (all_bytes d.talk.outs) d.talk.handed f.agrees.0.1 e.next (e.consumed f.agrees.0.1) e.read f.keeps.read) c.one_handed-in-Get.ensures

pub prepare-requires-in-End : goal.prepare-requires-in-End
prepare-requires-in-End g c =
    let d = desk_of c.args.self.now in
    let f = c.requires in
    let e = c.in-End.ensures in
    found_end (g.C.Scanner.ports c.args.cx.now) (g.C.Calls.sight c.args.cx.now d.link) d c.next.new.self f c.one_ended.result.value c.if-self-ge4294967295.false
    (next_end d.decoder c.next.new.self (all_bytes d.talk.outs) d.talk.handed f.agrees.0.1 e.read f.keeps.read) (e.consumed f.agrees.0.1).1 c.one_ended.ensures

pub prepare-requires-in-Refused : goal.prepare-requires-in-Refused
prepare-requires-in-Refused g c =
    let d = desk_of c.args.self.now in
    let f = c.requires in
    let e = c.in-Refused.ensures in
    found_refused (g.C.Scanner.ports c.args.cx.now) (g.C.Calls.sight c.args.cx.now d.link) d c.next.new.self f c.one_refused.result.value c.in-Refused.code c.if-self-ge4294967295.false
    (next_refused d.decoder c.next.new.self c.in-Refused.code (all_bytes d.talk.outs) d.talk.handed f.agrees.0.1 e.read f.keeps.read) (e.consumed f.agrees.0.1).2 c.one_refused.ensures

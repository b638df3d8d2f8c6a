use Rattle.std.proofs.Common.{◌∙◌, ap, refl, subst, sym}
use Rattle.demi_streamq.specs.declared.rx_out.RxOut.{RxOut}
use Rattle.demi_streamq.specs.declared.rx_out.RxOut.TheVariants.{Piece, End, Fault, Broken, NoSlot, Stopped, Halted}
use Rattle.demi_link.specs.Desks.{desk_of}
use Rattle.demi_link.specs.Events.{Adds, RxCame}
use Rattle.demi_link.specs.Fitting.{Fits, IsHungry, Took}
use Rattle.demi_link.specs.Noting.{after_taken}
use Rattle.demi_link.specs.Talks.{TalkValue}
use Rattle.demi_link.specs.declared.phase.Cause.TheVariants as cause
use Rattle.demi_link.specs.declared.phase.Phase.{Phase}
use Rattle.demi_link.specs.declared.phase.Phase.TheVariants.{Over}
use Rattle.demi_link.proofs.Arriving.{adds_on, caused_by, caused_since}
use Rattle.demi_link.proofs.Taken.{noted, taken_fault, taken_hungry, taken_lost}
use Rattle.demi_link.proofs.desk.Desk.took.Goals as goal

pub feed-requires : goal.feed-requires
feed-requires g c = let d = desk_of c.args.self.now in let ports = g.C.Scanner.ports c.args.cx.now in let s = g.C.Calls.sight c.args.cx.now d.link in
    noted ports s d c.args.place.0 (Piece c.in-Piece.buf) c.one_placed-placed.result.value c.one_taken.result.value (subst (Took ports s d c.args.place.0) c.in-Piece.is c.requires) c.one_placed-placed.ensures
    (c.one_taken.ensures ∙ ap (λ (o : RxOut). after_taken c.one_placed-placed.result.value c.one_placed-placed.result.value.place o) c.in-Piece.is)

pub close_input-requires : goal.close_input-requires
close_input-requires g c = let d = desk_of c.args.self.now in let ports = g.C.Scanner.ports c.args.cx.now in let s = g.C.Calls.sight c.args.cx.now d.link in
    noted ports s d c.args.place.0 End c.one_placed-placed.result.value c.one_taken.result.value (subst (Took ports s d c.args.place.0) c.in-End.is c.requires) c.one_placed-placed.ensures
    (c.one_taken.ensures ∙ ap (λ (o : RxOut). after_taken c.one_placed-placed.result.value c.one_placed-placed.result.value.place o) c.in-End.is)

pub returns-in-Piece-clause-cause : goal.returns-in-Piece-clause-cause
returns-in-Piece-clause-cause g c = λ before adds. caused_since before _ _ _ _ (adds_on before _ _ adds) c.feed.ensures.cause

pub pop-requires : goal.pop-requires
pop-requires g c = let d = desk_of c.args.self.now in let ports = g.C.Scanner.ports c.args.cx.now in let s = g.C.Calls.sight c.args.cx.now d.link in
    let p = c.args.place.0 in
    let n = noted ports s d p NoSlot c.one_placed-placed.result.value c.one_taken.result.value (subst (Took ports s d p) c.in-NoSlot.is c.requires) c.one_placed-placed.ensures
    (c.one_taken.ensures ∙ ap (λ (o : RxOut). after_taken c.one_placed-placed.result.value c.one_placed-placed.result.value.place o) c.in-NoSlot.is) in
    subst (λ (t : TalkValue). IsHungry ports s (record d { talk = t })) (sym n.now) (taken_hungry ports s (record d { talk = n.was }) n.was.place NoSlot n.took refl refl tt)

pub returns-in-NoSlot-clause-cause : goal.returns-in-NoSlot-clause-cause
returns-in-NoSlot-clause-cause g c = λ before adds. caused_since before _ _ _ _ (adds_on before _ _ adds) c.pop.ensures.cause

pub returns-in-Fault-clause-fits : goal.returns-in-Fault-clause-fits
returns-in-Fault-clause-fits g c = let d = desk_of c.args.self.now in let ports = g.C.Scanner.ports c.args.cx.now in let s = g.C.Calls.sight c.args.cx.now d.link in
    let o : RxOut = Fault c.in-Fault.field-0 in
    let n = noted ports s d c.args.place.0 o c.one_placed-placed.result.value c.one_taken.result.value (subst (Took ports s d c.args.place.0) c.in-Fault.is c.requires) c.one_placed-placed.ensures
    (c.one_taken.ensures ∙ ap (λ (x : RxOut). after_taken c.one_placed-placed.result.value c.one_placed-placed.result.value.place x) c.in-Fault.is) in
    subst (λ (p : Phase). Fits ports s (record d { talk = c.one_taken.result.value }) p) (sym c.ends.ensures.phase)
    (subst (λ (t : TalkValue). Fits ports s (record d { talk = t }) (Over cause.ReadFault)) (sym n.now) (taken_fault ports s (record d { talk = n.was }) n.was.place o n.took refl refl tt))

pub returns-in-Fault-clause-cause : goal.returns-in-Fault-clause-cause
returns-in-Fault-clause-cause g c = λ before adds. caused_by before _ c.args.self.now.index (Over cause.ReadFault) _ (RxCame (Fault c.in-Fault.field-0)) c.ends.ensures.phase (subst (λ (x : RxOut). Adds before (g.C.Calls.events c.args.cx.now) (RxCame x)) c.in-Fault.is adds) tt

pub returns-in-Broken-clause-fits : goal.returns-in-Broken-clause-fits
returns-in-Broken-clause-fits g c = let d = desk_of c.args.self.now in let ports = g.C.Scanner.ports c.args.cx.now in let s = g.C.Calls.sight c.args.cx.now d.link in
    let o : RxOut = Broken c.in-Broken.field-0 in
    let n = noted ports s d c.args.place.0 o c.one_placed-placed.result.value c.one_taken.result.value (subst (Took ports s d c.args.place.0) c.in-Broken.is c.requires) c.one_placed-placed.ensures
    (c.one_taken.ensures ∙ ap (λ (x : RxOut). after_taken c.one_placed-placed.result.value c.one_placed-placed.result.value.place x) c.in-Broken.is) in
    subst (λ (p : Phase). Fits ports s (record d { talk = c.one_taken.result.value }) p) (sym c.ends-in-Broken.ensures.phase)
    (subst (λ (t : TalkValue). Fits ports s (record d { talk = t }) (Over cause.ReadFault)) (sym n.now) (taken_fault ports s (record d { talk = n.was }) n.was.place o n.took refl refl tt))

pub returns-in-Broken-clause-cause : goal.returns-in-Broken-clause-cause
returns-in-Broken-clause-cause g c = λ before adds. caused_by before _ c.args.self.now.index (Over cause.ReadFault) _ (RxCame (Broken c.in-Broken.field-0)) c.ends-in-Broken.ensures.phase (subst (λ (x : RxOut). Adds before (g.C.Calls.events c.args.cx.now) (RxCame x)) c.in-Broken.is adds) tt

pub returns-in-Stopped-clause-fits : goal.returns-in-Stopped-clause-fits
returns-in-Stopped-clause-fits g c = let d = desk_of c.args.self.now in let ports = g.C.Scanner.ports c.args.cx.now in let s = g.C.Calls.sight c.args.cx.now d.link in
    let o : RxOut = Stopped c.in-Stopped.field-0 in
    let n = noted ports s d c.args.place.0 o c.one_placed-placed.result.value c.one_taken.result.value (subst (Took ports s d c.args.place.0) c.in-Stopped.is c.requires) c.one_placed-placed.ensures
    (c.one_taken.ensures ∙ ap (λ (x : RxOut). after_taken c.one_placed-placed.result.value c.one_placed-placed.result.value.place x) c.in-Stopped.is) in
    subst (λ (p : Phase). Fits ports s (record d { talk = c.one_taken.result.value }) p) (sym c.ends-in-Stopped.ensures.phase)
    (subst (λ (t : TalkValue). Fits ports s (record d { talk = t }) (Over cause.Lost)) (sym n.now) (taken_lost ports s (record d { talk = n.was }) n.was.place o n.took refl))

pub returns-in-Stopped-clause-cause : goal.returns-in-Stopped-clause-cause
returns-in-Stopped-clause-cause g c = λ before adds. caused_by before _ c.args.self.now.index (Over cause.Lost) _ (RxCame (Stopped c.in-Stopped.field-0)) c.ends-in-Stopped.ensures.phase (subst (λ (x : RxOut). Adds before (g.C.Calls.events c.args.cx.now) (RxCame x)) c.in-Stopped.is adds) tt

pub returns-clause-fits : goal.returns-clause-fits
returns-clause-fits g c = let d = desk_of c.args.self.now in let ports = g.C.Scanner.ports c.args.cx.now in let s = g.C.Calls.sight c.args.cx.now d.link in
    let o : RxOut = Halted in
    let n = noted ports s d c.args.place.0 o c.one_placed-placed.result.value c.one_taken.result.value (subst (Took ports s d c.args.place.0) c.in-Halted.is c.requires) c.one_placed-placed.ensures
    (c.one_taken.ensures ∙ ap (λ (x : RxOut). after_taken c.one_placed-placed.result.value c.one_placed-placed.result.value.place x) c.in-Halted.is) in
    subst (λ (p : Phase). Fits ports s (record d { talk = c.one_taken.result.value }) p) (sym c.ends-in-Halted.ensures.phase)
    (subst (λ (t : TalkValue). Fits ports s (record d { talk = t }) (Over cause.Lost)) (sym n.now) (taken_lost ports s (record d { talk = n.was }) n.was.place o n.took refl))

pub returns-clause-cause : goal.returns-clause-cause
returns-clause-cause g c = λ before adds. caused_by before _ c.args.self.now.index (Over cause.Lost) _ (RxCame (Halted)) c.ends-in-Halted.ensures.phase (subst (λ (x : RxOut). Adds before (g.C.Calls.events c.args.cx.now) (RxCame x)) c.in-Halted.is adds) tt

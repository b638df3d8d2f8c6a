use Rattle.std.proofs.Common.{Option, subst, sym}
use Rattle.demi_streamq.specs.declared.tx_out.TxOut.TheVariants.{Pushed}
use Rattle.demi_link.specs.Desks.{desk_of}
use Rattle.demi_link.specs.Events.{TxCame}
use Rattle.demi_link.specs.Fitting.{Fits, IsBehind, Wrote}
use Rattle.demi_link.specs.Talks.{TalkValue}
use Rattle.demi_link.specs.declared.phase.Cause.{Cause}
use Rattle.demi_link.specs.declared.phase.Phase.{Phase}
use Rattle.demi_link.specs.declared.phase.Phase.TheVariants.{Over, Reading}
use Rattle.demi_link.proofs.Arriving.{adds_on, caused_by, caused_since}
use Rattle.demi_link.proofs.Written.{behind_ends, written_on, written_over}
use Rattle.demi_link.proofs.desk.Desk.wrote.Goals as goal

pub read-requires : goal.read-requires
read-requires g c = let d = desk_of c.args.self.now in let ports = g.C.Scanner.ports c.args.cx.now in let s = g.C.Calls.sight c.args.cx.now d.link in
    subst (λ (t : TalkValue). Fits ports s (record d { talk = t }) Reading) (sym c.one_written.ensures) (written_on ports s d c.args.place.0 (subst (λ (b : Option Cause). Wrote ports s d c.args.place.0 b Pushed) c.in-None.is c.requires))

pub returns-in-None-clause-cause : goal.returns-in-None-clause-cause
returns-in-None-clause-cause g c = λ before adds. caused_since before _ _ _ _ (adds_on before _ _ adds) c.read.ensures.cause

pub returns-in-Some-clause-fits : goal.returns-in-Some-clause-fits
returns-in-Some-clause-fits g c = let d = desk_of c.args.self.now in let ports = g.C.Scanner.ports c.args.cx.now in let s = g.C.Calls.sight c.args.cx.now d.link in
    subst (λ (p : Phase). Fits ports s (record d { talk = c.one_written.result.value }) p) (sym c.ends.ensures.phase)
    (subst (λ (t : TalkValue). Fits ports s (record d { talk = t }) (Over c.in-Some.cause)) (sym c.one_written.ensures) (written_over ports s d c.args.place.0 c.in-Some.cause (subst (λ (b : Option Cause). Wrote ports s d c.args.place.0 b Pushed) c.in-Some.is c.requires)))

pub returns-in-Some-clause-cause : goal.returns-in-Some-clause-cause
returns-in-Some-clause-cause g c = let d = desk_of c.args.self.now in
    λ before adds. caused_by before _ c.args.self.now.index (Over c.in-Some.cause) _ (TxCame Pushed) c.ends.ensures.phase adds (behind_ends d c.in-Some.cause (subst (λ (b : Option Cause). IsBehind b d) c.in-Some.is c.requires.fits.agrees.0))

use Rattle.std.proofs.Common.{subst, sym}
use Rattle.demi_streamq.specs.declared.tx_out.TxOut.{TxOut}
use Rattle.demi_streamq.specs.declared.tx_out.TxOut.TheVariants.{Fault, Broken, Shut, Closed, Stopped, Halted}
use Rattle.demi_link.specs.Desks.{desk_of}
use Rattle.demi_link.specs.Events.{Adds, TxCame}
use Rattle.demi_link.specs.Heard.{IsWriteFault}
use Rattle.demi_link.specs.Fitting.{Fits, Wrote}
use Rattle.demi_link.specs.declared.phase.Cause.TheVariants as cause
use Rattle.demi_link.specs.declared.phase.Phase.{Phase}
use Rattle.demi_link.specs.declared.phase.Phase.TheVariants.{Over}
use Rattle.demi_link.proofs.Arriving.{caused_by}
use Rattle.demi_link.proofs.Written.{over_lost, over_write}
use Rattle.demi_link.proofs.desk.Desk.came.Goals as goal

pub wrote-requires : goal.wrote-requires
wrote-requires g c = let d = desk_of c.args.self.now in let ports = g.C.Scanner.ports c.args.cx.now in let s = g.C.Calls.sight c.args.cx.now d.link in
    subst (Wrote ports s d c.args.place.0 c.args.behind) c.in-Pushed.is c.requires

pub returns-in-Pushed-clause-cause : goal.returns-in-Pushed-clause-cause
returns-in-Pushed-clause-cause g c = λ before adds. c.wrote.ensures.cause before (subst (λ (x : TxOut). Adds before (g.C.Calls.events c.args.cx.now) (TxCame x)) c.in-Pushed.is adds)

pub returns-in-Fault-clause-fits : goal.returns-in-Fault-clause-fits
returns-in-Fault-clause-fits g c = let d = desk_of c.args.self.now in let ports = g.C.Scanner.ports c.args.cx.now in let s = g.C.Calls.sight c.args.cx.now d.link in
    subst (λ (p : Phase). Fits ports s d p) (sym c.ends.ensures.phase) (over_write ports s d c.args.place.0 c.args.behind c.args.outcome c.requires (subst IsWriteFault (sym c.in-Fault.is) tt))

pub returns-in-Fault-clause-cause : goal.returns-in-Fault-clause-cause
returns-in-Fault-clause-cause g c = λ before adds. caused_by before _ c.args.self.now.index (Over cause.WriteFault) _ (TxCame (Fault c.in-Fault.field-0)) c.ends.ensures.phase (subst (λ (x : TxOut). Adds before (g.C.Calls.events c.args.cx.now) (TxCame x)) c.in-Fault.is adds) tt

pub returns-in-Broken-clause-fits : goal.returns-in-Broken-clause-fits
returns-in-Broken-clause-fits g c = let d = desk_of c.args.self.now in let ports = g.C.Scanner.ports c.args.cx.now in let s = g.C.Calls.sight c.args.cx.now d.link in
    subst (λ (p : Phase). Fits ports s d p) (sym c.ends-in-Broken.ensures.phase) (over_write ports s d c.args.place.0 c.args.behind c.args.outcome c.requires (subst IsWriteFault (sym c.in-Broken.is) tt))

pub returns-in-Broken-clause-cause : goal.returns-in-Broken-clause-cause
returns-in-Broken-clause-cause g c = λ before adds. caused_by before _ c.args.self.now.index (Over cause.WriteFault) _ (TxCame (Broken c.in-Broken.field-0)) c.ends-in-Broken.ensures.phase (subst (λ (x : TxOut). Adds before (g.C.Calls.events c.args.cx.now) (TxCame x)) c.in-Broken.is adds) tt

pub returns-in-Shut-clause-fits : goal.returns-in-Shut-clause-fits
returns-in-Shut-clause-fits g c = let d = desk_of c.args.self.now in let ports = g.C.Scanner.ports c.args.cx.now in let s = g.C.Calls.sight c.args.cx.now d.link in
    subst (λ (p : Phase). Fits ports s d p) (sym c.ends-in-Shut.ensures.phase) (over_lost ports s d c.args.place.0 c.args.behind c.args.outcome c.requires)

pub returns-in-Shut-clause-cause : goal.returns-in-Shut-clause-cause
returns-in-Shut-clause-cause g c = λ before adds. caused_by before _ c.args.self.now.index (Over cause.Lost) _ (TxCame (Shut)) c.ends-in-Shut.ensures.phase (subst (λ (x : TxOut). Adds before (g.C.Calls.events c.args.cx.now) (TxCame x)) c.in-Shut.is adds) tt

pub returns-in-Closed-clause-fits : goal.returns-in-Closed-clause-fits
returns-in-Closed-clause-fits g c = let d = desk_of c.args.self.now in let ports = g.C.Scanner.ports c.args.cx.now in let s = g.C.Calls.sight c.args.cx.now d.link in
    subst (λ (p : Phase). Fits ports s d p) (sym c.ends-in-Closed.ensures.phase) (over_lost ports s d c.args.place.0 c.args.behind c.args.outcome c.requires)

pub returns-in-Closed-clause-cause : goal.returns-in-Closed-clause-cause
returns-in-Closed-clause-cause g c = λ before adds. caused_by before _ c.args.self.now.index (Over cause.Lost) _ (TxCame (Closed)) c.ends-in-Closed.ensures.phase (subst (λ (x : TxOut). Adds before (g.C.Calls.events c.args.cx.now) (TxCame x)) c.in-Closed.is adds) tt

pub returns-in-Stopped-clause-fits : goal.returns-in-Stopped-clause-fits
returns-in-Stopped-clause-fits g c = let d = desk_of c.args.self.now in let ports = g.C.Scanner.ports c.args.cx.now in let s = g.C.Calls.sight c.args.cx.now d.link in
    subst (λ (p : Phase). Fits ports s d p) (sym c.ends-in-Stopped.ensures.phase) (over_lost ports s d c.args.place.0 c.args.behind c.args.outcome c.requires)

pub returns-in-Stopped-clause-cause : goal.returns-in-Stopped-clause-cause
returns-in-Stopped-clause-cause g c = λ before adds. caused_by before _ c.args.self.now.index (Over cause.Lost) _ (TxCame (Stopped c.in-Stopped.field-0)) c.ends-in-Stopped.ensures.phase (subst (λ (x : TxOut). Adds before (g.C.Calls.events c.args.cx.now) (TxCame x)) c.in-Stopped.is adds) tt

pub returns-in-Halted-clause-fits : goal.returns-in-Halted-clause-fits
returns-in-Halted-clause-fits g c = let d = desk_of c.args.self.now in let ports = g.C.Scanner.ports c.args.cx.now in let s = g.C.Calls.sight c.args.cx.now d.link in
    subst (λ (p : Phase). Fits ports s d p) (sym c.ends-in-Halted.ensures.phase) (over_lost ports s d c.args.place.0 c.args.behind c.args.outcome c.requires)

pub returns-in-Halted-clause-cause : goal.returns-in-Halted-clause-cause
returns-in-Halted-clause-cause g c = λ before adds. caused_by before _ c.args.self.now.index (Over cause.Lost) _ (TxCame (Halted)) c.ends-in-Halted.ensures.phase (subst (λ (x : TxOut). Adds before (g.C.Calls.events c.args.cx.now) (TxCame x)) c.in-Halted.is adds) tt

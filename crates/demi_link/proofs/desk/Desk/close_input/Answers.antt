use Rattle.std.proofs.Common.{◌≡◌, ◌∙◌, ◌++◌, ◌∷◌, [], ap, refl, subst, sym, None, Some, true}
use Rattle.demi_frame.specs.Decoding.{Decoding}
use Rattle.demi_frame.specs.Reading.{ending_of}
use Rattle.demi_spec.specs.Input.{Parses, Refused_end}
use Rattle.demi_streamq.specs.RxKept.{all_bytes}
use Rattle.demi_streamq.specs.declared.rx_out.RxOut.TheVariants.{End}
use Rattle.demi_link.specs.Desks.{desk_of}
use Rattle.demi_link.specs.Events.{RxCame}
use Rattle.demi_link.specs.Fitting.{Fits}
use Rattle.demi_link.specs.Talks.{TalkValue}
use Rattle.demi_link.specs.declared.phase.Cause.TheVariants as cause
use Rattle.demi_link.specs.declared.phase.Kind.TheVariants as kind
use Rattle.demi_link.specs.declared.phase.Phase.{Phase}
use Rattle.demi_link.specs.declared.phase.Phase.TheVariants.{Asking, Over}
use Rattle.demi_link.proofs.Arriving.{adds_on, caused_by, caused_since}
use Rattle.demi_link.proofs.Taken.{keeps_taken, taken_clean, taken_refused}
use Rattle.demi_link.proofs.desk.Desk.close_input.Goals as goal

pub prepare-requires : goal.prepare-requires
prepare-requires g c =
    let n = c.requires in
    let d = record (desk_of c.args.self.now) { talk = n.was } in
    let ports = g.C.Scanner.ports c.args.cx.now in
    let s = g.C.Calls.sight c.args.cx.now d.link in
    let k = keeps_taken ports s d n.was.place End n.took refl in
    let code = c.in-Some.code in
    let e = c.in-Some.ensures in
    let outs = all_bytes (n.was.outs ++ (n.was.place, End) ∷ []) in
    let parses : Parses n.was.handed (ending_of None (Some code)) true outs = subst (λ x. Parses n.was.handed (ending_of x (Some code)) true outs) n.took.fits.agrees.0.1 (e.read outs n.was.handed k.read) in
    let f = taken_refused ports s d n.was.place End n.took code refl refl tt parses in
    let talk : c.one_refused.result.value ≡ _ = c.one_refused.ensures ∙ ap (λ (t : TalkValue). record t { refused = Some code; request = Refused_end code }) n.now in
    subst (λ (x : Decoding). Fits ports s (record d { decoder = x; talk = c.one_refused.result.value }) (Asking (kind.Refused code))) (sym e.same)
    (subst (λ (t : TalkValue). Fits ports s (record d { talk = t }) (Asking (kind.Refused code))) (sym talk) f)

pub returns-in-None-clause-fits : goal.returns-in-None-clause-fits
returns-in-None-clause-fits g c =
    let n = c.requires in
    let d = record (desk_of c.args.self.now) { talk = n.was } in
    let ports = g.C.Scanner.ports c.args.cx.now in
    let s = g.C.Calls.sight c.args.cx.now d.link in
    let k = keeps_taken ports s d n.was.place End n.took refl in
    let e = c.in-None.ensures in
    let outs = all_bytes (n.was.outs ++ (n.was.place, End) ∷ []) in
    let parses : Parses n.was.handed (ending_of None None) true outs = subst (λ x. Parses n.was.handed (ending_of x None) true outs) n.took.fits.agrees.0.1 (e.read outs n.was.handed k.read) in
    let f = taken_clean ports s d n.was.place End n.took refl refl tt parses in
    let at = desk_of c.args.self.now in
    subst (λ (p : Phase). Fits ports s (record at { decoder = c.finish.new.self }) p) (sym c.ends.ensures.phase)
    (subst (λ (x : Decoding). Fits ports s (record at { decoder = x }) (Over cause.Clean)) (sym e.same)
    (subst (λ (t : TalkValue). Fits ports s (record d { talk = t }) (Over cause.Clean)) (sym n.now) f))

pub returns-in-None-clause-cause : goal.returns-in-None-clause-cause
returns-in-None-clause-cause g c = λ before adds. caused_by before _ c.args.self.now.index (Over cause.Clean) _ (RxCame End) c.ends.ensures.phase adds tt

pub returns-in-Some-clause-cause : goal.returns-in-Some-clause-cause
returns-in-Some-clause-cause g c = λ before adds. caused_since before _ _ c.prepare.new.self.index c.prepare.result.phase (adds_on before _ _ adds) c.prepare.ensures.cause

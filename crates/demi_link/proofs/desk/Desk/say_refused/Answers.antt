use Rattle.std.proofs.Common.{◌≡◌, ◌++◌, ◌∷◌, [], List, ℕ, Option, Some, true, ◌∙◌, ap, length, refl, subst, sym}
use Rattle.std.specs.Prelude.{IfSome}
use Rattle.demi_heap.specs.Seen.{HalfValue}
use Rattle.demi_streamq.specs.Sending.{array_bytes}
use Rattle.demi_spec.specs.Input.{Asked, Parses, Refused, Refused_end}
use Rattle.demi_streamq.specs.RxKept.{all_bytes}
use Rattle.demi_spec.specs.Reply.{IsAnswer, frame, spelling}
use Rattle.demi_served.specs.Asking.{ask_of, plain_answer}
use Rattle.demi_link.specs.Causes.{Caused}
use Rattle.demi_link.specs.Events.{Event}
use Rattle.demi_link.specs.Desks.{desk_of}
use Rattle.demi_link.specs.Fitting.{Fits}
use Rattle.demi_link.specs.declared.phase.Cause.TheVariants as cause
use Rattle.demi_link.specs.declared.phase.Kind.TheVariants as kind
use Rattle.demi_link.specs.declared.phase.Phase.TheVariants.{Over, Sending}
use Rattle.demi_link.proofs.Arriving.{caused_by}
use Rattle.demi_link.proofs.Asks.{desk_drawn, plain_next}
use Rattle.demi_link.proofs.Frames.{parses_code}
use Rattle.demi_link.proofs.desk.Desk.say_refused.Goals as goal

pub draw-requires-clause-plain : goal.draw-requires-clause-plain
draw-requires-clause-plain g c = let d = desk_of c.args.self.now in ap (λ (x : Asked). ask_of d.link (length d.talk.kept.drawn) x) c.requires.0.fits.agrees.0.0

pub push-requires : goal.push-requires
push-requires g c =
    let d = desk_of c.args.self.now in
    let h = c.requires.0 in
    let is = h.fits.agrees.0 in
    let s = g.C.Calls.sight c.args.cx.now d.link in
    let b = g.C.Calls.sight c.draw.new.self d.link in
    let o = c.in-Some.ensures.some in
    let n = c.in-Some.sequence in
    let q = d.talk.request in
    let code = c.args.code in
    let head = c.written-head.result in
    let tail = c.written-tail.result in
    let bytes : head.bytes ≡ c.reply_head.result = ap (λ (x : HalfValue). x.bytes) c.written-head.ensures in
    let last : tail.bytes ≡ code ∷ [] = ap (λ (x : HalfValue). x.bytes) c.written-tail.ensures in
    let sga : c.joined-sga.result ≡ head ∷ tail ∷ [] = c.joined-sga.ensures ∙ ap (λ (l : List HalfValue). head ∷ l) c.of.ensures in
    let parses = subst (λ (r : Option ℕ). IfSome r (λ x. Parses d.talk.handed (Refused x) true (all_bytes d.talk.outs))) is.1 h.fits.keeps.refusal in
    let fits : IsAnswer (plain_answer (Refused_end code)) = parses_code d.talk.handed (all_bytes d.talk.outs) code parses in
    let spelled : array_bytes (head ∷ tail ∷ []) ≡ spelling (record { worker = d.talk.kept.worker; sequence = n; answer = plain_answer q }) =
    ap (λ (l : List ℕ). l ++ (tail.bytes ++ [])) bytes ∙ ap (λ (l : List ℕ). c.reply_head.result ++ (l ++ [])) last ∙ c.reply_head.ensures (code ∷ []) refl ∙ ap (λ (w : ℕ). frame 0x84 w n 0 (code ∷ [])) (h.fits.keeps.number.1 ∙ sym h.fits.keeps.number.0) ∙ ap (λ (x : Asked). spelling (record { worker = d.talk.kept.worker; sequence = n; answer = plain_answer x })) (sym is.0) in
    subst (λ (p : ℕ). Fits p b (desk_drawn d c.one_plain.result.value) (Sending c.joined-sga.result (Some (cause.Refused code)))) (sym (g.met.C.Scanner.goes_ports d.link _ _ c.in-Some.ensures.goes))
    (subst (λ (a : List HalfValue). Fits (g.C.Scanner.ports c.args.cx.now) b (desk_drawn d c.one_plain.result.value) (Sending a (Some (cause.Refused code)))) (sym sga)
    (plain_next (g.C.Scanner.ports c.args.cx.now) s b d (kind.Refused code) 2 (Some (cause.Refused code)) (head ∷ tail ∷ []) n c.one_plain.result.value h is
    (ap (λ (x : Asked). ask_of d.link (length d.talk.kept.drawn) x) is.0) (subst (λ (x : Asked). IsAnswer (plain_answer x)) (sym is.0) fits) o.0 o.1 o.2 c.one_plain.ensures refl
    (ap (λ (x : HalfValue). x.heap) c.written-head.ensures ∙ c.requires.1.0, (ap (λ (x : HalfValue). x.heap) c.written-tail.ensures ∙ c.requires.2.0, tt)) spelled))

pub returns-in-Some-clause-cause : goal.returns-in-Some-clause-cause
returns-in-Some-clause-cause g c = subst (λ (es : List Event). Caused es (g.C.Calls.events c.push.new.cx) c.push.new.self.index c.push.result.phase) c.in-Some.ensures.some.3 c.push.ensures.cause

pub returns-in-Some-clause-goes : goal.returns-in-Some-clause-goes
returns-in-Some-clause-goes g c = g.met.C.Scanner.goes_on c.args.self.now.link _ _ _ c.in-Some.ensures.goes c.push.ensures.goes

pub returns-in-None-clause-cause : goal.returns-in-None-clause-cause
returns-in-None-clause-cause g c = caused_by _ _ c.args.self.now.index (Over cause.Lost) _ _ c.ends.ensures.phase c.in-None.ensures.none.1 tt

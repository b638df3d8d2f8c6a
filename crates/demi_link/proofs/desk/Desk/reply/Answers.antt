use Rattle.std.proofs.Common.{◌≡◌, ◌∷◌, ◌++◌, List, ℕ, None, ◌∙◌, ap, length, subst, sym}
use Rattle.demi_heap.specs.Seen.{HalfValue}
use Rattle.demi_spec.specs.Reply.{frame, spelling}
use Rattle.demi_streamq.specs.Sending.{array_bytes}
use Rattle.demi_link.specs.Desks.{desk_of}
use Rattle.demi_link.specs.Fitting.{Fits, body_of, reply_as}
use Rattle.demi_link.specs.declared.phase.Phase.TheVariants.{Sending}
use Rattle.demi_link.proofs.Backs.{array_count}
use Rattle.demi_link.proofs.Tells.{answer_fits, frame_is, reply_next}
use Rattle.demi_link.proofs.desk.Desk.reply.Goals as goal

pub push-requires : goal.push-requires
push-requires g c =
    let d = desk_of c.args.self.now in
    let f = c.requires in
    let a = g.C.Calls.sight c.args.cx.now d.link in
    let b = g.C.Calls.sight c.claim.new.self d.link in
    let draft = c.args.draft in
    let body = draft.body in
    let bytes : List ℕ = array_bytes (body_of body) in
    let kind = c.kind_of-kind.result.0 in
    let version = c.kind_of-kind.result.1 in
    let says = c.kind_of-kind.ensures.says in
    let head = c.written-head.result in
    let is : head.bytes ≡ c.reply_head.result = ap (λ (x : HalfValue). x.bytes) c.written-head.ensures in
    let heap : head.heap ≡ a.heap = ap (λ (x : HalfValue). x.heap) c.written-head.ensures ∙ ap (λ (x : HalfValue). x.heap) c.in-Ok.ensures.ok in
    let long : c.body_len-length.result ≡ length bytes = c.body_len-length.ensures ∙ sym (array_count (body_of body)) in
    let worker : d.worker ≡ d.talk.kept.worker = f.keeps.number.1 ∙ sym f.keeps.number.0 in
    let spelled : array_bytes (head ∷ body_of body) ≡ spelling (reply_as d.talk.kept.worker draft) =
    ap (λ (l : List ℕ). l ++ bytes) is ∙ c.reply_head.ensures bytes long ∙ ap (λ (w : ℕ). frame kind w draft.sequence version bytes) worker ∙ frame_is draft.answer body kind version d.talk.kept.worker draft.sequence f.agrees.9 says in
    subst (λ (p : ℕ). Fits p b d (Sending c.joined.result None)) (sym (g.met.C.Scanner.goes_ports d.link _ _ c.in-Ok.ensures.goes))
    (subst (λ (l : List HalfValue). Fits (g.C.Scanner.ports c.args.cx.now) b d (Sending l None)) (sym c.joined.ensures)
    (reply_next (g.C.Scanner.ports c.args.cx.now) a b d draft head f c.in-Ok.ensures.taken.0 heap spelled (answer_fits draft.answer body kind version bytes f.agrees.9 says c.kind_of-kind.ensures.version f.agrees.8) c.is_word.ensures))

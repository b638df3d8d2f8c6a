use Rattle.std.proofs.Common.{◌≡◌, ℕ, List, Option, true, false, take, drop, ap, sym, ◌∙◌, subst, arith}
use Rattle.std.specs.List.{list_any}
use Rattle.std.proofs.lemmas.List.{get_or_read}
use Rattle.demi_served.specs.Answers.{is_stored, version_of}
use Rattle.demi_audit.specs.Asking.{asks}
use Rattle.demi_audit.specs.Hearing.{answer_by, replies_by, reply_by}
use Rattle.demi_audit.specs.Hearing.{no_reply}
use Rattle.demi_audit.specs.Turns.{is_in_turn}
use Rattle.demi_audit.specs.Verdict.{Around, answers, falls, falls_by, is_right}
use Rattle.demi_audit.specs.declared.heard.HeardReply.{HeardReply}
use Rattle.demi_audit.proofs.Falls.{falls_any}
use Rattle.demi_audit.proofs.Judgings.{bytes_are, falls_here, turn_decides}
use Rattle.demi_audit.proofs.judging.is_right.Goals as goal

pub returns-then-falls : goal.returns-then-falls
returns-then-falls c = λ run mine h g.
    let text = c.args.case.now.text.now in
    let heard = c.args.case.now.heard.items in
    let at = c.args.at in
    let q = asks c.args.ask c.args.input.now in
    let a : Around = record { all = replies_by text heard; before = replies_by text (take at heard); mine = mine } in
    let x = c.index-reply.result.now in
    let e = get_or_read heard at x c.requires.at c.index-reply.ensures no_reply in
    let good : answers run c.args.link c.args.index q (reply_by text x).answer ≡ true =
    ap (λ (b : List ℕ). answers run c.args.link c.args.index q (answer_by x.kind x.version b)) (sym (bytes_are text x)) ∙ sym (c.answers.ensures run h.book) ∙ c.if-not-answers.false in
    let down : list_any (falls (reply_by text x)) mine ≡ true =
    falls_any (reply_by text x) mine ∙ ap (λ (o : Option ℕ). falls_by (is_stored (reply_by text x).answer) o (version_of (reply_by text x).answer)) (sym g)
    ∙ sym (c.falls.ensures (take x.length (drop x.from text))) ∙ c.if-falls.true in
    subst (λ (r : HeardReply). false ≡ is_right run a c.args.link c.args.index q (reply_by text r)) e (sym (falls_here run a c.args.link c.args.index q (reply_by text x) good down))

pub returns : goal.returns
returns c = λ run mine h g.
    let text = c.args.case.now.text.now in
    let heard = c.args.case.now.heard.items in
    let turns = c.args.case.now.turns.items in
    let at = c.args.at in
    let q = asks c.args.ask c.args.input.now in
    let a : Around = record { all = replies_by text heard; before = replies_by text (take at heard); mine = mine } in
    let x = c.index-reply.result.now in
    let e = get_or_read heard at x c.requires.at c.index-reply.ensures no_reply in
    let good : answers run c.args.link c.args.index q (reply_by text x).answer ≡ true =
    ap (λ (b : List ℕ). answers run c.args.link c.args.index q (answer_by x.kind x.version b)) (sym (bytes_are text x)) ∙ sym (c.answers.ensures run h.book) ∙ c.if-not-answers.false in
    let rising : list_any (falls (reply_by text x)) mine ≡ false =
    falls_any (reply_by text x) mine ∙ ap (λ (o : Option ℕ). falls_by (is_stored (reply_by text x).answer) o (version_of (reply_by text x).answer)) (sym g)
    ∙ sym (c.falls.ensures (take x.length (drop x.from text))) ∙ c.if-falls.false in
    let turn = get_or_read turns at c.index.result.now (omega (arith, h.count, c.requires.at)) c.index.ensures false ∙ h.turns at no_reply c.requires.at in
    turn ∙ sym (subst (λ (r : HeardReply). is_right run a c.args.link c.args.index q (reply_by text r) ≡ is_in_turn a.all a.before (reply_by text r)) e
    (turn_decides run a c.args.link c.args.index q (reply_by text x) good rising))

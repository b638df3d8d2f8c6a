use Rattle.std.proofs.Common.{◌≡◌, ◌+◌, ◌<◌, ℕ, List, Option, length, take, drop, get_or, ap, sym, ◌∙◌, subst, arith}
use Rattle.std.proofs.lemmas.List.{get_or_read}
use Rattle.demi_served.specs.Answers.{version_of}
use Rattle.demi_audit.specs.Falling.{later_of}
use Rattle.demi_audit.specs.Hearing.{replies_by, reply_by}
use Rattle.demi_audit.specs.Hearing.{no_reply}
use Rattle.demi_audit.specs.declared.heard.HeardReply.{HeardReply}
use Rattle.demi_audit.proofs.Judgings.{JudgesOn, judged_more, judged_surplus, judged_wrong, judges_more}
use Rattle.demi_audit.proofs.judging.judge_link.Goals as goal

pub returns-in_default : goal.returns-in_default
returns-in_default c = λ run rest h m.
    let s = c.args.case.now in
    judged_surplus run s.text.now s.heard.items c.args.link c.args.from c.args.count c.judging.i rest c.args.input.now c.judging.left.now c.judging.greatest c.judging-test.true c.requires.inside
    c.in_default.ensures.asked (c.judging.invariant run rest h)

pub returns-then-not-is_right : goal.returns-then-not-is_right
returns-then-not-is_right c = λ run rest h m.
    let s = c.args.case.now in
    let j = c.judging.invariant run rest h in
    let mine = replies_by s.text.now (take c.judging.i (drop c.args.from s.heard.items)) in
    judged_wrong run s.text.now s.heard.items c.args.link c.args.from c.args.count c.judging.i rest c.args.input.now c.judging.left.now c.judging.greatest c.in-Some.ask c.judging-test.true c.requires.inside
    c.in-Some.ensures.asked (sym (c.is_right.ensures run mine h j.greatest_is) ∙ c.if-not-is_right.true) j

pub judging-preserved : goal.judging-preserved
judging-preserved c = λ run rest h.
    let s = c.args.case.now in
    let text = s.text.now in
    let heard = s.heard.items in
    let from = c.args.from in
    let i = c.judging.i in
    let ask = c.in-Some.ask in
    let left = c.judging.left.now in
    let j = c.judging.invariant run rest h in
    let mine = replies_by text (take i (drop from heard)) in
    let less : from + i < length heard = omega (arith, c.judging-test.true, c.requires.inside) in
    let x = c.index-reply.result.now in
    let e = get_or_read heard (from + i) x less c.index-reply.ensures no_reply in
    let v : c.version_named.result ≡ version_of (reply_by text (get_or heard (from + i) no_reply)).answer =
    c.version_named.ensures (take x.length (drop x.from text)) ∙ ap (λ (r : HeardReply). version_of (reply_by text r).answer) e in
    let g : c.later_of-greatest.result ≡ later_of c.judging.greatest (version_of (reply_by text (get_or heard (from + i) no_reply)).answer) =
    c.later_of-greatest.ensures ∙ ap (later_of c.judging.greatest) v in
    let k = judges_more run text heard c.args.link from c.args.count i rest c.args.input.now left c.judging.greatest ask c.judging-test.true c.requires.inside
    c.in-Some.ensures.asked (sym (c.is_right.ensures run mine h j.greatest_is) ∙ c.if-not-is_right.false) j in
    subst (λ (o : Option ℕ). JudgesOn run text heard c.args.link from c.args.count (i + 1) rest c.args.input.now c.behind-left.result.now o) (sym g)
    (subst (λ (l : List ℕ). JudgesOn run text heard c.args.link from c.args.count (i + 1) rest c.args.input.now l (later_of c.judging.greatest (version_of (reply_by text (get_or heard (from + i) no_reply)).answer)))
    (sym c.behind-left.ensures) k)

pub returns-then-more : goal.returns-then-more
returns-then-more c = λ run rest h m.
    let s = c.args.case.now in
    judged_more run s.text.now s.heard.items c.args.link c.args.from c.args.count c.judging.i rest c.args.input.now c.judging.left.now c.judging.greatest (omega (arith, c.judging-test.false))
    (sym m ∙ c.if-more.true) (c.judging.invariant run rest h)

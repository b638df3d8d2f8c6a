use Rattle.std.proofs.Common.{◌+◌, ◌-◌, List, take, drop, sym, subst, refl, arith}
use Rattle.demi_audit.specs.declared.heard.HeardReply.{HeardReply}
use Rattle.demi_audit.proofs.Hearings.{HeardUpTo, next_heard}
use Rattle.demi_audit.proofs.hearing.hear_link.Goals as goal

pub hearing-preserved : goal.hearing-preserved
hearing-preserved c =
    let text = c.args.text.now in
    let from = c.args.from in
    let size = from + c.args.size - from in
    let output = take size (drop from text) in
    let one = next_heard text output c.args.heard.now.items c.hearing.heard.items from size c.hearing.at c.in-Some.used c.in-Some.reply c.heard_at.result refl (omega (arith, c.requires)) c.hearing.invariant c.in-Some.ensures c.heard_at.ensures.from c.heard_at.ensures.length c.heard_at.ensures.reply in
    subst (λ (l : List HeardReply). HeardUpTo text output c.args.heard.now.items l (c.hearing.at + c.in-Some.used)) (sym c.in_ok-push.ensures.items) one

use Rattle.std.proofs.Common.{List, Bool, sym, subst, ◌∙◌}
use Rattle.demi_audit.specs.Checking.{MarksStored}
use Rattle.demi_audit.specs.Hearing.{replies_by}
use Rattle.demi_audit.specs.declared.heard.HeardReply.{HeardReply}
use Rattle.demi_audit.proofs.Checks.{records_judged}
use Rattle.demi_audit.proofs.checking.judge.Goals as goal

pub returns-in-Some-judge_records : goal.returns-in-Some-judge_records
returns-in-Some-judge_records c = λ run all h of f.
    let s = c.args.case.now in
    let text = s.text.now in
    let heard = s.heard.items in
    let marks = subst (λ (l : List Bool). MarksStored l (replies_by text heard)) (sym c.deref-2.ensures.value)
    (subst (λ (l : List HeardReply). MarksStored c.in_ok-stored.stored.items (replies_by text l)) c.deref.ensures.value (c.in_ok-stored.ensures.marks text)) in
    let found = c.in-Some-judge_records.ensures (replies_by text heard) run.records marks (sym (c.count-count.ensures run h.book)) in
    c.in_default.ensures run all _ h of f ∙ records_judged run text heard c.args.links.now all s.book.old _ f h.book.old found

pub returns : goal.returns
returns c = λ run all h of f.
    let s = c.args.case.now in
    let text = s.text.now in
    let heard = s.heard.items in
    let marks = subst (λ (l : List Bool). MarksStored l (replies_by text heard)) (sym c.deref-2.ensures.value)
    (subst (λ (l : List HeardReply). MarksStored c.in_ok-stored.stored.items (replies_by text l)) c.deref.ensures.value (c.in_ok-stored.ensures.marks text)) in
    let found = c.in-None.ensures (replies_by text heard) run.records marks (sym (c.count-count.ensures run h.book)) in
    c.in_default.ensures run all _ h of f ∙ records_judged run text heard c.args.links.now all s.book.old _ f h.book.old found

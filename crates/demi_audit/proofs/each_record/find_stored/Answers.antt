use Rattle.std.proofs.Common.{List, take, arith, sym, ◌∙◌, subst}
use Rattle.std.proofs.lemmas.List.{take_all, take_more}
use Rattle.demi_audit.specs.Checking.{MarksStored}
use Rattle.demi_audit.specs.Hearing.{replies_by}
use Rattle.demi_audit.specs.Hearing.{no_reply}
use Rattle.demi_audit.specs.declared.heard.HeardReply.{HeardReply}
use Rattle.demi_audit.proofs.each_record.find_stored.Goals as goal

pub marking-preserved : goal.marking-preserved
marking-preserved c =
    let heard = c.args.heard.now in
    let n = c.marking.reply-index in
    record {
      size = c.mark_stored.ensures.size ∙ c.marking.invariant.size;
      marks = λ text. subst (λ (l : List HeardReply). MarksStored c.mark_stored.new.marks.items (replies_by text l)) (sym (take_more heard n no_reply c.marking-test.true))
          (c.mark_stored.ensures.marked text (take n heard) (c.marking.invariant.marks text));
    }

pub returns-clause-marks : goal.returns-clause-marks
returns-clause-marks c = λ text.
    subst (λ (l : List HeardReply). MarksStored c.marking.marks.items (replies_by text l)) (take_all c.marking.reply-index c.args.heard.now (omega (arith, c.marking-test.false))) (c.marking.invariant.marks text)

use Rattle.std.proofs.Common.{◌≡◌, ◌+◌, ◌<◌, Bool, List, length, take, get_or, arith, sym, subst, ◌∙◌}
use Rattle.std.proofs.lemmas.List.{take_more}
use Rattle.demi_audit.specs.Turns.{IsTable, greatest_below, turn_of, was_given}
use Rattle.demi_audit.specs.declared.heard.HeardReply.{HeardReply}
use Rattle.demi_audit.specs.Hearing.{no_reply}
use Rattle.demi_audit.proofs.Turning.{TurnsTo, turn_as, turn_more}
use Rattle.demi_audit.proofs.turns.find_turns.Goals as goal

pub turns-preserved : goal.turns-preserved
turns-preserved c =
    let heard = c.args.heard.now in
    let n = c.turns.reply-index in
    let p = c.in_ok-places.places in
    let i = c.turns.invariant in
    let r = get_or heard n no_reply in
    let h = c.in_ok-places.ensures in
    let less : n < length heard = c.turns-test.true in
    let ahead = subst (IsTable p (greatest_below heard)) (sym c.deref.ensures.value) c.in_ok-ahead.ensures.table in
    let given = subst (IsTable p (was_given (take n heard))) (sym c.deref-in-turns.ensures.value) i.given in
    let is : c.is_turn.result ≡ turn_of heard (take n heard) r = c.is_turn.ensures heard (take n heard) h ahead given in
    record {
      given = subst (λ (l : List HeardReply). IsTable p (was_given l) c.mark.new.given.items) (sym (take_more heard n no_reply less)) (c.mark.ensures.marked heard (take n heard) h i.given);
      size = c.mark.ensures.size ∙ i.size;
      turns = subst (λ (l : List Bool). TurnsTo heard l (n + 1)) (sym c.in_ok-push.ensures.items) (turn_more heard c.turns.turns.items n c.is_turn.result no_reply less i.turns is);
    }

pub returns-clause-each : goal.returns-clause-each
returns-clause-each c = λ text i d less.
    let heard = c.args.heard.now in
    c.turns.invariant.turns.each i d (omega (arith, c.turns-test.false)) ∙ turn_as text heard (take i heard) (get_or heard i d)

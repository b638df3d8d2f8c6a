use Rattle.std.proofs.Common.{◌≡◌, ◌<◌, ℕ, List, false, length, take, get_or, ap, subst, ◌∙◌}
use Rattle.demi_audit.specs.Hearing.{replies_by, reply_by}
use Rattle.demi_audit.specs.Turns.{is_in_turn}
use Rattle.demi_audit.specs.declared.heard.HeardReply.{HeardReply}
use Rattle.demi_audit.proofs.checking.open_case.Goals as goal

pub returns-clause-case : goal.returns-clause-case
returns-clause-case c = λ run log old limit.
    let text = c.args.text.now in
    let turns = c.in_ok-turns.turns.items in
    record {
      book = c.in_ok-book.ensures run log old limit;
      inside = c.requires.inside;
      count = c.in_ok-turns.ensures.count ∙ ap length c.deref.ensures.value;
      turns = subst (λ (l : List HeardReply). (i : ℕ) (d : HeardReply) → i < length l → get_or turns i false ≡ is_in_turn (replies_by text l) (replies_by text (take i l)) (reply_by text (get_or l i d)))
          c.deref.ensures.value (λ i d less. c.in_ok-turns.ensures.each text i d less);
    }

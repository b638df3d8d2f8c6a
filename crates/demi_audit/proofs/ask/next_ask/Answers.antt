use Rattle.std.proofs.Common.{get_or, arith, refl}
use Rattle.std.proofs.lemmas.Bool.Decides.{nat_tests}
use Rattle.std.proofs.lemmas.List.{length-drop}
use Rattle.demi_audit.proofs.AskReads.{asks_as, cut_ask, head_refused, no_ask, short_ask, whole_ask}
use Rattle.demi_audit.proofs.ask.next_ask.Goals as goal

pub returns-then-is_empty-clause-asked : goal.returns-then-is_empty-clause-asked
returns-then-is_empty-clause-asked c = no_ask c.args.input.now (grind (arith, nat_tests))

pub returns-then-input-lt-HEAD_BYTES-clause-asked : goal.returns-then-input-lt-HEAD_BYTES-clause-asked
returns-then-input-lt-HEAD_BYTES-clause-asked c = short_ask c.args.input.now (grind (arith, nat_tests)) (omega arith)

pub returns-in-Some-clause-asked : goal.returns-in-Some-clause-asked
returns-in-Some-clause-asked c =
    let input = c.args.input.now in
    head_refused input (get_or input 0 0) (get_or input 1 0) c.number_of_4-value.result c.in-Some.code (omega arith) refl refl c.number_of_4-value.ensures.value c.in-Some.ensures

pub returns-then-input-key-clause-asked : goal.returns-then-input-key-clause-asked
returns-then-input-key-clause-asked c =
    let input = c.args.input.now in
    cut_ask input (get_or input 0 0) (get_or input 1 0) c.number_of_4-value.result (omega arith) refl refl c.number_of_4-value.ensures.value c.in_default.ensures
    (omega (arith, length-drop 6 input, c.if-input-key.true))

pub returns-clause-asked : goal.returns-clause-asked
returns-clause-asked c =
    let input = c.args.input.now in
    (asks_as input c.ask_by.result _ c.ask_by.ensures (whole_ask input (get_or input 0 0) (get_or input 1 0) c.number_of_4-value.result (λ i. omega (arith, c.type_inv.input i)) (omega arith) refl refl c.number_of_4-value.ensures.value c.in_default.ensures
    (omega (arith, length-drop 6 input, c.if-input-key.false)))).0

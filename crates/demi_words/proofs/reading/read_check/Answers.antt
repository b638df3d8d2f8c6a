use Rattle.std.proofs.Common.{Err, ap, codes, sym}
use Rattle.demi_words.specs.Commands.{Check, check_of}
use Rattle.demi_words.specs.Descriptions as describe
use Rattle.demi_words.proofs.Taken.{not_taken, passed_up, taken_as}
use Rattle.demi_words.proofs.reading.read_check.Goals as goal

pub returns-in_err-matches-clause-refused : goal.returns-in_err-matches-clause-refused
returns-in_err-matches-clause-refused c =
    passed_up c.from_residual-in_err-matches.result c.in_err-matches.field-0.0 _ c.from_residual-in_err-matches.ensures.1
    (λ usage.
    not_taken (describe.of_one_name (codes "check")) _ check_of _ c.in_ok-of_one_name.ensures (c.in_err-matches.ensures.refused (ap Err usage)))

pub returns-clause-read : goal.returns-clause-read
returns-clause-read c =
    taken_as (describe.of_one_name (codes "check")) _ check_of _ _ _ c.in_ok-of_one_name.ensures c.in_ok-matches.ensures.taken
    c.in_ok-matches.ensures.found
    (sym (ap Check c.word_at.ensures))

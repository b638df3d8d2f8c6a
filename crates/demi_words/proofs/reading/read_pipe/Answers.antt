use Rattle.std.proofs.Common.{Err, ap, ap₂, sym}
use Rattle.demi_words.specs.Commands.{Pipe, pipe_of}
use Rattle.demi_words.specs.Descriptions as describe
use Rattle.demi_words.proofs.Founds.{pipe_has}
use Rattle.demi_words.proofs.Taken.{not_taken, passed_up, taken_as}
use Rattle.demi_words.proofs.reading.read_pipe.Goals as goal

pub returns-in_err-matches-clause-refused : goal.returns-in_err-matches-clause-refused
returns-in_err-matches-clause-refused c =
    passed_up c.from_residual-in_err-matches.result c.in_err-matches.field-0.0 _ c.from_residual-in_err-matches.ensures.1
    (λ usage.
    not_taken describe.pipe _ pipe_of _ c.in_ok-pipe.ensures (c.in_err-matches.ensures.refused (ap Err usage)))

pub number_or-requires : goal.number_or-requires
number_or-requires c = (pipe_has _ c.in_ok-matches.matches c.in_ok-pipe.ensures c.in_ok-matches.ensures.parsed).limit

pub returns-clause-read : goal.returns-clause-read
returns-clause-read c =
    taken_as describe.pipe _ pipe_of _ _ _ c.in_ok-pipe.ensures c.in_ok-matches.ensures.taken c.in_ok-matches.ensures.found
    (sym (ap₂ Pipe c.number_or.ensures c.word_at.ensures))

pub returns-clause-in_range : goal.returns-clause-in_range
returns-clause-in_range c = rw c.number_or.ensures (pipe_has _ c.in_ok-matches.matches c.in_ok-pipe.ensures c.in_ok-matches.ensures.parsed).in_range

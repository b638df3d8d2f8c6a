use Rattle.std.proofs.Common.{◌≡◌, Err, ap, sym}
use Rattle.clap.specs.Words.{found_of, rows_of}
use Rattle.demi_words.specs.Commands.{Serve, serve_of}
use Rattle.demi_words.specs.Descriptions as describe
use Rattle.demi_words.proofs.Founds.{serve_has}
use Rattle.demi_words.proofs.Taken.{not_taken, passed_up, taken_as}
use Rattle.demi_words.proofs.reading.read_serve.Goals as goal

pub returns-in_err-matches-clause-refused : goal.returns-in_err-matches-clause-refused
returns-in_err-matches-clause-refused c =
    passed_up c.from_residual-in_err-matches.result c.in_err-matches.field-0.0 _ c.from_residual-in_err-matches.ensures.1
    (λ usage.
    not_taken describe.serve _ serve_of _ c.in_ok-serve.ensures (c.in_err-matches.ensures.refused (ap Err usage)))

pub number_or-requires : goal.number_or-requires
number_or-requires c = (serve_has _ c.in_ok-matches.matches c.in_ok-serve.ensures c.in_ok-matches.ensures.parsed).links

pub number_or-requires-2 : goal.number_or-requires-2
number_or-requires-2 c = (serve_has _ c.in_ok-matches.matches c.in_ok-serve.ensures c.in_ok-matches.ensures.parsed).workers

pub number_or-requires-3 : goal.number_or-requires-3
number_or-requires-3 c = (serve_has _ c.in_ok-matches.matches c.in_ok-serve.ensures c.in_ok-matches.ensures.parsed).limit

pub returns-clause-read : goal.returns-clause-read
returns-clause-read c =
    let is : Serve c.number_or.result c.number_or-2.result c.number_or-3.result c.word_at.result.now c.word_at-2.result.now
    ≡ serve_of (rows_of (found_of c.in_ok-matches.matches)) =
    λ i. Serve (c.number_or.ensures i) (c.number_or-2.ensures i) (c.number_or-3.ensures i) (c.word_at.ensures i) (c.word_at-2.ensures i) in
    taken_as describe.serve _ serve_of _ _ _ c.in_ok-serve.ensures c.in_ok-matches.ensures.taken
    c.in_ok-matches.ensures.found (sym is)

pub returns-clause-in_range : goal.returns-clause-in_range
returns-clause-in_range c =
    let has = serve_has _ c.in_ok-matches.matches c.in_ok-serve.ensures c.in_ok-matches.ensures.parsed in
    rw (c.number_or.ensures, c.number_or-2.ensures, c.number_or-3.ensures) (has.links_in_range, has.limit_in_range)

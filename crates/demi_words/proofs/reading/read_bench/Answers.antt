use Rattle.std.proofs.Common.{◌≡◌, Err, ap, option_map, sym}
use Rattle.clap.specs.Words.{found_of, rows_of}
use Rattle.demi_words.specs.Commands.{Bench, bench_of}
use Rattle.demi_words.specs.Descriptions as describe
use Rattle.demi_words.proofs.Founds.{bench_has}
use Rattle.demi_words.proofs.Taken.{not_taken, passed_up, taken_as}
use Rattle.demi_words.proofs.reading.read_bench.Goals as goal

pub returns-in_err-matches-clause-refused : goal.returns-in_err-matches-clause-refused
returns-in_err-matches-clause-refused c =
    passed_up c.from_residual-in_err-matches.result c.in_err-matches.field-0.0 _ c.from_residual-in_err-matches.ensures.1
    (λ usage.
    not_taken describe.bench _ bench_of _ c.in_ok-bench.ensures (c.in_err-matches.ensures.refused (ap Err usage)))

pub number_or-requires : goal.number_or-requires
number_or-requires c = (bench_has _ c.in_ok-matches.matches c.in_ok-bench.ensures c.in_ok-matches.ensures.parsed).links

pub number_or-requires-2 : goal.number_or-requires-2
number_or-requires-2 c = (bench_has _ c.in_ok-matches.matches c.in_ok-bench.ensures c.in_ok-matches.ensures.parsed).workers

pub number_or-requires-3 : goal.number_or-requires-3
number_or-requires-3 c = (bench_has _ c.in_ok-matches.matches c.in_ok-bench.ensures c.in_ok-matches.ensures.parsed).count

pub long_number-requires : goal.long_number-requires
long_number-requires c = (bench_has _ c.in_ok-matches.matches c.in_ok-bench.ensures c.in_ok-matches.ensures.parsed).seed

pub returns-clause-read : goal.returns-clause-read
returns-clause-read c =
    let is : Bench c.number_or.result c.number_or-2.result c.number_or-3.result c.long_number.result (option_map (λ name. name.now) c.text_at.result)
    ≡ bench_of (rows_of (found_of c.in_ok-matches.matches)) =
    λ i. Bench (c.number_or.ensures i) (c.number_or-2.ensures i) (c.number_or-3.ensures i) (c.long_number.ensures i) (c.text_at.ensures i) in
    taken_as describe.bench _ bench_of _ _ _ c.in_ok-bench.ensures c.in_ok-matches.ensures.taken
    c.in_ok-matches.ensures.found (sym is)

pub returns-clause-in_range : goal.returns-clause-in_range
returns-clause-in_range c =
    let has = bench_has _ c.in_ok-matches.matches c.in_ok-bench.ensures c.in_ok-matches.ensures.parsed in
    rw (c.number_or.ensures, c.number_or-2.ensures, c.number_or-3.ensures) (has.links_in_range, has.count_in_range)

-- What a parse of each command has of its numbers: each text that is found is a number that fits, and each number is in its range.
use Rattle.std.proofs.Common.{◌≡◌, ◌≤◌, ◌^◌, ◌-◌, arith, codes, ℕ, true, List, Some, refl}
use Rattle.std.specs.Prelude.{pos}
use Rattle.clap.specs.Words.{IsParsedFrom, Row, Text, app_of, found_of, one_of, rows_of}
use Rattle.clap.specs.declared.builder.command.Command.{Command}
use Rattle.clap.specs.declared.builder.value_parser.ValueParser.TheVariants as vp
use Rattle.clap.specs.declared.parser.matches.ArgMatches.{ArgMatches}
use Rattle.demi_words.specs.Commands.{AreLinks, IsLimit, default_limit, number_or}
use Rattle.demi_words.specs.Descriptions as describe
use Rattle.demi_words.specs.Numbers.{IsNumberBelow, IsNumberIn}
use Rattle.demi_words.proofs.Arguments.{IsAt, found, signed, unsigned}
use Rattle.demi_words.proofs.Numbers.{number_below, number_maybe, number_there}

-- what is found under a name is a number in a range
abbrev AreIn : ℕ → ℕ → Text → List Row → Type 0
AreIn low high name rows = (t : Text) → one_of name rows ≡ Some t → IsNumberIn low high t

-- what is found under a name is a number below a bound
abbrev pub AreBelow : ℕ → Text → List Row → Type 0
AreBelow bound name rows = (t : Text) → one_of name rows ≡ Some t → IsNumberBelow bound t

limit_at : IsAt describe.pipe 0 describe.limit
limit_at = record { inside = omega arith; is = λ r. refl; alone = refl; own = refl }

pub record PipeHas (rows : List Row) : Type 0 where
  pub limit : AreBelow (2 ^ 32) (codes "limit") rows
  pub in_range : IsLimit (number_or default_limit (codes "limit") rows)

pub pipe_has : (c : Command) (m : ArgMatches) → app_of c ≡ describe.pipe → IsParsedFrom c m → PipeHas (rows_of (found_of m))
pipe_has c m same p =
    let limit = signed describe.pipe c m same refl p 0 _ limit_at 1 1000000 refl in
    record {
      limit = λ t is. number_below 1 1000000 _ t (omega arith) (limit t is);
      in_range = number_maybe 1 1000000 default_limit _ (omega arith) (omega arith) limit;
    }

serve_links_at : IsAt describe.serve 0 describe.links
serve_links_at = record { inside = omega arith; is = λ r. refl; alone = refl; own = refl }

serve_workers_at : IsAt describe.serve 1 describe.workers
serve_workers_at = record { inside = omega arith; is = λ r. refl; alone = refl; own = refl }

serve_limit_at : IsAt describe.serve 2 describe.limit
serve_limit_at = record { inside = omega arith; is = λ r. refl; alone = refl; own = refl }

pub record ServeHas (rows : List Row) : Type 0 where
  pub links : AreBelow (2 ^ 32) (codes "links") rows
  pub workers : AreBelow (2 ^ 32) (codes "workers") rows
  pub limit : AreBelow (2 ^ 32) (codes "limit") rows
  pub links_in_range : AreLinks (number_or 0 (codes "links") rows) (number_or 0 (codes "workers") rows)
  pub limit_in_range : IsLimit (number_or default_limit (codes "limit") rows)

pub serve_has : (c : Command) (m : ArgMatches) → app_of c ≡ describe.serve → IsParsedFrom c m → ServeHas (rows_of (found_of m))
serve_has c m same p =
    let links = signed describe.serve c m same refl p 0 _ serve_links_at 1 16 refl in
    let workers = signed describe.serve c m same refl p 1 _ serve_workers_at 1 4 refl in
    let limit = signed describe.serve c m same refl p 2 _ serve_limit_at 1 1000000 refl in
    let has_links = found describe.serve c m same refl p 0 _ serve_links_at (vp.Signed (pos 1) (pos 16)) refl refl refl refl in
    let has_workers = found describe.serve c m same refl p 1 _ serve_workers_at (vp.Signed (pos 1) (pos 4)) refl refl refl refl in
    let of_links = number_there 1 16 0 _ has_links links in
    let of_workers = number_there 1 4 0 _ has_workers workers in
    record {
      links = λ t is. number_below 1 16 _ t (omega arith) (links t is);
      workers = λ t is. number_below 1 4 _ t (omega arith) (workers t is);
      limit = λ t is. number_below 1 1000000 _ t (omega arith) (limit t is);
      links_in_range = (of_links.0, of_links.1, of_workers.0, of_workers.1);
      limit_in_range = number_maybe 1 1000000 default_limit _ (omega arith) (omega arith) limit;
    }

bench_links_at : IsAt describe.bench 0 describe.links
bench_links_at = record { inside = omega arith; is = λ r. refl; alone = refl; own = refl }

bench_workers_at : IsAt describe.bench 1 describe.workers
bench_workers_at = record { inside = omega arith; is = λ r. refl; alone = refl; own = refl }

bench_count_at : IsAt describe.bench 2 (describe.number_option (codes "count") 0 1000000 true)
bench_count_at = record { inside = omega arith; is = λ r. refl; alone = refl; own = refl }

bench_seed_at : IsAt describe.bench 3 (describe.long_option (codes "seed"))
bench_seed_at = record { inside = omega arith; is = λ r. refl; alone = refl; own = refl }

pub record BenchHas (rows : List Row) : Type 0 where
  pub links : AreBelow (2 ^ 32) (codes "links") rows
  pub workers : AreBelow (2 ^ 32) (codes "workers") rows
  pub count : AreBelow (2 ^ 32) (codes "count") rows
  pub seed : AreBelow (2 ^ 64) (codes "seed") rows
  pub links_in_range : AreLinks (number_or 0 (codes "links") rows) (number_or 0 (codes "workers") rows)
  pub count_in_range : number_or 0 (codes "count") rows ≤ 1000000

pub bench_has : (c : Command) (m : ArgMatches) → app_of c ≡ describe.bench → IsParsedFrom c m → BenchHas (rows_of (found_of m))
bench_has c m same p =
    let links = signed describe.bench c m same refl p 0 _ bench_links_at 1 16 refl in
    let workers = signed describe.bench c m same refl p 1 _ bench_workers_at 1 4 refl in
    let count = signed describe.bench c m same refl p 2 _ bench_count_at 0 1000000 refl in
    let seed = unsigned describe.bench c m same refl p 3 _ bench_seed_at 0 (2 ^ 64 - 1) refl in
    let has_links = found describe.bench c m same refl p 0 _ bench_links_at (vp.Signed (pos 1) (pos 16)) refl refl refl refl in
    let has_workers = found describe.bench c m same refl p 1 _ bench_workers_at (vp.Signed (pos 1) (pos 4)) refl refl refl refl in
    let of_links = number_there 1 16 0 _ has_links links in
    let of_workers = number_there 1 4 0 _ has_workers workers in
    record {
      links = λ t is. number_below 1 16 _ t (omega arith) (links t is);
      workers = λ t is. number_below 1 4 _ t (omega arith) (workers t is);
      count = λ t is. number_below 0 1000000 _ t (omega arith) (count t is);
      seed = λ t is. number_below 0 (2 ^ 64 - 1) _ t (omega arith) (seed t is);
      links_in_range = (of_links.0, of_links.1, of_workers.0, of_workers.1);
      count_in_range = (number_maybe 0 1000000 0 _ (omega arith) (omega arith) count).1;
    }

use Rattle.std.proofs.Common.{◌≡◌, ℕ, ◌<◌, List, ◌++◌, length, ap, sym, ◌∙◌, subst, arith, take_all}
use Rattle.std.proofs.lemmas.List.{length-take-le}
use Rattle.demi_heap.specs.Seen.{HalfValue}
use Rattle.demi_sga.specs.Arrays.{byte_count, part_of}
use Rattle.demi_logq.specs.Folding.{bytes_of}
use Rattle.demi_logq.specs.Logged.{Logged}
use Rattle.demi_logq.proofs.Pieces.{Next, count_is, part_next}
use Rattle.demi_logq.proofs.appending.stage_all.Goals as goal

step : (sga : List HalfValue) (from count : ℕ) (piece : List ℕ) → count ≡ byte_count sga → from < count → piece ≡ part_of sga from count → Next sga from piece
step sga from count piece whole less is = subst (Next sga from) (sym is) (part_next sga from count (omega arith) (omega arith))

pub stage-requires : goal.stage-requires
stage-requires g c =
    let n = step c.args.sga.now c.staging.from c.len-count.result c.part-piece.result.now c.len-count.ensures.bytes c.staging-test.true c.part-piece.ensures in
    let within = n.within in let most = c.requires.most in
    let count = count_is c.args.sga.now in
    let long = length-take-le c.staging.from (bytes_of c.args.sga.now) (omega arith) in
    let staged = ap (λ (l : Logged g.row.D.Denot). length l.staged) c.staging.invariant.staged in omega arith

pub overflow_cast-from : goal.overflow_cast-from
overflow_cast-from g c =
    let n = step c.args.sga.now c.staging.from c.len-count.result c.part-piece.result.now c.len-count.ensures.bytes c.staging-test.true c.part-piece.ensures in
    let within = n.within in let most = c.requires.most in omega arith

pub overflow_add-from : goal.overflow_add-from
overflow_add-from g c =
    let n = step c.args.sga.now c.staging.from c.len-count.result c.part-piece.result.now c.len-count.ensures.bytes c.staging-test.true c.part-piece.ensures in
    let within = n.within in let most = c.requires.most in omega arith

pub staging-smaller : goal.staging-smaller
staging-smaller g c =
    let n = step c.args.sga.now c.staging.from c.len-count.result c.part-piece.result.now c.len-count.ensures.bytes c.staging-test.true c.part-piece.ensures in
    let some = n.some in let within = n.within in let whole = c.len-count.ensures.bytes in omega arith

pub staging-preserved : goal.staging-preserved
staging-preserved g c =
    let n = step c.args.sga.now c.staging.from c.len-count.result c.part-piece.result.now c.len-count.ensures.bytes c.staging-test.true c.part-piece.ensures in
    record {
      within = n.within;
      staged = c.stage.ensures
          ∙ ap (λ (l : Logged g.row.D.Denot). record l { staged = l.staged ++ c.part-piece.result.now }) c.staging.invariant.staged
          ∙ ap (λ (l : List ℕ). record (c.args.log.now) { staged = l }) n.more;
    }

pub returns : goal.returns
returns g c =
    let count = count_is c.args.sga.now in let whole = c.len-count.ensures.bytes in let over = c.staging-test.false in
    c.staging.invariant.staged ∙ ap (λ (l : List ℕ). record (c.args.log.now) { staged = l }) (take_all c.staging.from (bytes_of c.args.sga.now) (omega arith))

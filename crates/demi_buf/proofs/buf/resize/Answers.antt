use Rattle.std.proofs.Common.{ℕ, List, Option, length, take, sym, ap, ◌∙◌, subst, arith}
use Rattle.demi_buf.specs.Places.{IsRun, somes}
use Rattle.demi_buf.proofs.Runs.{grown, shrunk, with_more, with_fewer}
use Rattle.demi_buf.proofs.buf.resize.Goals as goal

pub returns-then-n-len-clause-run : goal.returns-then-n-len-clause-run
returns-then-n-len-clause-run c = (shrunk c.args.cells.now.slots c.args.len c.requires.1 c.args.n c.if-n-len.true).0

pub returns-then-n-len-clause-bytes : goal.returns-then-n-len-clause-bytes
returns-then-n-len-clause-bytes c = with_fewer c.args.cells.now.slots c.args.len c.requires.1 c.args.n c.if-n-len.true

pub returns : goal.returns
returns c = let cs = c.args.cells.now.slots in let len : ℕ = c.args.len in let n : ℕ = c.args.n in let asked = c.requires in let more = c.if-n-len.false in let is = c.clear.ensures.1 in
    let g = grown cs len asked.1 n (omega arith) asked.2 in record {
      places = (c.clear.ensures.0, ap (λ (l : List (Option ℕ)). length l) is ∙ g.0);
      run = subst (λ (l : List (Option ℕ)). IsRun l 0 n) (sym is) g.1;
      bytes = ap (λ (l : List (Option ℕ)). somes (take n l)) is ∙ with_more cs len asked.1 n (omega arith) asked.2;
    }

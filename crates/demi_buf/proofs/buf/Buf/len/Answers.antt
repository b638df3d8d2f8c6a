use Rattle.std.proofs.Common.{length, sym, ap, ◌∙◌}
use Rattle.demi_buf.proofs.Runs.{count}
use Rattle.demi_buf.proofs.buf.Buf.len.Goals as goal

pub returns-clause-bytes : goal.returns-clause-bytes
returns-clause-bytes c = let b = c.self.inside in sym (count b.cells.slots b.len c.self.invariant.0.filled.1) ∙ ap (λ v. length v.bytes) c.self.view_is

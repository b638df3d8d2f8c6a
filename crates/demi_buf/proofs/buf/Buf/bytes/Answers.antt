use Rattle.std.proofs.Common.{ap, ◌∙◌}
use Rattle.demi_buf.proofs.Runs.{shown}
use Rattle.demi_buf.proofs.buf.Buf.bytes.Goals as goal

pub returns : goal.returns
returns c = let b = c.self.inside in shown b.cells.slots b.len c.self.invariant.0.filled.1 c.slice.result.now c.slice.ensures ∙ ap (λ v. v.bytes) c.self.view_is

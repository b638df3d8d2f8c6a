use Rattle.std.proofs.Common.{arith}
use Rattle.demi_sga.specs.Rows.{items}
use Rattle.demi_sga.proofs.Lists.{bytes_more}
use Rattle.demi_sga.proofs.dev.len_of.Goals as goal

pub loop-i-preserved : goal.loop-i-preserved
loop-i-preserved c = let before = c.loop-i.invariant in let b = before.0 in let b' = before.1 in let l = c.segment_len-total.ensures.bytes in let m = c.segment_len-total.ensures.limit in
    let more = bytes_more (items c.args.row.now) c.loop-i.i c.at.result.now c.at.ensures in (omega arith, omega arith)

use Rattle.std.proofs.Common.{arith}
use Rattle.demi_sga.proofs.Lists.{size_limit}
use Rattle.demi_sga.proofs.dev.segment_len.Goals as goal

pub returns-clause-limit : goal.returns-clause-limit
returns-clause-limit c = let s = size_limit c.args.buf.now.class in let f = c.len.ensures.fits in omega arith

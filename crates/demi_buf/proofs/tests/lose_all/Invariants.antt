use Rattle.std.proofs.Common.{vec_len}
use Rattle.demi_buf.proofs.tests.lose_all.Given as goal

abbrev pub decreases-loop-buf : goal.decreases-loop-buf
decreases-loop-buf l = vec_len l.bufs

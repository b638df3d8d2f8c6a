use Rattle.std.proofs.Common.{length, ap, arith}
use Rattle.demi_logq.specs.Logged.{Logged}
use Rattle.demi_logq.proofs.Pieces.{count_is}
use Rattle.demi_logq.proofs.appending.append_array.Goals as goal

pub commit-requires : goal.commit-requires
commit-requires g c = let e = ap (λ (l : Logged g.row.D.Denot). length l.staged) c.stage_all.ensures in let n = count_is c.args.sga.now in let some = c.requires.some in omega arith

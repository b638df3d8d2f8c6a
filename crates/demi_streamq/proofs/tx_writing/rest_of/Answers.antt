use Rattle.std.proofs.Common.{sym, subst, arith}
use Rattle.demi_sga.specs.Arrays.{byte_count}
use Rattle.demi_streamq.specs.Sending.{array_bytes, IsPart}
use Rattle.demi_streamq.proofs.Parts.{part_is}
use Rattle.demi_streamq.proofs.tx_writing.rest_of.Goals as goal

part : (c : goal.After-part) → IsPart (array_bytes c.args.sga.now) (byte_count c.args.sga.now) c.args.at c.part.result.now
part c =
    let len = c.len.ensures.bytes in
    subst (λ p. IsPart (array_bytes c.args.sga.now) (byte_count c.args.sga.now) c.args.at p) (sym c.part.ensures) (part_is c.args.sga.now c.args.at c.len.result c.requires (omega arith))

pub returns-clause-part : goal.returns-clause-part
returns-clause-part c = part c

pub returns-clause-fits : goal.returns-clause-fits
returns-clause-fits c = let w = (part c).within in let l = c.len.ensures.limit in let e = c.len.ensures.bytes in omega arith

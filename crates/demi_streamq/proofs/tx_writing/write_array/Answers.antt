use Rattle.std.proofs.Common.{arith}
use Rattle.demi_streamq.proofs.Parts.{all_written_is, more_written}
use Rattle.demi_streamq.specs.Sending.{array_bytes}
use Rattle.demi_streamq.proofs.tx_writing.write_array.Goals as goal

pub writing-preserved : goal.writing-preserved
writing-preserved g c = record {
  within = c.in-Ok.ensures.within;
  written = more_written _ _ _ (array_bytes c.args.sga.now) c.writing.at c.in-Ok.count c.writing.invariant.written c.in-Ok.ensures.bytes;
  later = let a = c.writing.invariant.later in let b = c.in-Ok.ensures.cause.later in omega arith;
}

pub returns-clause-all : goal.returns-clause-all
returns-clause-all g c = all_written_is _ _ c.args.sga.now c.writing.at (let a = c.writing-test.false in let b = c.len.ensures.bytes in omega arith) c.writing.invariant.written

use Rattle.std.proofs.Common.{ℕ, sym, ap, ◌∙◌, arith}
use denote.RawPtr.{block_of}
use Rattle.demi_buf.specs.Bufs.{carved, superblock_of, number_of}
use Rattle.demi_buf.proofs.Rest.{carved_first}
use Rattle.demi_buf.proofs.block.Block.carve.Goals as goal

pub returns-clause-bufs : goal.returns-clause-bufs
returns-clause-bufs c = let is = c.carve_rest.ensures.bufs in let n = c.args.n in let class = c.args.class in let low = c.requires.0 in
    is ∙ ap (λ (k : ℕ). carved k class n n) (sym (ap superblock_of is ∙ carved_first (number_of (block_of c.in-Ok-allocate.base.ptr) class) class n n (omega arith)))

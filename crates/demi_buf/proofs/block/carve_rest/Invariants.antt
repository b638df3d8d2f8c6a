use Rattle.std.proofs.Common.{◌≡◌, ◌-◌, ◌*◌, ◌≤◌, length, vec_len, vec_capacity}
use denote.RawPtr.{block_ptr, block_of}
use Rattle.demi_buf.specs.Bufs.{carved, number_of, size_of}
use Rattle.demi_buf.proofs.block.carve_rest.Given as goal

abbrev pub invariant-loop-slot : goal.invariant-loop-slot
invariant-loop-slot l = (l.bufs.items ≡ carved (number_of (block_of l.first.ptr) l.class) l.class l.n l.slot) × (vec_len l.bufs ≡ l.slot) × (l.n ≤ vec_capacity l.bufs)
    × (l.rest.at ≡ block_ptr (block_of l.first.ptr) (l.slot * size_of l.class)) × (length l.rest.slots ≡ (l.n - l.slot) * size_of l.class)

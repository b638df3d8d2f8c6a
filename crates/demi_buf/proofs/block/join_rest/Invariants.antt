use Rattle.std.proofs.Common.{◌≡◌, ℕ, ◌*◌, ◌≤◌, length}
use denote.RawPtr.{block_ptr}
use Rattle.demi_buf.specs.Bufs.{number_of, size_of, IsRest}
use Rattle.demi_buf.proofs.block.join_rest.Given as goal

abbrev pub invariant-loop-slot : goal.invariant-loop-slot
invariant-loop-slot l = (1 ≤ l.slot) × (l.slot ≤ l.count) × ((block : ℕ) × IsRest (number_of block l.class) l.count l.slot l.bufs.items × (l.fn.row.at ≡ block_ptr block 0)) × (l.whole.at ≡ l.fn.row.at) × (length l.whole.slots ≡ l.slot * size_of l.class)

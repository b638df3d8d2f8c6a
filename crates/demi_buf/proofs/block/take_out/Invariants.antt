use Rattle.std.proofs.Common.{◌≡◌, ◌≢◌, ℕ, ◌-◌, ◌<◌, ◌≤◌, vec_len}
use mathlib.Core.Option.{some}
use lib.ListN.{get_elem?}
use Rattle.demi_buf.specs.Bufs.{BufValue}
use Rattle.demi_buf.proofs.block.take_out.Given as goal

abbrev pub invariant-loop-i : goal.invariant-loop-i
invariant-loop-i l = (l.i ≤ vec_len l.bufs) × ((j : ℕ) (b : BufValue) → j < l.i → get_elem? l.bufs.items j ≡ some b → (b.slot < b.count) × (b.slot ≢ l.slot)) × (l.bufs.items ≡ l.fn.bufs.items)

abbrev pub decreases-loop-i : goal.decreases-loop-i
decreases-loop-i l = vec_len l.bufs - l.i

use Rattle.std.proofs.Common.{◌≡◌, ℕ, get_or}
use Rattle.std.specs.Prelude.{None, Some}
use Rattle.std.specs.Vec.{vec_len}
use Rattle.demi_device.specs.declared.early.Early.{Early}
use Rattle.demi_device.proofs.inbox.free_ring.Given as goal

abbrev pub invariant-loop-slot : goal.invariant-loop-slot
invariant-loop-slot g l = (i : ℕ) (e : Early g.row.O.Denot) → get_or l.ring.items i None ≡ Some e → ⊥

abbrev pub decreases-loop-slot : goal.decreases-loop-slot
decreases-loop-slot g l = vec_len l.ring

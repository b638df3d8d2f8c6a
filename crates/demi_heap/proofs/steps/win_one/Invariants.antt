use Rattle.std.proofs.Common.{◌≡◌, ◌≤◌, []}
use Rattle.demi_heap.specs.Seen.{LookedOver, looking_as}
use Rattle.demi_heap.proofs.steps.win_one.Given as goal

abbrev pub invariant-loop-slot : goal.invariant-loop-slot
invariant-loop-slot l =
    (l.seat.table_id ≡ l.initial.seat.table_id) × (l.seat.id ≡ l.initial.seat.id) × (l.seat.me ≡ (looking_as l.initial.seat.me.0 l.seat.me.0, []))
    × (l.initial.seat.me.0.clock ≤ l.seat.me.0.clock) × (l.first ≤ l.slot) × LookedOver l.initial.seat.me.0.clock l.first l.slot l.initial.seat.me.0.missed l.seat.me.0.missed

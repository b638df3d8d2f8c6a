use Rattle.std.proofs.Common.{◌≡◌, ◌+◌, take}
use Rattle.std.specs.Slots.{slots_items}
use Rattle.demi_heap_core.specs.Owner.{total, app_bit, device_bit}
use Rattle.demi_heap.specs.Laid.{is}
use Rattle.demi_heap.proofs.close.count.Given as goal

abbrev pub invariant-loop-i : goal.invariant-loop-i
invariant-loop-i l = (l.end.app + l.end.lent ≡ total app_bit (take l.i (slots_items l.closed.words))) × (l.end.lent + l.end.dev ≡ total device_bit (take l.i (slots_items l.closed.words)))
    × (l.end.free + l.end.app + l.end.lent + l.end.dev ≡ l.i)
    × (l.end.free ≡ total (is 0) (take l.i (slots_items l.closed.words))) × (l.end.app ≡ total (is 1) (take l.i (slots_items l.closed.words)))
    × (l.end.lent ≡ total (is 3) (take l.i (slots_items l.closed.words))) × (l.end.dev ≡ total (is 2) (take l.i (slots_items l.closed.words)))

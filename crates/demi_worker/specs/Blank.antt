-- A sight of nothing.
use Rattle.std.specs.Prelude.{ℕ, false, []}
use Rattle.demi_heap.specs.Seen.{HeapId}
use Rattle.demi_store.specs.Laws.{no_store}
use Rattle.demi_link.specs.Sights.{Side, Sight, nothing_due}

abbrev pub no_heap : HeapId
no_heap = record {
  table = record { words = 0; slots = 0; views_name = 0; atom = 0; block = 0; offset = 0; slot_names = [] };
  shape = record { small = 0; page = 0; large = 0; passes = 0; blocks = [] };
}

abbrev pub no_side : {D T : Type 0} → Side D T
no_side = record { seen = 0; submitted = []; redeemed = []; known = record { device = false; heard = []; told = []; floor = 0; handed = [] } }

-- what a worker has for a link where it has nothing
abbrev pub no_sight : Sight
no_sight = record { heap = no_heap; base = no_store; number = 0; store = no_side; draws = []; rx = no_side; tx = no_side; out = 0; due = nothing_due }

-- A new heap.
use Rattle.std.proofs.Common.{◌≡◌, ℕ, List, [], length, replicate, refl, ◌∙◌, arith}
use mathlib.Core.Option.{some}
use lib.ListN.{length-map}
use Rattle.std.specs.Prelude.{Option, Some}
use Rattle.atomic_table.specs.Table.{opening}
use Rattle.atomic_table.proofs.Lists.{at_map}
use Rattle.demi_buf.specs.Bufs.{BufValue}
use Rattle.demi_heap_core.specs.declared.shape.Shape.{Shape}
use Rattle.demi_heap_core.specs.Owner.{slots}
use Rattle.demi_heap_core.specs.Schedule.{IsNew, first_view}
use Rattle.demi_heap.specs.Rule.{Fits, HeapRule, shown}
use Rattle.demi_heap.specs.Laid.{IsLaid, HasClasses}

-- a row in which all superblocks lie is the start of a schedule
pub opens : (h : Shape) (words : List ℕ) (row : List (Option BufValue)) → words ≡ replicate (slots h) 0 → length row ≡ slots h → IsLaid h.blocks row → HasClasses h row → HeapRule h (opening words row (first_view h))
opens h words row is len laid classes = let new : IsNew (Fits h) h (shown 0 (opening words row (first_view h))) = record {
  first = refl;
  free = is;
  deep = length-map row some ∙ len;
  full = λ k near. let b = laid.each.at k (omega arith) in (b.0, at_map some row k (Some b.0) b.1, record { class = classes.of k b.0 b.1; lies = b.2 });
  alone = refl;
} in (0, (shown 0 (opening words row (first_view h)), new, [], refl))

-- What the engine becomes by one operation.
use Rattle.std.proofs.Common.{◌≡◌, ℕ, List, [], ◌∷◌, ◌++◌, ap, sym, subst, arith}
use Rattle.demi_heap.specs.Seen.{HalfValue, PassValue}
use Rattle.demi_memq.specs.declared.op.MemOp.{MemOp}
use Rattle.demi_memq.specs.declared.out.MemOut.{MemOut}
use Rattle.demi_memq.specs.Engine.{GoesTo, WaitsRightly, left_in}
use Rattle.demi_memq.specs.Rooms.{RoomsShow}
use Rattle.demi_memq.specs.Counting.{beside, counts}
use Rattle.std.specs.Prelude.{Bool, Option, Some, None}
use Rattle.demi_memq.specs.Said.{op_said}
use Rattle.demi_memq.specs.Segments.{brought, given, held, op_segments}
use Rattle.demi_memq.specs.Serving.{Accounts}
use Rattle.demi_memq.proofs.Saying.{brought_more, given_append, said_segments}

pub serve_goes : (p p' : PassValue) (room room' : ℕ) (w w' : List (ℕ × List HalfValue)) (h h' : List MemOp) (f f' added : List (ℕ × MemOut)) (op : MemOp) → room' ≡ room → h' ≡ h ++ op_said op ∷ [] → f' ≡ f ++ added → WaitsRightly (record { pass = p'; room = room'; served = h'; finished = f'; waits = w' }) → Accounts p (held w) p' (held w') added (op_segments op)
    → GoesTo (record { pass = p; room = room; served = h; finished = f; waits = w }) (record { pass = p'; room = room'; served = h'; finished = f'; waits = w' })
serve_goes p p' room room' w w' h h' f f' added op same_room longer more now acc =
    record {
      same_room = same_room;
      served = (op_said op ∷ [], longer);
      finished = (added, more);
      pass = acc.0;
      kept = λ _. now;
      numbers = let n = acc.1 in let a = ap brought longer in let b = brought_more h (op_said op) in let s = said_segments op in let g = ap given more in let k = given_append f added in omega arith;
    }

pub waits_rightly : (m : ℕ) (h : List MemOp) (f : List (ℕ × MemOut)) (made : ℕ) (shut : List Bool) (stop : Option ℕ) (w : List (ℕ × List HalfValue)) (n : List (ℕ × ℕ)) → RoomsShow m h f made shut stop w n → (q : ℕ) → beside q w ≡ left_in (counts m h).stop q (counts m h)
waits_rightly m h f made shut None w n k q = let t = counts m h in subst (λ (s : Option ℕ). beside q w ≡ left_in s q t) (sym k.stands.0) (k.stands.1.items q)
waits_rightly m h f made shut (Some s) w n k q = let t = counts m h in subst (λ (s : Option ℕ). beside q w ≡ left_in s q t) (sym k.stands.0) (ap (beside q) k.stands.1)

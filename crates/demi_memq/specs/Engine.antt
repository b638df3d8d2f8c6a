-- What a contract sees of the engine of memory queues.
use Rattle.std.specs.Prelude.{◌≡◌, ℕ, ◌+◌, List, [], ◌++◌, drop, Option, Some, None, refl}
use Rattle.std.proofs.Common.{◌∙◌, ap, sym, append_assoc, arith}
use Rattle.demi_heap.specs.Seen.{HalfValue, PassValue}
use Rattle.demi_port_core.specs.Trails.{StartsWith}
use Rattle.demi_memq.specs.declared.op.MemOp.{MemOp}
use Rattle.demi_memq.specs.declared.out.MemOut.{MemOut}
use Rattle.demi_memq.specs.Segments.{brought, given, held}
use Rattle.demi_memq.specs.Counting.{beside, Counts, counts, popped}
use Rattle.demi_memq.specs.Serving.{items_said}
use Rattle.demi_memq.specs.Steady.{append_none}

-- the engine: its heap pass, its room, what it was served and what it finished, and the arrays that wait in it, each beside its queue
pub record MemValue : Type 0 where
  pub pass : PassValue
  pub room : ℕ
  pub served : List MemOp
  pub finished : List (ℕ × MemOut)
  pub waits : List (ℕ × List HalfValue)

-- the pushes of q beyond its pops, and none after a stop
abbrev pub left_in : Option ℕ → ℕ → Counts → List (List HalfValue)
left_in None q t = drop (popped q t) (beside q t.pushes)
left_in (Some s) q t = []

-- just these wait
abbrev pub WaitsRightly : MemValue → Type 0
WaitsRightly e = (q : ℕ) → beside q (items_said e.waits) ≡ left_in (counts 1024 e.served).stop q (counts 1024 e.served)

-- The room stays, and the lists have grown. Of the pass nothing has changed but how many halves it ended: these, with those that
-- wait and those that were given, have risen by what was brought.
pub record GoesTo (a b : MemValue) : Type 0 where
  pub same_room : b.room ≡ a.room
  pub served : StartsWith b.served a.served
  pub finished : StartsWith b.finished a.finished
  pub pass : b.pass ≡ record a.pass { returned = b.pass.returned }
  pub kept : WaitsRightly a → WaitsRightly b
  pub numbers : b.pass.returned + held b.waits + given b.finished + brought a.served ≡ a.pass.returned + held a.waits + given a.finished + brought b.served

starts_self : {A : Type 0} (l : List A) → StartsWith l l
starts_self l = ([], sym (append_none l))

starts_on : {A : Type 0} (a b c : List A) → StartsWith b a → StartsWith c b → StartsWith c a
starts_on a b c p q = (p.0 ++ q.0, q.1 ∙ ap (λ l. l ++ q.0) p.1 ∙ append_assoc a p.0 q.0)

pub goes_self : (e : MemValue) → GoesTo e e
goes_self e = record { same_room = refl; served = starts_self e.served; finished = starts_self e.finished; pass = refl; kept = λ w. w; numbers = omega arith }

pub goes_on : (a b c : MemValue) → GoesTo a b → GoesTo b c → GoesTo a c
goes_on a b c p q =
    record {
      same_room = q.same_room ∙ p.same_room;
      served = starts_on a.served b.served c.served p.served q.served;
      finished = starts_on a.finished b.finished c.finished p.finished q.finished;
      pass = q.pass ∙ ap (λ (v : PassValue). record v { returned = c.pass.returned }) p.pass;
      kept = λ w. q.kept (p.kept w);
      numbers = let n = p.numbers in let m = q.numbers in omega arith;
    }

-- What memory queues answer, by counting the pushes and the pops that they accept.
use Rattle.std.specs.Prelude.{ℕ, zero, suc, ◌+◌, ◌-◌, List, [], ◌∷◌, ◌++◌, length, take, Option, Some, None, Bool, true, false, ◌==◌, ◌&&◌, ◌||◌, not, ltb, cond, slice_get}
use Rattle.demi_heap.specs.Seen.{HalfValue}
use Rattle.demi_memq.specs.declared.op.MemOp.{MemOp}
use Rattle.demi_memq.specs.declared.op.MemOp.TheVariants.{Queue, Push, Pop, Close, Stop}
use Rattle.demi_memq.specs.declared.out.MemOut.{MemOut}
use Rattle.demi_memq.specs.declared.out.MemOut.TheVariants.{Opened, TooMany, Pushed, BadQueue, Shut, Closed, QueueFull, Item, Stopped, Halted}

-- what stands beside the number q
abbrev pub beside : {X : Type 0} → ℕ → List (ℕ × X) → List X
beside q [] = []
beside q (e ∷ es) = cond (e.0 == q) (e.1 ∷ beside q es) (beside q es)

-- q is one of these
abbrev pub has : ℕ → List ℕ → Bool
has q [] = false
has q (k ∷ ks) = (k == q) || has q ks

-- What was accepted: how many queues were made and which were closed, the arrays that were pushed and the places of the pops, each
-- beside its queue, and the first stop.
pub record Counts : Type 0 where
  pub made : ℕ
  pub shut : List ℕ
  pub pushes : List (ℕ × List HalfValue)
  pub pops : List (ℕ × ℕ)
  pub stop : Option ℕ

-- nothing was
abbrev pub none_yet : Counts
none_yet = record { made = 0; shut = []; pushes = []; pops = []; stop = None }

-- how many pushes of q were accepted
abbrev pub pushed : ℕ → Counts → ℕ
pushed q t = length (beside q t.pushes)

-- how many pops of q were accepted
abbrev pub popped : ℕ → Counts → ℕ
popped q t = length (beside q t.pops)

-- how many items wait in the first n queues: in each the pushes beyond the pops
abbrev pub waiting : ℕ → Counts → ℕ
waiting zero t = 0
waiting (suc n) t = waiting n t + (pushed n t - popped n t)

-- fewer items wait than the limit, or a pop of q waits
abbrev pub has_room : ℕ → ℕ → Counts → Bool
has_room limit q t = ltb (waiting t.made t) limit || ltb (pushed q t) (popped q t)

-- the operation at the place p is accepted, or not
abbrev pub accept : ℕ → ℕ → MemOp → Counts → Counts
accept limit p Queue t = cond (ltb t.made 256) (record t { made = t.made + 1 }) t
accept limit p (Push q x) t = cond (ltb q t.made && (not (has q t.shut) && has_room limit q t)) (record t { pushes = t.pushes ++ (q, x) ∷ [] }) t
accept limit p (Pop q) t = cond (ltb q t.made) (record t { pops = t.pops ++ (q, p) ∷ [] }) t
accept limit p (Close q) t = cond (ltb q t.made && not (has q t.shut)) (record t { shut = q ∷ t.shut }) t
accept limit p Stop t = record t { stop = Some p }

-- after a stop none is
abbrev pub counted : ℕ → ℕ → MemOp → Counts → Option ℕ → Counts
counted limit p op t None = accept limit p op t
counted limit p op t (Some s) = t

-- the counts t, and what is accepted of operations of which the first is at the place p
abbrev pub counts_from : ℕ → ℕ → Counts → List MemOp → Counts
counts_from limit p t [] = t
counts_from limit p t (op ∷ ops) = counts_from limit (p + 1) (counted limit p op t t.stop) ops

-- what is accepted of a history
abbrev pub counts : ℕ → List MemOp → Counts
counts limit ops = counts_from limit 0 none_yet ops

-- all was stopped at the place p
abbrev pub stopped_at : ℕ → MemOut
stopped_at p = Stopped (record { 0 = p })

-- a pop has the item, or the queue is closed, or all was stopped, or the pop waits
abbrev pub item_or : Option (List HalfValue) → Bool → Option ℕ → Option MemOut
item_or (Some x) shut stop = Some (Item x)
item_or None true stop = Some Closed
item_or None false (Some s) = Some (stopped_at s)
item_or None false None = None

-- the pop of q that was accepted after k others has the push that was accepted after k others
abbrev pub gets : ℕ → ℕ → Counts → Option MemOut
gets q k t = item_or (slice_get (beside q t.pushes) k) (has q t.shut) t.stop

-- what an operation is answered that came to the counts t, where the whole history has the counts `all`
abbrev pub answer : ℕ → MemOp → Counts → Counts → Option MemOut
answer limit Queue t all = Some (cond (ltb t.made 256) (Opened t.made) TooMany)
answer limit (Push q x) t all = Some (cond (ltb q t.made) (cond (has q t.shut) Closed (cond (has_room limit q t) Pushed QueueFull)) BadQueue)
answer limit (Pop q) t all = cond (ltb q t.made) (gets q (popped q t) all) (Some BadQueue)
answer limit (Close q) t all = Some (cond (ltb q t.made) (cond (has q t.shut) Closed Shut) BadQueue)
answer limit Stop t all = Some Halted

-- after a stop each is answered its place
abbrev pub answer_unless : Option ℕ → ℕ → MemOp → Counts → Counts → Option MemOut
answer_unless None limit op t all = answer limit op t all
answer_unless (Some s) limit op t all = Some (stopped_at s)

abbrev pub answer_of : Option MemOp → ℕ → Counts → Counts → Option MemOut
answer_of None limit t all = None
answer_of (Some op) limit t all = answer_unless t.stop limit op t all

-- what the operation at the place p of the history h is answered, or none yet, where at most `limit` items wait
abbrev pub result_at : ℕ → List MemOp → ℕ → Option MemOut
result_at limit h p = answer_of (slice_get h p) limit (counts limit (take p h)) (counts limit h)

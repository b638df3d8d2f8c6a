-- What the rooms of memory queues keep of the history.
use Rattle.std.specs.Prelude.{◌≡◌, ℕ, ◌+◌, ◌<◌, ◌≤◌, List, [], ◌∷◌, ◌++◌, length, take, drop, Option, Some, None, Bool, true, false, ◌==◌, ltb, cond, ◌≢◌, slice_get, slice_index_or}
use Rattle.demi_heap.specs.Seen.{HalfValue}
use Rattle.demi_memq.specs.declared.op.MemOp.{MemOp}
use Rattle.demi_memq.specs.declared.op.MemOp.TheVariants.{Pop}
use Rattle.demi_memq.specs.declared.out.MemOut.{MemOut}
use Rattle.demi_port_core.specs.History.{Each}
use Rattle.demi_device.specs.Serving.{AllCome, places}
use Rattle.demi_memq.specs.Said.{out_said}
use Rattle.demi_memq.specs.Counting.{beside, has, Counts, counts, pushed, popped, result_at}

-- without the first that stands beside q
abbrev pub rest : {X : Type 0} → ℕ → List (ℕ × X) → List (ℕ × X)
rest q [] = []
rest q (e ∷ es) = cond (e.0 == q) es (e ∷ rest q es)

-- how many pops at the place j wait
abbrev pub on : ℕ → List (ℕ × ℕ) → ℕ
on j [] = 0
on j (e ∷ es) = cond (e.1 == j) 1 0 + on j es

-- each item is of one of the first queues
abbrev pub Inside : {X : Type 0} → ℕ → List (ℕ × X) → Type 0
Inside made [] = Unit {0}
Inside made (e ∷ es) = (e.0 < made) × Inside made es

-- none of the outcomes is of the place p
abbrev pub Pends : {U : Type 0} → ℕ → List (ℕ × U) → Type 0
Pends p f = Each (λ j. j ≢ p) (places f)

-- each of the first places has one outcome or waits
pub record Once {U : Type 0} (count : ℕ) (f : List (ℕ × U)) (n : List (ℕ × ℕ)) : Type 0 where
  pub below : (j : ℕ) → j < count → length (beside j f) + on j n ≡ 1
  pub above : (j : ℕ) → count ≤ j → length (beside j f) + on j n ≡ 0

-- at the place p stands the pop of q that is accepted as the k-th
pub record IsPop (m : ℕ) (h : List MemOp) (q k p : ℕ) : Type 0 where
  pub here : slice_get h p ≡ Some (Pop q)
  pub calm : (counts m (take p h)).stop ≡ None
  pub made : ltb q (counts m (take p h)).made ≡ true
  pub kth : popped q (counts m (take p h)) ≡ k

abbrev pub AllPops : ℕ → List MemOp → Type 0
AllPops m h = (q k p : ℕ) → slice_get (beside q (counts m h).pops) k ≡ Some p → IsPop m h q k p

-- before a stop: the items w and the pops n that wait
pub record Agrees (t : Counts) (made : ℕ) (shut : List Bool) (w : List (ℕ × List HalfValue)) (n : List (ℕ × ℕ)) : Type 0 where
  pub made_is : made ≡ t.made
  pub few : made ≤ 256
  pub wide : length shut ≡ 256
  pub shut_is : (q : ℕ) → q < 256 → slice_index_or shut q false ≡ has q t.shut
  pub items : (q : ℕ) → beside q w ≡ drop (popped q t) (beside q t.pushes)
  pub asks : (q : ℕ) → beside q n ≡ cond (has q t.shut) [] (drop (pushed q t) (beside q t.pops))
  pub inside : Inside made w

abbrev pub Stands : Option ℕ → Counts → ℕ → List Bool → List (ℕ × List HalfValue) → List (ℕ × ℕ) → Type 0
Stands None t made shut w n = (t.stop ≡ None) × Agrees t made shut w n
Stands (Some s) t made shut w n = (t.stop ≡ Some s) × (w ≡ []) × (n ≡ [])

pub record RoomsShow (m : ℕ) (h : List MemOp) (f : List (ℕ × MemOut)) (made : ℕ) (shut : List Bool) (stop : Option ℕ) (w : List (ℕ × List HalfValue)) (n : List (ℕ × ℕ)) : Type 0 where
  pub stands : Stands stop (counts m h) made shut w n
  pub pops : AllPops m h
  pub once : Once (length h) f n
  pub count : length h ≡ length f + length n

-- the outcomes that were added, in the history h, come rightly after those of f
abbrev pub Came : ℕ → List MemOp → List (ℕ × MemOut) → List (ℕ × MemOut) → Type 0
Came m h f added = AllCome {T = Unit {0}} (length h) (λ _. None) (λ _ p o. result_at m h p ≡ Some (out_said o)) [] (places f) added

-- while the outcomes of one more operation are added: the history h was before it, and next is with it
pub record Mid (m : ℕ) (h next : List MemOp) (f added : List (ℕ × MemOut)) (n : List (ℕ × ℕ)) : Type 0 where
  pub once : Once (length h) (f ++ added) n
  pub count : length h ≡ length f + length added + length n
  pub came : Came m next f added

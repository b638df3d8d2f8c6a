-- Each kind of operation.
use Rattle.std.proofs.Common.{◌≡◌, ℕ, ◌+◌, ◌<◌, ◌≤◌, List, [], ◌∷◌, ◌++◌, length, drop, get_or, Option, Some, None, Bool, true, false, cond, refl, sym, ap, ◌∙◌, arith, subst}
use Rattle.std.specs.Prelude.{◌||◌, ◌&&◌, not, ltb, slice_get}
use Rattle.std.proofs.lemmas.Bool.Decides.{nat_tests}
use Rattle.demi_heap.specs.Seen.{HalfValue}
use Rattle.demi_memq.specs.declared.op.MemOp.{MemOp}
use Rattle.demi_memq.specs.declared.op.MemOp.TheVariants.{Queue, Push, Pop}
use Rattle.demi_memq.specs.declared.out.MemOut.{MemOut}
use Rattle.demi_memq.specs.declared.out.MemOut.TheVariants.{Opened, TooMany, Pushed, BadQueue, Closed, QueueFull, Item}
use Rattle.demi_memq.specs.Said.{array_said, out_said}
use Rattle.demi_memq.specs.Counting.{beside, has, Counts, pushed, popped, waiting, counted, accept, counts, item_or, gets, answer, answer_unless, result_at, has_room}
use Rattle.demi_memq.specs.Rooms.{rest, Agrees, RoomsShow, Came}
use Rattle.demi_memq.proofs.Lists.{beside_same, drop_head, drop_all, get_none, get_last, got_any}
use Rattle.demi_memq.proofs.Moves.{after, own_result, pop_grows, pop_result}
use Rattle.demi_memq.proofs.Agreeing.{waits, a_queue, a_push_wait, a_push_meet, a_pop_item, a_pop_shut, a_pop_wait, open_asks}
use Rattle.demi_memq.proofs.Keeping.{mid_start, mid_done, mid_last, mid_ask}

pub ltb_yes : (a b : ℕ) → a < b → ltb a b ≡ true
ltb_yes a b lt = grind (arith, nat_tests)

pub ltb_no : (a b : ℕ) → b ≤ a → ltb a b ≡ false
ltb_no a b le = grind (arith, nat_tests)

pub ltb_less : (a b : ℕ) → ltb a b ≡ true → a < b
ltb_less a b e = grind (arith, nat_tests)

pub ltb_full : (a b : ℕ) → ltb a b ≡ false → b ≤ a
ltb_full a b e = grind (arith, nat_tests)

-- the one outcome that was added
pub one_added : {A : Type 0} (old new : List (ℕ × A)) (k n : ℕ) (o : A) → new ≡ old ++ (k, o) ∷ [] → old ≡ [] → k ≡ n → new ≡ (n, o) ∷ []
one_added old new k n o is none same = is ∙ ap (λ l. l ++ (k, o) ∷ []) none ∙ ap (λ i. (i, o) ∷ []) same

pub two_added : {A : Type 0} (old mid new : List (ℕ × A)) (p k n : ℕ) (x o : A) → mid ≡ old ++ (p, x) ∷ [] → new ≡ mid ++ (k, o) ∷ [] → old ≡ [] → k ≡ n → new ≡ (p, x) ∷ (n, o) ∷ []
two_added old mid new p k n x o first is none same = is ∙ ap (λ l. l ++ (k, o) ∷ []) (first ∙ ap (λ l. l ++ (p, x) ∷ []) none) ∙ ap (λ i. (p, x) ∷ (i, o) ∷ []) same

abbrev pub Goes : ℕ → List MemOp → List (ℕ × MemOut) → MemOp → List (ℕ × MemOut) → ℕ → List Bool → Option ℕ → List (ℕ × List HalfValue) → List (ℕ × ℕ) → Type 0
Goes m h f op added made shut s w n = RoomsShow m (h ++ op ∷ []) (f ++ added) made shut s w n × Came m (h ++ op ∷ []) f added

module _ (m : ℕ) (h : List MemOp) (f : List (ℕ × MemOut)) (made : ℕ) (shut : List Bool) (s : Option ℕ) (w : List (ℕ × List HalfValue)) (n : List (ℕ × ℕ)) (k : RoomsShow m h f made shut s w n) (calm : s ≡ None) where
  abbrev t : Counts
  t = counts m h

  kept : RoomsShow m h f made shut None w n
  kept = subst (λ s. RoomsShow m h f made shut s w n) calm k

  pub agrees : Agrees (counts m h) made shut w n
  agrees = kept.stands.1

  none : (counts m h).stop ≡ None
  none = kept.stands.0

  is_after : (op : MemOp) (t' : Counts) → accept m (length h) op (counts m h) ≡ t' → counts m (h ++ op ∷ []) ≡ t'
  is_after op t' e = after m h op ∙ ap (counted m (length h) op (counts m h)) none ∙ e

  own : (op : MemOp) (t' : Counts) (o : MemOut) → accept m (length h) op (counts m h) ≡ t' → answer m op (counts m h) t' ≡ Some o → result_at m (h ++ op ∷ []) (length h) ≡ Some o
  own op t' o e ans = own_result m h op ∙ ap (λ s. answer_unless s m op (counts m h) (counts m (h ++ op ∷ []))) none ∙ ap (answer m op (counts m h)) (is_after op t' e) ∙ ans

  -- one outcome, that of the operation
  settle : (op : MemOp) (t' : Counts) (made' : ℕ) (shut' : List Bool) (w' : List (ℕ × List HalfValue)) (o : MemOut) (added : List (ℕ × MemOut)) → accept m (length h) op (counts m h) ≡ t' → t'.stop ≡ None → Agrees t' made' shut' w' n → answer m op (counts m h) t' ≡ Some (out_said o) → added ≡ (length h, o) ∷ [] → Goes m h f op added made' shut' s w' n
  settle op t' made' shut' w' o added e calm' g ans is =
      subst (λ l. Goes m h f op l made' shut' s w' n) (sym is)
      (subst (λ s. Goes m h f op ((length h, o) ∷ []) made' shut' s w' n) (sym calm)
      (mid_last m h op f [] t' made' shut' None w' n o (mid_start m h (h ++ op ∷ []) f made shut None w n kept) kept.pops (is_after op t' e) (calm', g) (own op t' (out_said o) e ans)))

  made_yes : (q : ℕ) → q < made → ltb q (counts m h).made ≡ true
  made_yes q lt = ltb_yes q (counts m h).made (let e = agrees.made_is in omega arith)

  made_no : (q : ℕ) → made ≤ q → ltb q (counts m h).made ≡ false
  made_no q le = ltb_no q (counts m h).made (let e = agrees.made_is in omega arith)

  pub flag : (q : ℕ) (d b : Bool) → q < made → d ≡ get_or shut q d → d ≡ b → has q (counts m h).shut ≡ b
  flag q d b lt e is = let few = agrees.few in let wide = agrees.wide in sym (agrees.shut_is q (omega arith)) ∙ got_any shut q false d (omega arith) ∙ sym e ∙ is

  pub queue_made : (added : List (ℕ × MemOut)) → made < 256 → added ≡ (length h, Opened made) ∷ [] → Goes m h f Queue added (made + 1) shut s w n
  queue_made added lt is =
      let test : ltb (counts m h).made 256 ≡ true = ltb_yes _ 256 (let e = agrees.made_is in omega arith) in
      settle Queue (record (counts m h) { made = (counts m h).made + 1 }) (made + 1) shut w (Opened made) added
      (ap (λ b. cond b (record (counts m h) { made = (counts m h).made + 1 }) (counts m h)) test) none (a_queue (counts m h) made shut w n agrees lt)
      (ap (λ b. Some (cond b (Opened (counts m h).made) TooMany)) test ∙ ap (λ k. Some (Opened k)) (sym agrees.made_is)) is

  pub queue_many : (added : List (ℕ × MemOut)) → 256 ≤ made → added ≡ (length h, TooMany) ∷ [] → Goes m h f Queue added made shut s w n
  queue_many added le is =
      let test : ltb (counts m h).made 256 ≡ false = ltb_no _ 256 (let e = agrees.made_is in omega arith) in
      settle Queue (counts m h) made shut w TooMany added (ap (λ b. cond b (record (counts m h) { made = (counts m h).made + 1 }) (counts m h)) test) none agrees
      (ap (λ b. Some (cond b (Opened (counts m h).made) TooMany)) test) is

  -- what a push is answered by its three tests
  push_answer : (q : ℕ) (x : List HalfValue) (a b c : Bool) → ltb q (counts m h).made ≡ a → has q (counts m h).shut ≡ b → has_room m q (counts m h) ≡ c → (t' : Counts) → answer m (Push q x) (counts m h) t' ≡ Some (cond a (cond b Closed (cond c Pushed QueueFull)) BadQueue)
  push_answer q x a b c ea eb ec t' = rw (ea, eb, ec) refl

  push_accept : (q : ℕ) (x : List HalfValue) (a b c : Bool) → ltb q (counts m h).made ≡ a → has q (counts m h).shut ≡ b → has_room m q (counts m h) ≡ c → accept m (length h) (Push q x) (counts m h) ≡ cond (a && (not b && c)) (record (counts m h) { pushes = (counts m h).pushes ++ (q, x) ∷ [] }) (counts m h)
  push_accept q x a b c ea eb ec = ap (λ d. cond d (record (counts m h) { pushes = (counts m h).pushes ++ (q, x) ∷ [] }) (counts m h)) (rw (ea, eb, ec) refl)

  pub push_bad : (q : ℕ) (x : List HalfValue) (added : List (ℕ × MemOut)) → made ≤ q → added ≡ (length h, BadQueue) ∷ [] → Goes m h f (Push q x) added made shut s w n
  push_bad q x added le is = settle (Push q x) (counts m h) made shut w BadQueue added (push_accept q x false _ _ (made_no q le) refl refl) none agrees (push_answer q x false _ _ (made_no q le) refl refl (counts m h)) is

  pub push_closed : (q : ℕ) (x : List HalfValue) (added : List (ℕ × MemOut)) → q < made → has q (counts m h).shut ≡ true → added ≡ (length h, Closed) ∷ [] → Goes m h f (Push q x) added made shut s w n
  push_closed q x added lt closed is = settle (Push q x) (counts m h) made shut w Closed added (push_accept q x true true _ (made_yes q lt) closed refl) none agrees (push_answer q x true true _ (made_yes q lt) closed refl (counts m h)) is

  or_left : (a b : Bool) → a ≡ true → (a || b) ≡ true
  or_left a b e = ap (λ c. c || b) e

  or_right : (a b : Bool) → b ≡ true → (a || b) ≡ true
  or_right true b e = refl
  or_right false b e = e

  or_none : (a b : Bool) → a ≡ false → b ≡ false → (a || b) ≡ false
  or_none a b e e' = ap (λ c. c || b) e ∙ e'

  pub push_wait : (q : ℕ) (x : List HalfValue) (added : List (ℕ × MemOut)) → q < made → has q (counts m h).shut ≡ false → beside q n ≡ [] → length w < m → added ≡ (length h, Pushed) ∷ [] → Goes m h f (Push q x) added made shut s (w ++ (q, x) ∷ []) n
  push_wait q x added lt open_ idle less is =
      let room : has_room m q (counts m h) ≡ true = or_left _ _ (ltb_yes (waiting (counts m h).made (counts m h)) m (let e = waits (counts m h) made shut w n agrees in omega arith)) in
      settle (Push q x) (record (counts m h) { pushes = (counts m h).pushes ++ (q, x) ∷ [] }) made shut (w ++ (q, x) ∷ []) Pushed added (push_accept q x true false true (made_yes q lt) open_ room) none
      (a_push_wait q x (counts m h) made shut w n agrees idle open_ lt) (push_answer q x true false true (made_yes q lt) open_ room (record (counts m h) { pushes = (counts m h).pushes ++ (q, x) ∷ [] })) is

  pub push_full : (q : ℕ) (x : List HalfValue) (added : List (ℕ × MemOut)) → q < made → has q (counts m h).shut ≡ false → beside q n ≡ [] → m ≤ length w → added ≡ (length h, QueueFull) ∷ [] → Goes m h f (Push q x) added made shut s w n
  push_full q x added lt open_ idle more is =
      let le : popped q (counts m h) ≤ pushed q (counts m h) = drop_all (pushed q (counts m h)) (beside q (counts m h).pops) (sym (subst (λ b. beside q n ≡ cond b [] (drop (pushed q (counts m h)) (beside q (counts m h).pops))) open_ (agrees.asks q)) ∙ idle) in
      let room : has_room m q (counts m h) ≡ false = or_none _ _ (ltb_no (waiting (counts m h).made (counts m h)) m (let e = waits (counts m h) made shut w n agrees in omega arith)) (ltb_no (pushed q (counts m h)) (popped q (counts m h)) le) in
      settle (Push q x) (counts m h) made shut w QueueFull added (push_accept q x true false false (made_yes q lt) open_ room) none agrees (push_answer q x true false false (made_yes q lt) open_ room (counts m h)) is

  pub push_meet : (q p : ℕ) (r : List ℕ) (x : List HalfValue) (added : List (ℕ × MemOut)) (n' : List (ℕ × ℕ)) → q < made → beside q n ≡ p ∷ r → n' ≡ rest q n → added ≡ (p, Item x) ∷ (length h, Pushed) ∷ [] → Goes m h f (Push q (array_said x)) added made shut s w n'
  push_meet q p r x added n' lt first gone is =
      let t' : Counts = record (counts m h) { pushes = (counts m h).pushes ++ (q, array_said x) ∷ [] } in
      let o = open_asks q (counts m h) n r p (agrees.asks q) first in let d = drop_head (pushed q (counts m h)) (beside q (counts m h).pops) r p o.1 in
      let room : has_room m q (counts m h) ≡ true = or_right _ _ (ltb_yes (pushed q (counts m h)) (popped q (counts m h)) d.2) in
      let acc = push_accept q (array_said x) true false true (made_yes q lt) o.0 room in let ans = push_answer q (array_said x) true false true (made_yes q lt) o.0 room t' in
      let here = pop_grows m h (Push q (array_said x) ∷ []) q (pushed q (counts m h)) p (kept.pops q (pushed q (counts m h)) p d.0) in
      let got : result_at m (h ++ Push q (array_said x) ∷ []) p ≡ Some (Item (array_said x)) = pop_result m (h ++ Push q (array_said x) ∷ []) q (pushed q (counts m h)) p here ∙ ap (gets q (pushed q (counts m h))) (is_after (Push q (array_said x)) t' acc) ∙ ap (λ a. item_or a (has q t'.shut) t'.stop) (ap (λ l. slice_get l (pushed q (counts m h))) (beside_same q (array_said x) (counts m h).pushes) ∙ get_last (beside q (counts m h).pushes) (array_said x)) in
      subst (λ l. Goes m h f (Push q (array_said x)) l made shut s w n') (sym is) (subst (λ l. Goes m h f (Push q (array_said x)) ((p, Item x) ∷ (length h, Pushed) ∷ []) made shut s w l) (sym gone)
      (subst (λ s. Goes m h f (Push q (array_said x)) ((p, Item x) ∷ (length h, Pushed) ∷ []) made shut s w (rest q n)) (sym calm)
      (mid_last m h (Push q (array_said x)) f ((p, Item x) ∷ []) t' made shut None w (rest q n) Pushed (mid_done m q p r h (Push q (array_said x)) f [] n (Item x) (mid_start m h (h ++ Push q (array_said x) ∷ []) f made shut None w n kept) first got) kept.pops (is_after (Push q (array_said x)) t' acc) (none, a_push_meet q (array_said x) p r (counts m h) made shut w n agrees first) (own (Push q (array_said x)) t' Pushed acc ans))))

  pop_accept : (q : ℕ) (a : Bool) → ltb q (counts m h).made ≡ a → accept m (length h) (Pop q) (counts m h) ≡ cond a (record (counts m h) { pops = (counts m h).pops ++ (q, length h) ∷ [] }) (counts m h)
  pop_accept q a e = ap (λ d. cond d (record (counts m h) { pops = (counts m h).pops ++ (q, length h) ∷ [] }) (counts m h)) e

  pub pop_bad : (q : ℕ) (added : List (ℕ × MemOut)) → made ≤ q → added ≡ (length h, BadQueue) ∷ [] → Goes m h f (Pop q) added made shut s w n
  pop_bad q added le is = settle (Pop q) (counts m h) made shut w BadQueue added (pop_accept q false (made_no q le)) none agrees (ap (λ b. cond b (gets q (popped q (counts m h)) (counts m h)) (Some BadQueue)) (made_no q le)) is

  pub pop_item : (q : ℕ) (x : List HalfValue) (r : List (List HalfValue)) (added : List (ℕ × MemOut)) (w' : List (ℕ × List HalfValue)) → q < made → beside q w ≡ array_said x ∷ r → w' ≡ rest q w → added ≡ (length h, Item x) ∷ [] → Goes m h f (Pop q) added made shut s w' n
  pop_item q x r added w' lt first gone is =
      let t' : Counts = record (counts m h) { pops = (counts m h).pops ++ (q, length h) ∷ [] } in
      let d = drop_head (popped q (counts m h)) (beside q (counts m h).pushes) r (array_said x) (sym (agrees.items q) ∙ first) in
      subst (λ l. Goes m h f (Pop q) added made shut s l n) (sym gone)
      (settle (Pop q) t' made shut (rest q w) (Item x) added (pop_accept q true (made_yes q lt)) none (a_pop_item q (length h) (array_said x) r (counts m h) made shut w n agrees first)
      (ap (λ b. cond b (gets q (popped q (counts m h)) t') (Some BadQueue)) (made_yes q lt) ∙ ap (λ a. item_or a (has q t'.shut) t'.stop) d.0) is)

  no_push : (q : ℕ) → beside q w ≡ [] → slice_get (beside q (counts m h).pushes) (popped q (counts m h)) ≡ None
  no_push q e = get_none (beside q (counts m h).pushes) (popped q (counts m h)) (drop_all (popped q (counts m h)) (beside q (counts m h).pushes) (sym (agrees.items q) ∙ e))

  pub pop_shut : (q : ℕ) (added : List (ℕ × MemOut)) → q < made → has q (counts m h).shut ≡ true → beside q w ≡ [] → added ≡ (length h, Closed) ∷ [] → Goes m h f (Pop q) added made shut s w n
  pop_shut q added lt closed idle is =
      let t' : Counts = record (counts m h) { pops = (counts m h).pops ++ (q, length h) ∷ [] } in
      settle (Pop q) t' made shut w Closed added (pop_accept q true (made_yes q lt)) none (a_pop_shut q (length h) (counts m h) made shut w n agrees idle closed)
      (ap (λ b. cond b (gets q (popped q (counts m h)) t') (Some BadQueue)) (made_yes q lt) ∙ ap (λ a. item_or a (has q t'.shut) t'.stop) (no_push q idle) ∙ ap (λ b. item_or None b t'.stop) closed) is

  pub pop_wait : (q k : ℕ) (added : List (ℕ × MemOut)) (n' : List (ℕ × ℕ)) → q < made → has q (counts m h).shut ≡ false → beside q w ≡ [] → k ≡ length h → n' ≡ n ++ (q, k) ∷ [] → added ≡ [] → Goes m h f (Pop q) added made shut s w n'
  pop_wait q k added n' lt open_ idle at more is =
      let t' : Counts = record (counts m h) { pops = (counts m h).pops ++ (q, length h) ∷ [] } in
      subst (λ l. Goes m h f (Pop q) l made shut s w n') (sym is) (subst (λ l. Goes m h f (Pop q) [] made shut s w l) (sym (more ∙ ap (λ k. n ++ (q, k) ∷ []) at))
      (subst (λ s. Goes m h f (Pop q) [] made shut s w (n ++ (q, length h) ∷ [])) (sym calm)
      (subst (λ l. RoomsShow m (h ++ Pop q ∷ []) l made shut None w (n ++ (q, length h) ∷ [])) (sym (Rattle.demi_memq.specs.Steady.append_none f)) (mid_ask m q h (Pop q) f t' made shut w n kept.once kept.count kept.pops (is_after (Pop q) t' (pop_accept q true (made_yes q lt))) (none, a_pop_wait q (length h) (counts m h) made shut w n agrees idle open_)), tt)))

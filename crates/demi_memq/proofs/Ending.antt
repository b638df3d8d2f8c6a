-- Closing, stopping, and what comes after a stop.
use Rattle.std.proofs.Common.{◌≡◌, ◌≢◌, ℕ, suc, ◌+◌, ◌<◌, ◌≤◌, List, [], ◌∷◌, ◌++◌, length, set, Option, Some, None, Bool, true, false, cond, refl, sym, ap, ◌∙◌, arith, subst}
use Rattle.std.specs.Prelude.{◌==◌, ◌||◌, ◌&&◌, not, ltb, slice_get}
use Rattle.demi_heap.specs.Seen.{HalfValue}
use Rattle.demi_memq.specs.declared.op.MemOp.{MemOp}
use Rattle.demi_memq.specs.declared.op.MemOp.TheVariants.{Close, Stop}
use Rattle.demi_memq.specs.declared.out.MemOut.{MemOut}
use Rattle.demi_memq.specs.declared.out.MemOut.TheVariants.{BadQueue, Shut, Closed, Halted}
use Rattle.demi_memq.specs.Said.{out_said}
use Rattle.demi_memq.specs.Counting.{beside, has, Counts, pushed, counted, accept, counts, item_or, gets, answer, answer_unless, result_at, stopped_at}
use Rattle.demi_memq.specs.Rooms.{rest, Agrees, RoomsShow, Mid}
use Rattle.demi_memq.proofs.Lists.{self_test, by_test, get_none}
use Rattle.demi_memq.proofs.Moves.{after, own_result, pop_grows, pop_result}
use Rattle.demi_memq.proofs.Agreeing.{a_close}
use Rattle.demi_memq.proofs.Keeping.{mid_start, mid_done, mid_last, pend_at}
use Rattle.demi_memq.proofs.EachKind.{ltb_yes, ltb_no, Goes}

pub first_at : (q p : ℕ) (n r : List (ℕ × ℕ)) → beside q n ≡ p ∷ beside q r → slice_get (beside q n) 0 ≡ Some p
first_at q p n r e = ap (λ l. slice_get l 0) e

pub later_at : (q p i j : ℕ) (n r : List (ℕ × ℕ)) → beside q n ≡ p ∷ beside q r → slice_get (beside q r) i ≡ Some j → slice_get (beside q n) (suc i) ≡ Some j
later_at q p i j n r e is = ap (λ l. slice_get l (suc i)) e ∙ is

pub front_is : (q p : ℕ) (n : List (ℕ × ℕ)) → beside q ((q, p) ∷ n) ≡ p ∷ beside q n
front_is q p n = ap (λ b. cond b (p ∷ beside q n) (beside q n)) (self_test q)

-- what all others have that wait behind the first
pub behind : (R : ℕ → Type 0) (q p j : ℕ) (n : List (ℕ × ℕ)) → ((i k : ℕ) → slice_get (beside j ((q, p) ∷ n)) i ≡ Some k → R k) → (i k : ℕ) → slice_get (beside j n) i ≡ Some k → R k
behind R q p j n all i k e =
    by_test (λ b. ((i k : ℕ) → slice_get (cond b (p ∷ beside j n) (beside j n)) i ≡ Some k → R k) → R k) (q == j) (λ _ all. all (suc i) k e) (λ _ all. all i k e) all

pub mid_front : (m q p : ℕ) (h : List MemOp) (op : MemOp) (f added : List (ℕ × MemOut)) (n : List (ℕ × ℕ)) (o : MemOut) → Mid m h (h ++ op ∷ []) f added ((q, p) ∷ n) → result_at m (h ++ op ∷ []) p ≡ Some (out_said o) → Mid m h (h ++ op ∷ []) f (added ++ (p, o) ∷ []) n
mid_front m q p h op f added n o d is =
    subst (λ l. Mid m h (h ++ op ∷ []) f (added ++ (p, o) ∷ []) l) (ap (λ b. cond b n ((q, p) ∷ rest q n)) (self_test q)) (mid_done m q p (beside q n) h op f added ((q, p) ∷ n) o d (front_is q p n) is)

module _ (m : ℕ) (h : List MemOp) (f : List (ℕ × MemOut)) (made : ℕ) (shut : List Bool) (s : Option ℕ) (w : List (ℕ × List HalfValue)) (n : List (ℕ × ℕ)) (k : RoomsShow m h f made shut s w n) where
  -- after a stop
  pub refused : (at : ℕ) (op : MemOp) (added : List (ℕ × MemOut)) → s ≡ Some at → added ≡ (length h, stopped_at at) ∷ [] → Goes m h f op added made shut s w n
  refused at op added ended is =
      let k' : RoomsShow m h f made shut (Some at) w n = subst (λ s. RoomsShow m h f made shut s w n) ended k in
      let same : counts m (h ++ op ∷ []) ≡ counts m h = after m h op ∙ ap (counted m (length h) op (counts m h)) k'.stands.0 in
      let res : result_at m (h ++ op ∷ []) (length h) ≡ Some (stopped_at at) = own_result m h op ∙ ap (λ s. answer_unless s m op (counts m h) (counts m (h ++ op ∷ []))) k'.stands.0 in
      subst (λ l. Goes m h f op l made shut s w n) (sym is) (subst (λ s. Goes m h f op ((length h, stopped_at at) ∷ []) made shut s w n) (sym ended)
      (mid_last m h op f [] (counts m h) made shut (Some at) w n (stopped_at at) (mid_start m h (h ++ op ∷ []) f made shut (Some at) w n k') k'.pops same k'.stands res))

  module _ (calm : s ≡ None) where
    kept : RoomsShow m h f made shut None w n
    kept = subst (λ s. RoomsShow m h f made shut s w n) calm k

    agrees : Agrees (counts m h) made shut w n
    agrees = kept.stands.1

    none : (counts m h).stop ≡ None
    none = kept.stands.0

    is_after : (op : MemOp) (t' : Counts) → accept m (length h) op (counts m h) ≡ t' → counts m (h ++ op ∷ []) ≡ t'
    is_after op t' e = after m h op ∙ ap (counted m (length h) op (counts m h)) none ∙ e

    own : (op : MemOp) (t' : Counts) (o : MemOut) → accept m (length h) op (counts m h) ≡ t' → answer m op (counts m h) t' ≡ Some o → result_at m (h ++ op ∷ []) (length h) ≡ Some o
    own op t' o e ans = own_result m h op ∙ ap (λ s. answer_unless s m op (counts m h) (counts m (h ++ op ∷ []))) none ∙ ap (answer m op (counts m h)) (is_after op t' e) ∙ ans

    still : (op : MemOp) (o : MemOut) (added : List (ℕ × MemOut)) → accept m (length h) op (counts m h) ≡ counts m h → answer m op (counts m h) (counts m h) ≡ Some (out_said o) → added ≡ (length h, o) ∷ [] → Goes m h f op added made shut s w n
    still op o added e ans is =
        subst (λ l. Goes m h f op l made shut s w n) (sym is) (subst (λ s. Goes m h f op ((length h, o) ∷ []) made shut s w n) (sym calm)
        (mid_last m h op f [] (counts m h) made shut None w n o (mid_start m h (h ++ op ∷ []) f made shut None w n kept) kept.pops (is_after op (counts m h) e) (none, agrees) (own op (counts m h) (out_said o) e ans)))

    made_yes : (q : ℕ) → q < made → ltb q (counts m h).made ≡ true
    made_yes q lt = ltb_yes q (counts m h).made (let e = agrees.made_is in omega arith)

    made_no : (q : ℕ) → made ≤ q → ltb q (counts m h).made ≡ false
    made_no q le = ltb_no q (counts m h).made (let e = agrees.made_is in omega arith)

    close_accept : (q : ℕ) (a b : Bool) → ltb q (counts m h).made ≡ a → has q (counts m h).shut ≡ b → accept m (length h) (Close q) (counts m h) ≡ cond (a && not b) (record (counts m h) { shut = q ∷ (counts m h).shut }) (counts m h)
    close_accept q a b ea eb = ap (λ d. cond d (record (counts m h) { shut = q ∷ (counts m h).shut }) (counts m h)) (rw (ea, eb) refl)

    close_answer : (q : ℕ) (a b : Bool) → ltb q (counts m h).made ≡ a → has q (counts m h).shut ≡ b → (t' : Counts) → answer m (Close q) (counts m h) t' ≡ Some (cond a (cond b Closed Shut) BadQueue)
    close_answer q a b ea eb t' = rw (ea, eb) refl

    pub close_bad : (q : ℕ) (added : List (ℕ × MemOut)) → made ≤ q → added ≡ (length h, BadQueue) ∷ [] → Goes m h f (Close q) added made shut s w n
    close_bad q added le is = still (Close q) BadQueue added (close_accept q false _ (made_no q le) refl) (close_answer q false _ (made_no q le) refl (counts m h)) is

    pub close_again : (q : ℕ) (added : List (ℕ × MemOut)) → q < made → has q (counts m h).shut ≡ true → added ≡ (length h, Closed) ∷ [] → Goes m h f (Close q) added made shut s w n
    close_again q added lt closed is = still (Close q) Closed added (close_accept q true true (made_yes q lt) closed) (close_answer q true true (made_yes q lt) closed (counts m h)) is

    pub close_owes : (q : ℕ) → q < made → has q (counts m h).shut ≡ false → (i p : ℕ) → slice_get (beside q n) i ≡ Some p → result_at m (h ++ Close q ∷ []) p ≡ Some Closed
    close_owes q lt open_ i p e =
        let t' : Counts = record (counts m h) { shut = q ∷ (counts m h).shut } in
        let a = pend_at m q i p h made shut w n agrees kept.pops e in
        pop_result m (h ++ Close q ∷ []) q (pushed q (counts m h) + i) p (pop_grows m h (Close q ∷ []) q (pushed q (counts m h) + i) p a.1) ∙ ap (gets q (pushed q (counts m h) + i)) (is_after (Close q) t' (close_accept q true false (made_yes q lt) open_))
        ∙ ap (λ x. item_or x (has q t'.shut) t'.stop) (get_none (beside q (counts m h).pushes) (pushed q (counts m h) + i) (omega arith)) ∙ ap (λ b. item_or None (b || has q (counts m h).shut) t'.stop) (self_test q)

    pub close_last : (q : ℕ) (mid added : List (ℕ × MemOut)) (n' : List (ℕ × ℕ)) → q < made → has q (counts m h).shut ≡ false → Mid m h (h ++ Close q ∷ []) f mid n' → beside q n' ≡ [] → ((j : ℕ) → q ≢ j → beside j n' ≡ beside j n) → added ≡ mid ++ (length h, Shut) ∷ [] → Goes m h f (Close q) added made (set shut q true) s w n'
    close_last q mid added n' lt open_ d gone same is =
        let t' : Counts = record (counts m h) { shut = q ∷ (counts m h).shut } in let acc = close_accept q true false (made_yes q lt) open_ in
        subst (λ l. Goes m h f (Close q) l made (set shut q true) s w n') (sym is) (subst (λ s. Goes m h f (Close q) (mid ++ (length h, Shut) ∷ []) made (set shut q true) s w n') (sym calm)
        (mid_last m h (Close q) f mid t' made (set shut q true) None w n' Shut d kept.pops (is_after (Close q) t' acc) (none, a_close q (counts m h) made shut w n n' agrees lt gone same) (own (Close q) t' Shut acc (close_answer q true false (made_yes q lt) open_ t'))))

    pub stop_owes : (q i p : ℕ) → slice_get (beside q n) i ≡ Some p → result_at m (h ++ Stop ∷ []) p ≡ Some (stopped_at (length h))
    stop_owes q i p e =
        let t' : Counts = record (counts m h) { stop = Some (length h) } in let a = pend_at m q i p h made shut w n agrees kept.pops e in
        pop_result m (h ++ Stop ∷ []) q (pushed q (counts m h) + i) p (pop_grows m h (Stop ∷ []) q (pushed q (counts m h) + i) p a.1) ∙ ap (gets q (pushed q (counts m h) + i)) (is_after Stop t' refl)
        ∙ ap (λ x. item_or x (has q t'.shut) t'.stop) (get_none (beside q (counts m h).pushes) (pushed q (counts m h) + i) (omega arith)) ∙ ap (λ b. item_or None b t'.stop) a.0

    pub stop_last : (at : ℕ) (mid added : List (ℕ × MemOut)) (w' : List (ℕ × List HalfValue)) (n' : List (ℕ × ℕ)) → at ≡ length h → Mid m h (h ++ Stop ∷ []) f mid [] → w' ≡ [] → n' ≡ [] → added ≡ mid ++ (length h, Halted) ∷ [] → Goes m h f Stop added made shut (Some at) w' n'
    stop_last at mid added w' n' here d none_held empty is =
        let t' : Counts = record (counts m h) { stop = Some (length h) } in
        subst (λ l. Goes m h f Stop l made shut (Some at) w' n') (sym is) (subst (λ k. Goes m h f Stop (mid ++ (length h, Halted) ∷ []) made shut (Some k) w' n') (sym here) (subst (λ l. Goes m h f Stop (mid ++ (length h, Halted) ∷ []) made shut (Some (length h)) w' l) (sym empty)
        (mid_last m h Stop f mid t' made shut (Some (length h)) w' [] Halted d kept.pops (is_after Stop t' refl) (refl, none_held, refl) (own Stop t' Halted refl refl))))

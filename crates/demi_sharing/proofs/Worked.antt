-- What each worker did at the closed port of the memory queues.
use Rattle.std.proofs.Common.{◌≡◌, ℕ, zero, suc, ◌+◌, ◌<◌, List, [], ◌∷◌, ◌++◌, length, Some, refl, arith, ◌∙◌, ap, sym, subst, append_assoc, append-nil}
use Rattle.std.specs.Prelude.{slice_get}
use Rattle.std.specs.List.{AllByRecursion, AllZip}
use Rattle.demi_heap.specs.Seen.{HalfValue, HeapId}
use Rattle.demi_link.specs.Sights.{Side}
use Rattle.demi_memq.specs.declared.op.MemOp.{MemOp}
use Rattle.demi_memq.specs.declared.op.MemOp.TheVariants.{Queue, Push, Pop, Close, Stop}
use Rattle.demi_memq.specs.declared.out.MemOut.{MemOut}
use Rattle.demi_memq.specs.declared.out.MemOut.TheVariants.{Opened, Pushed, Shut, Closed, Item}
use Rattle.demi_pdpix.specs.Seen.{MemPass}
use Rattle.demi_port.specs.Seen.{EndValue, known_at, known_by, says}
use Rattle.demi_port_core.specs.History.{Among, of_pass}
use Rattle.demi_port_core.specs.Trails.{Behind}
use Rattle.demi_served.specs.Served.{Placed}
use Rattle.demi_served.specs.Sharing.{number_of}
use Rattle.demi_sharing.proofs.Deeds.{IsNoPush, Notes, pops_got, pops_no_push, pops_noted, push_at, pushes_noted}
use Rattle.demi_sharing.proofs.Doing.{does_append}
use Rattle.demi_sharing.proofs.Lists.{all_append, all_at, get_left, get_right, get_some, placed_at, some_is}
use Rattle.demi_sharing.proofs.Ran.{Ran, behind_self, ran_of}
use Rattle.demi_sharing.specs.Closing.{FirstTook, OtherTook}
use Rattle.demi_sharing.specs.Dealing.{Deed, IsPopOf, IsPushOf}

-- a worker pops these, and then is told that the queue is closed
last_pop : List Deed
last_pop = (Pop 0, Closed) ∷ []

-- the first closes the queue after its pushes
the_close : List Deed
the_close = (Close 0, Shut) ∷ []

last_no_push : AllByRecursion IsNoPush last_pop
unfolding last_pop
last_no_push = ((λ sga e. absurd (cc)), tt)

last_noted : (numbers : List ℕ) → AllByRecursion (Notes numbers) last_pop
unfolding last_pop
last_noted numbers = ((λ sga e. let two : Closed ≡ Item sga = ap (λ (z : Deed). z.1) e in absurd (cc)), tt)

close_no_push : AllByRecursion IsNoPush the_close
unfolding the_close
close_no_push = ((λ sga e. absurd (cc)), tt)

close_noted : (numbers : List ℕ) → AllByRecursion (Notes numbers) the_close
unfolding the_close
close_noted numbers = ((λ sga e. let two : Close 0 ≡ Pop 0 = ap (λ (z : Deed). z.0) e in absurd (cc)), tt)

-- The worker with this number did each of these: its pops got these numbers and the last was told that the queue is closed; the first alone pushed, each number
-- below that of the links once, in order.
pub record Deeds (links n : ℕ) (numbers : List ℕ) (deeds : List Deed) : Type 0 where
  pub noted : AllByRecursion (Notes numbers) deeds
  pub got : (l : ℕ) → Among l numbers → (i : ℕ) × (sga : List HalfValue) × (slice_get deeds i ≡ Some (Pop 0, Item sga)) × (number_of sga ≡ l)
  pub closed : (i : ℕ) × (slice_get deeds i ≡ Some (Pop 0, Closed))
  pub pushes : (i : ℕ) (sga : List HalfValue) (out : MemOut) → slice_get deeds i ≡ Some (Push 0 sga, out) → (n ≡ 0) × (i ≡ suc (number_of sga)) × (number_of sga < links)
  pub dealt : n ≡ 0 → (l : ℕ) → l < links → (i : ℕ) × (sga : List HalfValue) × (slice_get deeds i ≡ Some (Push 0 sga, Pushed)) × (number_of sga ≡ l)

got_in : (first more : List Deed) (l : ℕ) → ((i : ℕ) × (sga : List HalfValue) × (slice_get more i ≡ Some (Pop 0, Item sga)) × (number_of sga ≡ l))
    → (i : ℕ) × (sga : List HalfValue) × (slice_get (first ++ more) i ≡ Some (Pop 0, Item sga)) × (number_of sga ≡ l)
got_in first more l h = let k = get_right first more h.0 (Pop 0, Item h.1) h.2 in (k.0, h.1, k.1, h.3)

pops_closed : (pops : List Deed) → (i : ℕ) × (slice_get (pops ++ last_pop) i ≡ Some (Pop 0, Closed))
unfolding last_pop
pops_closed pops = get_right pops ((Pop 0, Closed) ∷ []) 0 (Pop 0, Closed) refl

pops_are : (numbers : List ℕ) (pops : List Deed) (l : ℕ) → AllZip IsPopOf numbers pops → Among l numbers
    → (i : ℕ) × (sga : List HalfValue) × (slice_get (pops ++ last_pop) i ≡ Some (Pop 0, Item sga)) × (number_of sga ≡ l)
pops_are numbers pops l h a = let k = pops_got numbers pops l h a in (k.0, k.1, get_left pops last_pop k.0 (Pop 0, Item k.1) k.2, k.3)

pops_all_noted : (numbers : List ℕ) (pops : List Deed) → AllZip IsPopOf numbers pops → AllByRecursion (Notes numbers) (pops ++ last_pop)
pops_all_noted numbers pops h = all_append (Notes numbers) pops last_pop (pops_noted numbers numbers pops (λ l a. a) h) (last_noted numbers)

pops_none_push : (numbers : List ℕ) (pops : List Deed) → AllZip IsPopOf numbers pops → AllByRecursion IsNoPush (pops ++ last_pop)
pops_none_push numbers pops h = all_append IsNoPush pops last_pop (pops_no_push numbers pops h) last_no_push

other_deeds : (links m : ℕ) (numbers : List ℕ) (pops : List Deed) → AllZip IsPopOf numbers pops → Deeds links (suc m) numbers (pops ++ last_pop)
other_deeds links m numbers pops h = record {
  noted = pops_all_noted numbers pops h;
  got = λ l a. pops_are numbers pops l h a;
  closed = pops_closed pops;
  pushes = λ i sga out e. absurd (all_at IsNoPush (pops ++ last_pop) i (Push 0 sga, out) (pops_none_push numbers pops h) e sga refl);
  dealt = λ e. absurd (none e);
}
  where
    none : suc m ≡ 0 → ⊥
    none e = omega (arith, e)

first_all : List Deed → List Deed → List Deed
first_all pushes pops = (Queue, Opened 0) ∷ ((pushes ++ the_close) ++ (pops ++ last_pop))

first_pushes : (links : ℕ) (pushes rest : List Deed) (i : ℕ) (sga : List HalfValue) (out : MemOut) → length pushes ≡ links
    → Placed IsPushOf 0 pushes → AllByRecursion IsNoPush rest → slice_get ((Queue, Opened 0) ∷ (pushes ++ rest)) i ≡ Some (Push 0 sga, out)
    → (i ≡ suc (number_of sga)) × (number_of sga < links)
first_pushes links pushes rest zero sga out long h calm e =
    let ops : Queue ≡ Push 0 sga = ap (λ (z : Deed). z.0) (some_is e) in
    absurd (cc)
first_pushes links pushes rest (suc j) sga out long h calm e = settle j (number_of sga) (length pushes) links long (push_at 0 pushes rest j sga out h calm e)
  where
    settle : (j n l m : ℕ) → l ≡ m → (0 + j ≡ n) × (j < l) → (suc j ≡ suc n) × (n < m)
    settle j n l m s h = let e = h.0 in let less = h.1 in (omega arith, omega arith)

first_dealt : (links : ℕ) (pushes rest : List Deed) (l : ℕ) → length pushes ≡ links → Placed IsPushOf 0 pushes → l < links
    → (i : ℕ) × (sga : List HalfValue) × (slice_get ((Queue, Opened 0) ∷ (pushes ++ rest)) i ≡ Some (Push 0 sga, Pushed)) × (number_of sga ≡ l)
first_dealt links pushes rest l long h less =
    let k = get_some pushes l (omega arith) in
    let p = placed_at IsPushOf 0 pushes l k.0 h k.1 in
    let n : 0 + l ≡ l = omega arith in
    (suc l, p.0, get_left pushes rest l k.0 k.1 ∙ ap Some p.1, p.2 ∙ n)

first_deeds : (links : ℕ) (numbers : List ℕ) (pushes pops : List Deed) → Placed IsPushOf 0 pushes → length pushes ≡ links → AllZip IsPopOf numbers pops
    → Deeds links 0 numbers (first_all pushes pops)
unfolding first_all
first_deeds links numbers pushes pops are long h =
    let rest = the_close ++ (pops ++ last_pop) in
    let joined : (pushes ++ the_close) ++ (pops ++ last_pop) ≡ pushes ++ rest = append_assoc pushes the_close (pops ++ last_pop) in
    let calm = all_append IsNoPush the_close (pops ++ last_pop) close_no_push (pops_none_push numbers pops h) in
    record {
      noted = ((λ sga e. let two : Queue ≡ Pop 0 = ap (λ (z : Deed). z.0) e in absurd (cc)), all_append (Notes numbers) (pushes ++ the_close) (pops ++ last_pop) (all_append (Notes numbers) pushes the_close (pushes_noted numbers 0 pushes are) (close_noted numbers)) (pops_all_noted numbers pops h));
      got = λ l a. got_in ((Queue, Opened 0) ∷ (pushes ++ the_close)) (pops ++ last_pop) l (pops_are numbers pops l h a);
      closed = let k = pops_closed pops in get_right ((Queue, Opened 0) ∷ (pushes ++ the_close)) (pops ++ last_pop) k.0 (Pop 0, Closed) k.1;
      pushes = λ i sga out e. (let k = first_pushes links pushes rest i sga out long are calm (ap (λ (x : List Deed). slice_get ((Queue, Opened 0) ∷ x) i) (sym joined) ∙ e) in (refl, k.0, k.1));
      dealt = λ z l less. let k = first_dealt links pushes rest l long are less in (k.0, k.1, ap (λ (x : List Deed). slice_get ((Queue, Opened 0) ∷ x) k.0) joined ∙ k.2, k.3);
    }

module _ (links : ℕ) (end : EndValue MemOp (Unit {0}) HeapId) where
  -- The worker with this number worked so, at the places of the closed port.
  pub record Worked (n : ℕ) (numbers : List ℕ) : Type 0 where
    pub deeds : List Deed
    pub are : Deeds links n numbers deeds
    pub ran : Ran end.history n deeds

  pub first_worked : (numbers : List ℕ) (p : MemPass) → FirstTook links numbers p → p.submitted ≡ of_pass p.number 0 end.history
      → Behind (known_at end) (known_by p) → end.heard ≡ says end.history → Worked 0 numbers
  unfolding first_all the_close last_pop
  first_worked numbers p t own behind heard =
      let d = t.shares.3 in
      let u = t.shares.4 in
      let a = t.stopped in
      record {
        deeds = first_all d.pushes u.pops;
        are = first_deeds links numbers d.pushes u.pops d.are d.many u.are;
        ran = ran_of end 0 (first_all d.pushes u.pops) t.shares.0 t.before p ((a.place, (a.token, Stop)) ∷ [])
            (does_append ((Queue, Opened 0) ∷ (d.pushes ++ (Close 0, Shut) ∷ [])) (u.pops ++ (Pop 0, Closed) ∷ []) t.shares.0 t.shares.1 t.before d.did u.did)
            t.shares.2 t.number a.submitted a.grows (refl, tt) own behind heard;
      }

  pub other_worked : (m : ℕ) (numbers : List ℕ) (p : MemPass) → OtherTook links (suc m) numbers p → p.submitted ≡ of_pass p.number 0 end.history
      → Behind (known_at end) (known_by p) → end.heard ≡ says end.history → Worked (suc m) numbers
  unfolding last_pop
  other_worked m numbers p t own behind heard =
      let u = t.shares.2 in
      let said : p.submitted ≡ t.after.submitted ++ [] = ap (λ (s : Side MemOp (Unit {0})). s.submitted) t.side ∙ sym (append-nil t.after.submitted) in
      record {
        deeds = u.pops ++ last_pop;
        are = other_deeds links m numbers u.pops u.are;
        ran = ran_of end (suc m) (u.pops ++ (Pop 0, Closed) ∷ []) t.shares.0 t.after p [] u.did t.shares.1 t.number said
            (subst (λ (s : Side MemOp (Unit {0})). Behind (known_by p) s.known) t.side (behind_self (known_by p))) tt own behind heard;
      }

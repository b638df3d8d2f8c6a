-- What one operation of a caller at the memory queues comes to.
use Rattle.std.proofs.Common.{◌≡◌, ℕ, List, [], ◌∷◌, ◌++◌, None, Option, Some, inl, refl, ap, sym, subst, ◌∙◌, replicate}
use Rattle.std.specs.Prelude.{IfNone, IfSome}
use Rattle.demi_heap.specs.Seen.{HalfValue}
use Rattle.demi_port_core.specs.History.{Among}
use Rattle.demi_port_core.specs.Trails.{Behind}
use Rattle.demi_port_core.specs.declared.place.Place.{Place}
use Rattle.demi_port_core.specs.declared.place.QToken.{QToken}
use Rattle.demi_port_core.specs.declared.trail.Trail.{Trail}
use Rattle.demi_port_core.proofs.Lists.{among_right}
use Rattle.demi_memq.specs.Counting.{result_at}
use Rattle.demi_memq.specs.Said.{array_said, out_said}
use Rattle.demi_memq.specs.declared.op.MemOp.{MemOp}
use Rattle.demi_memq.specs.declared.op.MemOp.TheVariants.{Push}
use Rattle.demi_memq.specs.declared.out.MemOut.{MemOut}
use Rattle.demi_pdpix.specs.Asks.{to_memory}
use Rattle.demi_pdpix.specs.Calls.{OnHeap, Submits as CallSubmits}
use Rattle.demi_pdpix.specs.Kinds.{kind_of}
use Rattle.demi_pdpix.specs.Seen.{IsOf, MemPass}
use Rattle.demi_pdpix.specs.Tries.{TriedAt, Waited}
use Rattle.demi_pdpix.specs.declared.kind.PortKind.{PortKind}
use Rattle.demi_pdpix.specs.declared.kind.PortKind.TheVariants.{Memory}
use Rattle.demi_pdpix.specs.declared.outcomes.Answer.TheVariants.{Ready}
use Rattle.demi_pdpix.specs.declared.outcomes.QResult.TheVariants.{Mem}
use Rattle.demi_store.specs.Laws.{Admits}
use Rattle.demi_link.specs.Sights.{side_of}
use Rattle.demi_closed.proofs.Entries.{behind_on}
use Rattle.demi_context.specs.ContextPorts.{Caller, OwesLess, SameButMemory, Whole, side_at}
use Rattle.demi_context.specs.Halting.{HasLooked}
use Rattle.demi_context.proofs.ContextOwing.{heap_owes, submits_owes}
use Rattle.demi_context.proofs.ContextSides.{submitted_side}
use Rattle.demi_context.proofs.Halting.{all_busy_looked, looked_on, only_memory}
use Rattle.demi_context.proofs.Halts.{owes_round, waited_owes}
use Rattle.demi_sharing.proofs.Doing.{does_append}
use Rattle.demi_served.specs.Sharing.{number_of}
use Rattle.demi_sharing.proofs.Numbers.{number_said}
use Rattle.demi_sharing.proofs.Ran.{behind_self}
use Rattle.demi_sharing.specs.Acting.{Acts, Came, Gave}
use Rattle.demi_sharing.specs.Dealing.{Deed, Does, DoesEach, MemSide}

-- sides that stay the same, one after another
pub sides_on : (a b c : Caller) → SameButMemory a b → SameButMemory b c → SameButMemory a c
sides_on a b c x y = (y.0 ∙ x.0, (λ k. y.1 k ∙ x.1 k), λ k. y.2 k ∙ x.2 k)

-- what the pass of the memory queues knows, where that is the same
known_same : (p q : MemSide) → q ≡ p → Behind q.known p.known
known_same p q is = subst (λ (x : MemSide). Behind x.known p.known) (sym is) (behind_self p.known)

pub gave_after : (op : MemOp) (token : ℕ) (b c e : Caller) → HasLooked b c → Gave op token c e → Gave op token b e
gave_after op token b c e l s = record {
  place = s.place;
  submitted = s.submitted ∙ ap (λ (x : MemSide). x.submitted ++ (s.place, (token, op)) ∷ []) l.memory;
  grows = subst (λ (x : MemSide). Behind (side_of e.memory).known x.known) l.memory s.grows;
  sides = sides_on b c e l.sides s.sides;
  owes = λ n f due. s.owes n f (l.owes n f due);
}

pub gave_of : (op : MemOp) (token : ℕ) (c e : Caller) → CallSubmits Memory (to_memory op) c e token → Gave op token c e
gave_of op token c e s =
    let side = submitted_side s.1.0 c.memory e.memory token op s.1.1 in
    record {
      place = s.1.0;
      submitted = ap (λ (x : MemSide). x.submitted) side.side;
      grows = subst (λ (v : Trail _ _). Behind v (side_of c.memory).known) (sym (ap (λ (x : MemSide). x.known) side.side)) (behind_self (side_of c.memory).known);
      sides = only_memory c e s.0;
      owes = submits_owes Memory (to_memory op) token c e s;
    }

-- the token of the memory queues was waited for
module _ (L P : Type 0) (d : Whole) (t : QToken) (c e : Caller) (of : IsOf d e) (place : Place) (o : MemOut) (port : t.port ≡ 0)
    (w : Waited {L = L} {P = P} Admits d t c e (Ready place (Mem o))) where
  tried : TriedAt {L = L} {P = P} Memory Admits d.heap t.token.0 w.1 e (Ready place (Mem o))
  tried = subst (λ (k : PortKind). TriedAt {L = L} {P = P} k Admits d.heap t.token.0 w.1 e (Ready place (Mem o))) (ap (kind_of d) port) w.3

  looked : HasLooked c w.1
  looked = all_busy_looked d (replicate w.0 t) c w.1 w.2

  pub came_of : Came t.token.0 o c e
  came_of = record {
    place = place.0;
    own = λ k x a. tried.1.own k x (subst (λ (s : MemSide). Among (k, (t.token.0, x)) s.submitted) (sym looked.memory) a);
    submitted = ap (λ (x : MemPass). x.submitted) tried.1.pass ∙ ap (λ (x : MemSide). x.submitted) looked.memory;
    grows = subst (λ (x : MemSide). Behind (side_of e.memory).known x.known) looked.memory tried.1.grows;
    came = tried.1.admitted.0;
    sides = sides_on c w.1 e looked.sides (only_memory w.1 e tried.0);
    owes = subst (λ (k : PortKind). OwesLess k 1 c e) (ap (kind_of d) port) (waited_owes L P d t c e of place (Mem o) w);
  }

-- an operation that was submitted, and what it came to
pub does_of : (op : MemOp) (out : MemOut) (token : ℕ) (c m e : Caller) → Gave op token c m → Came token out m e → Does (op, out_said out) (side_of c.memory) (side_of e.memory)
does_of op out token c m e s r =
    let there : Among (s.place, (token, op)) (side_of m.memory).submitted =
    subst (Among (s.place, (token, op))) (sym s.submitted) (among_right (s.place, (token, op)) (side_of c.memory).submitted ((s.place, (token, op)) ∷ []) (inl refl)) in
    let here : s.place ≡ r.place = r.own s.place op there in
    record {
      place = s.place;
      token = token;
      submitted = r.submitted ∙ s.submitted;
      grows = behind_on (side_of e.memory).known (side_of m.memory).known (side_of c.memory).known r.grows s.grows;
      came = subst (λ (k : ℕ). result_at 1024 (side_of e.memory).known.heard k ≡ Some (out_said out)) (sym here) r.came;
    }

pub one_done : (d : Deed) (p q : MemSide) → Does d p q → DoesEach (d ∷ []) p q
one_done d p q h = (q, h, (refl, behind_self q.known))

pub acts_of : (op : MemOp) (out : MemOut) (token : ℕ) (c m e : Caller) → Gave op token c m → Came token out m e → Acts ((op, out_said out) ∷ []) c e
acts_of op out token c m e s r = record {
  did = one_done (op, out_said out) (side_of c.memory) (side_of e.memory) (does_of op out token c m e s r);
  sides = sides_on c m e s.sides r.sides;
  owes = owes_round Memory c m e s.owes r.owes;
}

pub acts_on : (xs ys : List Deed) (a b c : Caller) → Acts xs a b → Acts ys b c → Acts (xs ++ ys) a c
acts_on xs ys a b c x y = record {
  did = does_append xs ys (side_of a.memory) (side_of b.memory) (side_of c.memory) x.did y.did;
  sides = sides_on a b c x.sides y.sides;
  owes = λ n f due. y.owes n f (x.owes n f due);
}

pub acts_none : (c : Caller) → Acts [] c c
acts_none c = record {
  did = (refl, behind_self (side_of c.memory).known);
  sides = (refl, (λ k. refl), λ k. refl);
  owes = λ n f due. due;
}

-- looks after it
pub acts_looked : (xs : List Deed) (a b c : Caller) → Acts xs a b → HasLooked b c → Acts xs a c
acts_looked xs a b c x l = record {
  did = subst (DoesEach xs (side_of a.memory)) (sym l.memory) x.did;
  sides = sides_on a b c x.sides l.sides;
  owes = λ n f due. l.owes n f (x.owes n f due);
}

pub heap_looked : (c e : Caller) → OnHeap c e → HasLooked c e
heap_looked c e s = record {
  memory = ap (λ (x : Caller). side_of x.memory) s;
  sides = (ap (λ (x : Caller). side_of x.service) s, (λ k. ap (λ (x : Caller). side_at x.rx k) s), λ k. ap (λ (x : Caller). side_at x.tx k) s);
  owes = heap_owes c e s;
}

-- a push of an array that says the number, after looks
pub push_some : (r : Option QToken) (number : ℕ) (sga : List HalfValue) (b m e : Caller) → HasLooked b m → number_of sga ≡ number
    → IfSome r (λ t. (t.port ≡ 0) × Gave (Push 0 (array_said sga)) t.token.0 m e)
    → IfSome r (λ t. (t.port ≡ 0) × ((said : List HalfValue) × (number_of said ≡ number) × Gave (Push 0 said) t.token.0 b e))
push_some None number sga b m e l is h = tt
push_some (Some t) number sga b m e l is h = (h.0, (array_said sga, (number_said sga ∙ is), gave_after (Push 0 (array_said sga)) t.token.0 b m e l h.1))

pub push_none : (r : Option QToken) (b m e : Caller) → HasLooked b m → IfNone r (HasLooked m e) → IfNone r (HasLooked b e)
push_none None b m e l h = looked_on b m e l h
push_none (Some t) b m e l h = tt

-- A worker that takes links in, one after the other.
use Rattle.std.proofs.Common.{◌≡◌, ◌≢◌, ◌∙◌, ◌⊎◌, ℕ, zero, suc, ◌<◌, ◌≤◌, List, [], ◌∷◌, ◌++◌, length, refl, sym, ap, subst, inl, inr, arith, get_or, take, length-append}
use Rattle.std.specs.List.{AllByRecursion}
use Rattle.demi_port_core.specs.History.{Among}
use Rattle.demi_port_core.proofs.Lists.{among_left, among_right}
use Rattle.demi_sched.specs.Going.{Differ}
use Rattle.demi_sched.proofs.Lists.{each_at}
use Rattle.demi_sched.specs.Holding.{SchedulerValue}
use Rattle.demi_sched.specs.declared.held.Held.{Held}
use Rattle.demi_served.specs.Keeps.{IsLaterAsk, IsOfDraw}
use Rattle.demi_served.specs.Served.{Pairwise}
use Rattle.demi_link.specs.Linked.{LinkValue}
use Rattle.demi_worker.specs.Ending.{IsNew}
use Rattle.demi_worker.specs.Standing.{SameLinks, Stands, taken_in}
use Rattle.demi_worker.specs.declared.ended.Ended.{Ended}
use Rattle.demi_worker.specs.declared.worker.Worker.{Worker}
use Rattle.demi_worker.proofs.Leaving.{new_beside}
use Rattle.demi_worker.proofs.Links.{among_either}
use Rattle.demi_context.specs.ContextLedgers.{no_ledger}
use Rattle.demi_context.specs.ContextPorts.{Caller, Whole}
use Rattle.demi_context.specs.ContextSights.{ContextValue, ports_of, sight_of}
use Rattle.demi_crew.specs.Serving.{IsEmpty, IsUnused}
use Rattle.demi_crew.specs.Taking.{HasTaken, IsReady, MayTakeIn, TookIn}

-- the element at a place, whatever stands for one past the end
pub same_element : {A : Type 0} (xs : List A) (i : ℕ) (d : A) → i < length xs → get_or xs i d ≡ get_or xs i (get_or xs i d)
same_element [] i d low = absurd (omega (arith, low))
same_element (x ∷ xs) zero d low = refl
same_element (x ∷ xs) (suc i) d low = same_element xs i d (omega (arith, low))

few_taken : {A : Type 0} (xs : List A) (i : ℕ) → length (take i xs) ≤ i
few_taken [] zero = omega arith
few_taken [] (suc i) = omega arith
few_taken (x ∷ xs) zero = omega arith
few_taken (x ∷ xs) (suc i) = let h = few_taken xs i in omega (arith, h)

-- of numbers that differ, none stands before itself
none_before : (xs : List ℕ) (i : ℕ) (x : ℕ) → Differ xs → i < length xs → x ≡ get_or xs i x → Among x (take i xs) → ⊥
none_before [] i x d low is among = absurd (omega (arith, low))
none_before (y ∷ xs) zero x d low is among = among
none_before (y ∷ xs) (suc i) x d low is (inl e) = each_at (λ m. m ≢ y) xs i x d.0 (omega (arith, low)) is e
none_before (y ∷ xs) (suc i) x d low is (inr a) = none_before xs i x d.1 (omega (arith, low)) is a

-- the worker took in some, and may take the next in
pub may_take : (demi : Whole) (number : ℕ) (caller : Caller) (numbers : List ℕ) (i : ℕ) (link : ℕ) (w : Worker ContextValue)
    → HasTaken demi number caller (take i numbers) w → Differ numbers → length numbers ≤ w.scheduler.room → i < length numbers → link ≡ get_or numbers i link → MayTakeIn link w
may_take demi number caller numbers i link w t differ room low is = let none = none_before numbers i link differ low is in record {
  stands = t.stands;
  other = λ among. none ((t.links link).0 among);
  room = let n = t.count in let few = few_taken numbers i in omega (arith, n, few, low, room);
  new = subst (λ (n : ℕ). IsNew n (sight_of w.context link) link) (sym t.same_number) (t.new link none);
}

-- one more was taken in
module _ (demi : Whole) (number : ℕ) (caller : Caller) (ns : List ℕ) (link : ℕ) (a b : Worker ContextValue) (t : HasTaken demi number caller ns a) (took : TookIn link a b) where
  there : (n : ℕ) → (n ≡ link) ⊎ Among n (taken_in a.scheduler.held a.ended.items) → Among n (ns ++ link ∷ [])
  there n (inl e) = among_right n ns (link ∷ []) (inl e)
  there n (inr among) = among_left n ns (link ∷ []) ((t.links n).0 among)

  back : (n : ℕ) → Among n ns ⊎ Among n (link ∷ []) → (n ≡ link) ⊎ Among n (taken_in a.scheduler.held a.ended.items)
  back n (inl among) = inr ((t.links n).1 among)
  back n (inr (inl e)) = inl e
  back n (inr (inr among)) = absurd among

  pub taken_next : HasTaken demi number caller (ns ++ link ∷ []) b
  taken_next = record {
    demi_is = took.goes.demi ∙ t.demi_is;
    number_is = took.goes.number ∙ t.number_is;
    same_number = took.number ∙ t.same_number;
    memory = took.goes.memory ∙ t.memory;
    stands = took.stands;
    links = λ n. ((λ among. there n ((took.links n).0 among)), (λ among. (took.links n).1 (back n (among_either n ns (link ∷ []) among))));
    count = let more = took.count in let n = t.count in let long = length-append ns (link ∷ []) in omega (arith, more, n, long);
    new = λ l none. new_beside number l (sight_of a.context l) (sight_of b.context l) (t.new l (λ among. none (among_left l ns (link ∷ []) among)))
        (took.others l ((λ e. none (among_right l ns (link ∷ []) (inl (sym e)))), tt));
  }

-- the context of a worker that did nothing
abbrev pub first_context : Whole → ℕ → Caller → ContextValue
first_context demi number caller = record { demi = demi; caller = caller; number = number; ledger = no_ledger; seen = []; begun = 0 }

-- its caller did nothing for any link
new_for : (demi : Whole) (number : ℕ) (caller : Caller) (link : ℕ) → IsUnused demi number caller → IsNew number (sight_of (first_context demi number caller) link) link
new_for demi number caller link unused = record {
  fresh = record {
    draws = tt;
    pops = unused.rx link;
    pushes = unused.tx link;
    out = refl;
    due = refl;
  };
  number = refl;
  worker = record {
    asks = subst (AllByRecursion (IsOfDraw [])) (sym unused.store) tt;
    rises = subst (Pairwise IsLaterAsk) (sym unused.store) tt;
    further = tt;
  };
}

none_held : (hs : List (Held LinkValue)) (es : List Ended) → hs ≡ [] → es ≡ [] → SameLinks (taken_in hs es) []
none_held hs es held none = subst (λ (x : List (Held LinkValue)). SameLinks (taken_in x es) []) (sym held)
    (subst (λ (x : List Ended). SameLinks (taken_in [] x) []) (sym none) (λ n. ((λ a. a), (λ a. a))))

-- a worker that was just made
pub ready_first : (demi : Whole) (number : ℕ) (caller : Caller) (numbers : List ℕ) (links room : ℕ) (s : SchedulerValue LinkValue) (w : Worker ContextValue)
    → IsUnused demi number caller → IsEmpty links room s → Differ numbers → length numbers ≤ room
    → w.context ≡ first_context demi number caller → w.scheduler ≡ s → w.number ≡ number → w.ended.items ≡ []
    → Stands (ports_of w.context) (sight_of w.context) w.scheduler w.ended.items → IsReady w.context.demi w.number w.context.caller numbers w
ready_first demi number caller numbers links room s w unused empty differ few context scheduler same none stands =
    let held = ap (λ (x : SchedulerValue LinkValue). x.held) scheduler ∙ empty.held in
    record {
      none = record {
        demi_is = refl;
        number_is = ap (λ (c : ContextValue). c.number) context ∙ sym same;
        same_number = refl;
        memory = refl;
        stands = stands;
        links = none_held w.scheduler.held w.ended.items held none;
        count = let h = ap length held in let e = ap length none in omega (arith, h, e);
        new = λ link out. subst (λ (n : ℕ). IsNew n (sight_of w.context link) link) (sym same)
            (subst (λ (c : ContextValue). IsNew number (sight_of c link) link) (sym context) (new_for demi number caller link unused));
      };
      differ = differ;
      room = let r = ap (λ (x : SchedulerValue LinkValue). x.room) scheduler in let e = empty.room in omega (arith, few, r, e);
    }

-- what a worker took in, said by other names
pub taken_by : (d demi : Whole) (n number : ℕ) (c caller : Caller) (ns : List ℕ) (w : Worker ContextValue) → d ≡ demi → n ≡ number → c ≡ caller → HasTaken d n c ns w → HasTaken demi number caller ns w
taken_by d demi n number c caller ns w demi_is number_is caller_is t =
    subst (λ (x : Whole). HasTaken x number caller ns w) demi_is
    (subst (λ (x : ℕ). HasTaken d x caller ns w) number_is
    (subst (λ (x : Caller). HasTaken d n x ns w) caller_is t))

-- What a worker has for its only link before it serves it, and afterwards.
use Rattle.std.proofs.Common.{◌≡◌, ◌≢◌, ◌⊎◌, ◌∙◌, ℕ, zero, suc, ◌<◌, List, [], ◌∷◌, length, refl, sym, ap, subst, inl, inr, arith}
use Rattle.std.specs.List.{AllByRecursion}
use Rattle.demi_heap.specs.Seen.{HeapId}
use Rattle.demi_port.specs.Seen.{PassValue, PortId}
use Rattle.demi_port_core.specs.History.{Among, Each}
use Rattle.demi_port_core.proofs.Lists.{each_front}
use Rattle.demi_sched.specs.Going.{Differ, GoesWithin}
use Rattle.demi_sched.specs.declared.held.Held.{Held}
use Rattle.demi_sched.proofs.Names.{stays_by}
use Rattle.demi_served.specs.Alone.{AsksAll}
use Rattle.demi_served.specs.Keeps.{IsLaterAsk, IsOfDraw}
use Rattle.demi_served.specs.Served.{Pairwise}
use Rattle.demi_link.specs.Ends.{IsKnown}
use Rattle.demi_link.specs.Linked.{LinkValue}
use Rattle.demi_link.specs.Sights.{nothing_due, worker_of}
use Rattle.demi_pdpix.specs.Owing.{Owes}
use Rattle.demi_pdpix.specs.Seen.{AreNewAt, IsNewCaller}
use Rattle.demi_worker.specs.Ending.{IsNew, IsServed, OwesNothing}
use Rattle.demi_worker.specs.Standing.{HasEnd, HasPaid, HasStopped, SameLinks, Stands, ended_links, held_links, taken_in}
use Rattle.demi_worker.specs.Stopping.{IsLeft}
use Rattle.demi_worker.specs.declared.ended.Ended.{Ended}
use Rattle.demi_worker.specs.declared.worker.Worker.{Worker}
use Rattle.demi_worker.proofs.Leaving.{new_beside}
use Rattle.demi_worker.proofs.Links.{others_of}
use Rattle.demi_context.specs.ContextLedgers.{due_of, no_ledger}
use Rattle.demi_context.specs.ContextPorts.{Caller, Whole, side_at}
use Rattle.demi_context.specs.ContextSights.{ContextValue, Goes, ports_of, sight_of}
use Rattle.demi_server.specs.Hands.{ServedLink}
use Rattle.demi_server.specs.Staging.{IsUnused, MayTakeIn, TookIn}

is_first : (n : ℕ) → Among n (0 ∷ []) → n ≡ 0
is_first n (inl e) = e
is_first n (inr a) = absurd a

-- ends of the link 0 alone, where no link ended twice
pub only_end : (es : List Ended) → SameLinks (ended_links es) (0 ∷ []) → Differ (ended_links es) → (e : Ended) × (es ≡ e ∷ []) × (e.link ≡ 0)
only_end [] same once = absurd ((same 0).1 (inl refl))
only_end (e ∷ []) same once = (e, refl, is_first e.link ((same e.link).0 (inl refl)))
only_end (e ∷ x ∷ es) same once = absurd (once.0.0 (is_first x.link ((same x.link).0 (inr (inl refl))) ∙ sym (is_first e.link ((same e.link).0 (inl refl)))))

-- a pass of a new caller submitted nothing
none_at : {D T : Type 0} (n : ℕ) (ps : List (PassValue D T HeapId)) (xs : List (PortId HeapId)) (k : ℕ) → AreNewAt n ps xs → (side_at ps k).submitted ≡ []
none_at n [] xs k are = refl
none_at n (p ∷ ps) [] k are = absurd are
none_at n (p ∷ ps) (x ∷ xs) zero are = ap (λ (q : PassValue _ _ _). q.submitted) are.0
none_at n (p ∷ ps) (x ∷ xs) (suc k) are = none_at n ps xs k are.1

abbrev pub first_context : Whole → ℕ → Caller → ContextValue
first_context demi number caller = record { demi = demi; caller = caller; number = number; ledger = no_ledger; seen = []; begun = 0 }

-- a new caller's worker did nothing for any link
pub new_for : (demi : Whole) (number : ℕ) (caller : Caller) (link : ℕ) → IsNewCaller demi number caller → IsNew number (sight_of (first_context demi number caller) link) link
new_for demi number caller link new =
    let none = ap (λ (p : PassValue _ _ _). p.submitted) new.service in
    record {
      fresh = record {
        draws = tt;
        pops = none_at number caller.rx demi.rx link new.rx;
        pushes = none_at number caller.tx demi.tx link new.tx;
        out = refl;
        due = refl;
      };
      number = refl;
      worker = record {
        asks = subst (AllByRecursion (IsOfDraw [])) (sym none) tt;
        rises = subst (Pairwise IsLaterAsk) (sym none) tt;
        further = tt;
      };
    }

-- by any steps a context stays with its whole and its number
whole_stays : (names : List ℕ) (a b : ContextValue) → GoesWithin Goes names a b → (b.demi ≡ a.demi) × (b.number ≡ a.number)
whole_stays names a b g = stays_by Goes (λ (x : ContextValue). (x.demi ≡ a.demi) × (x.number ≡ a.number)) (λ n x y p step. (step.demi ∙ p.0, step.number ∙ p.1)) g.0 a b g.2 (refl, refl)

-- The worker of an only link, before it takes it in, then, and when it has served it.
module _ (demi : Whole) (number : ℕ) (a : Worker ContextValue) (unused : IsUnused demi number a) where
  new_at_first : (link : ℕ) → IsNew a.number (sight_of a.context link) link
  new_at_first link =
      subst (λ (n : ℕ). IsNew n (sight_of a.context link) link) (sym unused.number_is)
      (subst (λ (c : ContextValue). IsNew number (sight_of c link) link) (sym unused.context) (new_for demi number a.context.caller link unused.new))

  none_in : (n : ℕ) → Among n (taken_in a.scheduler.held a.ended.items) → ⊥
  none_in n among =
      let none_held = subst (λ (hs : List (Held LinkValue)). Among n (taken_in hs a.ended.items)) unused.held among in
      subst (λ (es : List Ended). Among n (taken_in [] es)) unused.none none_held

  pub may_take : MayTakeIn 0 a
  may_take = record {
    stands = unused.stands;
    other = none_in 0;
    room = let h = ap length unused.held in let e = ap length unused.none in let r = unused.room in omega (arith, h, e, r);
    new = new_at_first 0;
  }

  -- it took the link in
  module _ (m : Worker ContextValue) (took : TookIn 0 a m) where
    only_in : (n : ℕ) → Among n (taken_in m.scheduler.held m.ended.items) → n ≡ 0
    only_in n among = is ((took.links n).0 among)
      where
        is : (n ≡ 0) ⊎ Among n (taken_in a.scheduler.held a.ended.items) → n ≡ 0
        is (inl e) = e
        is (inr b) = absurd (none_in n b)

    none_else : (link : ℕ) → link ≢ 0 → Each (λ n. n ≢ link) (held_links m.scheduler.held)
    none_else link other = each_front (λ n. n ≢ link) (held_links m.scheduler.held) (ended_links m.ended.items) (others_of link (taken_in m.scheduler.held m.ended.items) (λ among. other (only_in link among)))

    still_new : (link : ℕ) → link ≢ 0 → IsNew m.number (sight_of m.context link) link
    still_new link other =
        subst (λ (n : ℕ). IsNew n (sight_of m.context link) link) (sym took.number)
        (new_beside a.number link (sight_of a.context link) (sight_of m.context link) (new_at_first link) (took.others link ((λ e. other (sym e)), tt)))

    -- and served it
    module _ (z : Worker ContextValue) (stands : Stands (ports_of z.context) (sight_of z.context) z.scheduler z.ended.items)
        (links : SameLinks (ended_links z.ended.items) (taken_in m.scheduler.held m.ended.items))
        (owes : Each (HasPaid (sight_of z.context)) z.ended.items)
        (way : GoesWithin Goes (held_links m.scheduler.held) m.context z.context)
        (fresh : (link : ℕ) → Each (λ n. n ≢ link) (held_links m.scheduler.held) → IsNew m.number (sight_of m.context link) link → IsNew m.number (sight_of z.context link) link) where
      all_links : SameLinks (ended_links z.ended.items) (0 ∷ [])
      all_links = λ n. ((λ among. inl (only_in n ((links n).0 among))), (λ among. (links n).1 ((took.links n).1 (inl (is_first n among)))))

      pub the_end : (e : Ended) × (z.ended.items ≡ e ∷ []) × (e.link ≡ 0)
      the_end = only_end z.ended.items all_links stands.once

      pub same_demi : z.context.demi ≡ demi
      same_demi = (whole_stays (held_links m.scheduler.held) m.context z.context way).0 ∙ took.goes.demi ∙ ap (λ (c : ContextValue). c.demi) unused.context

      pub number_stays : z.context.number ≡ number
      number_stays = (whole_stays (held_links m.scheduler.held) m.context z.context way).1 ∙ took.goes.number ∙ ap (λ (c : ContextValue). c.number) unused.context

      -- where it was not lost
      module _ (known : IsKnown the_end.0.cause) where
        paid : OwesNothing (sight_of z.context 0)
        paid =
            let each = subst (Each (HasPaid (sight_of z.context))) the_end.1 owes in
            subst (λ (l : ℕ). OwesNothing (sight_of z.context l)) the_end.2 (each.0 known)

        pub nothing_due_below : (link : ℕ) → link < length z.context.demi.rx → due_of z.context.ledger link ≡ nothing_due
        nothing_due_below link low =
            let one = ap (λ (d : Whole). length d.rx) same_demi ∙ unused.one.0 in
            let is : link ≡ 0 = omega (arith, low, one) in
            ap (due_of z.context.ledger) is ∙ paid.due

        pub served_link : AsksAll (worker_of (sight_of z.context 0)) → Owes z.context.demi z.context.number [] z.context.caller → ServedLink demi number z.context.caller z.ended.items
        served_link asks calm = record {
          context = z.context;
          demi_is = same_demi;
          caller_is = refl;
          number_is = number_stays;
          end = the_end.0;
          only = the_end.1;
          link = the_end.2;
          known = known;
          served = subst (λ (l : ℕ). IsServed (ports_of z.context) l the_end.0.cause the_end.0.talk.value the_end.0.had.value) the_end.2 (subst (Each (HasEnd (ports_of z.context))) the_end.1 stands.served).0;
          left = subst (λ (l : ℕ). IsLeft l the_end.0.had.value (sight_of z.context l)) the_end.2 (subst (Each (HasStopped (sight_of z.context))) the_end.1 stands.stopped).0;
          paid = paid;
          others = λ link other. (fresh link (none_else link other) (still_new link other)).fresh.draws;
          asks = asks;
          owes = subst (λ (n : ℕ). Owes demi n [] z.context.caller) number_stays (subst (λ (d : Whole). Owes d z.context.number [] z.context.caller) same_demi calm);
        }

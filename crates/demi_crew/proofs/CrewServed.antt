-- A worker that served the links that it took in.
use Rattle.std.proofs.Common.{◌≡◌, ◌≢◌, ◌∙◌, ◌⊎◌, ℕ, List, [], ◌∷◌, refl, sym, subst, inl, inr}
use Rattle.demi_port_core.specs.History.{Among, Each}
use Rattle.demi_port_core.proofs.Lists.{each_front}
use Rattle.demi_sched.specs.Going.{GoesWithin}
use Rattle.demi_sched.proofs.Names.{stays_by}
use Rattle.demi_served.specs.Alone.{AsksAll}
use Rattle.demi_served.specs.Keeps.{WorkerKeeps}
use Rattle.demi_link.specs.Ends.{IsKnown}
use Rattle.demi_link.specs.Sights.{Sight, nothing_due, worker_of}
use Rattle.demi_pdpix.specs.Owing.{Owes}
use Rattle.demi_worker.specs.Ending.{IsNew, OwesNothing}
use Rattle.demi_worker.specs.Standing.{HasKept, HasPaid, SameLinks, Stands, ended_links, held_links, taken_in}
use Rattle.demi_worker.specs.declared.ended.Ended.{Ended}
use Rattle.demi_worker.specs.declared.worker.Worker.{Worker}
use Rattle.demi_worker.proofs.Links.{others_of, same_on}
use Rattle.demi_context.specs.ContextLedgers.{due_of}
use Rattle.demi_context.specs.ContextPorts.{Caller, SameMemory, Whole}
use Rattle.demi_context.specs.ContextSights.{ContextValue, Goes, ports_of, sight_of, worker_at}
use Rattle.demi_crew.specs.Serving.{ServedLinks}
use Rattle.demi_crew.specs.Taking.{HasTaken}
use native.Mathlib.Decide.{ℕ_discrete}
use mathlib.Core.Logic.{dite}

-- a number stands in a list or does not
is_among : (n : ℕ) (xs : List ℕ) → Among n xs ⊎ (Among n xs → ⊥)
is_among n [] = inr (λ a. a)
is_among n (x ∷ xs) = dite (ℕ_discrete n x) (λ e. inl (inl e)) (λ other. later other (is_among n xs))
  where
    neither : n ≢ x → (Among n xs → ⊥) → Among n (x ∷ xs) → ⊥
    neither other none (inl e) = other e
    neither other none (inr a) = none a

    later : n ≢ x → Among n xs ⊎ (Among n xs → ⊥) → Among n (x ∷ xs) ⊎ (Among n (x ∷ xs) → ⊥)
    later other (inl a) = inl (inr a)
    later other (inr none) = inr (neither other none)

all_paid : (sight : ℕ → Sight) (es : List Ended) → Each (HasPaid sight) es → Each (λ (e : Ended). IsKnown e.cause) es → Each (λ (e : Ended). OwesNothing (sight e.link)) es
all_paid sight [] owes known = tt
all_paid sight (e ∷ es) owes known = (owes.0 known.0, all_paid sight es owes.1 known.1)

paid_at : (sight : ℕ → Sight) (link : ℕ) (es : List Ended) → Each (λ (e : Ended). OwesNothing (sight e.link)) es → Among link (ended_links es) → OwesNothing (sight link)
paid_at sight link [] paid among = absurd among
paid_at sight link (e ∷ es) paid (inl is) = subst (λ (l : ℕ). OwesNothing (sight l)) (sym is) paid.0
paid_at sight link (e ∷ es) paid (inr a) = paid_at sight link es paid.1 a

-- the worker keeps its own where one link ended, and where none did and it did nothing
kept_own : (c : ContextValue) (es : List Ended) → Each (HasKept (sight_of c)) es → (es ≡ [] → WorkerKeeps (worker_at c.caller c.ledger)) → WorkerKeeps (worker_at c.caller c.ledger)
kept_own c [] kept none = none refl
kept_own c (e ∷ es) kept none = kept.0.1

-- by any steps a context stays with its whole and its number, and does nothing at the port of the memory queues
pub way_keeps : (names : List ℕ) (a b : ContextValue) → GoesWithin Goes names a b → (b.demi ≡ a.demi) × (b.number ≡ a.number) × SameMemory a.caller b.caller
way_keeps names a b g = stays_by Goes (λ (x : ContextValue). (x.demi ≡ a.demi) × (x.number ≡ a.number) × SameMemory a.caller x.caller)
    (λ n x y p step. (step.demi ∙ p.0, step.number ∙ p.1, step.memory ∙ p.2)) g.0 a b g.2 (refl, refl, refl)

-- The worker took these in and served them.
module _ (demi : Whole) (number : ℕ) (caller : Caller) (numbers : List ℕ) (m z : Worker ContextValue) (t : HasTaken demi number caller numbers m)
    (stands : Stands (ports_of z.context) (sight_of z.context) z.scheduler z.ended.items)
    (links : SameLinks (ended_links z.ended.items) (taken_in m.scheduler.held m.ended.items))
    (kept : Each (HasKept (sight_of z.context)) z.ended.items)
    (owes : Each (HasPaid (sight_of z.context)) z.ended.items)
    (way : GoesWithin Goes (held_links m.scheduler.held) m.context z.context)
    (fresh : (link : ℕ) → Each (λ n. n ≢ link) (held_links m.scheduler.held) → IsNew m.number (sight_of m.context link) link → IsNew m.number (sight_of z.context link) link)
    (known : Each (λ (e : Ended). IsKnown e.cause) z.ended.items) where
  all_links : SameLinks (ended_links z.ended.items) numbers
  all_links = same_on (ended_links z.ended.items) (taken_in m.scheduler.held m.ended.items) numbers links t.links

  new_beside_them : (link : ℕ) → (Among link numbers → ⊥) → IsNew number (sight_of z.context link) link
  new_beside_them link out =
      let none = each_front (λ n. n ≢ link) (held_links m.scheduler.held) (ended_links m.ended.items)
      (others_of link (taken_in m.scheduler.held m.ended.items) (λ among. out ((t.links link).0 among))) in
      subst (λ (n : ℕ). IsNew n (sight_of z.context link) link) t.same_number
      (fresh link none (subst (λ (n : ℕ). IsNew n (sight_of m.context link) link) (sym t.same_number) (t.new link out)))

  same_demi : z.context.demi ≡ demi
  same_demi = (way_keeps (held_links m.scheduler.held) m.context z.context way).0 ∙ t.demi_is

  number_stays : z.context.number ≡ number
  number_stays = (way_keeps (held_links m.scheduler.held) m.context z.context way).1 ∙ t.number_is

  paid : Each (λ (e : Ended). OwesNothing (sight_of z.context e.link)) z.ended.items
  paid = all_paid (sight_of z.context) z.ended.items owes known

  due_by : (link : ℕ) → Among link numbers ⊎ (Among link numbers → ⊥) → due_of z.context.ledger link ≡ nothing_due
  due_by link (inl among) = (paid_at (sight_of z.context) link z.ended.items paid ((all_links link).1 among)).due
  due_by link (inr out) = (new_beside_them link out).fresh.due

  pub none_due : (link : ℕ) → due_of z.context.ledger link ≡ nothing_due
  none_due link = due_by link (is_among link numbers)

  none_ended : z.ended.items ≡ [] → Among 0 numbers → ⊥
  none_ended none among = subst (λ (es : List Ended). Among 0 (ended_links es)) none ((all_links 0).1 among)

  keeps_own : WorkerKeeps (worker_at z.context.caller z.context.ledger)
  keeps_own = kept_own z.context z.ended.items kept (λ none. (new_beside_them 0 (none_ended none)).worker)

  pub served_links : AsksAll (worker_of (sight_of z.context 0)) → Owes z.context.demi z.context.number [] z.context.caller → ServedLinks demi number numbers z.context.caller z.ended.items
  served_links asks calm = record {
    context = z.context;
    demi_is = same_demi;
    caller_is = refl;
    number_is = number_stays;
    links = all_links;
    once = stands.once;
    known = known;
    served = stands.served;
    left = stands.stopped;
    paid = paid;
    others = new_beside_them;
    asks = asks;
    keeps = keeps_own;
    owes = subst (λ (n : ℕ). Owes demi n [] z.context.caller) number_stays (subst (λ (d : Whole). Owes d z.context.number [] z.context.caller) same_demi calm);
  }

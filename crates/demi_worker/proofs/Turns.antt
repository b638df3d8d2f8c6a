-- A worker's turns after each other.
use Rattle.std.specs.Prelude.{◌≡◌, ◌++◌, ℕ, List, refl}
use Rattle.std.proofs.Common.{◌∙◌, ap, subst, sym}
use Rattle.demi_port_core.specs.History.{Within}
use Rattle.demi_sched.specs.Going.{GoesWithin}
use Rattle.demi_sched.specs.Holding.{SchedulerValue}
use Rattle.demi_sched.proofs.Names.{within_on}
use Rattle.demi_link.specs.Linked.{LinkValue}
use Rattle.demi_worker.specs.Standing.{SameLinks, ended_links, held_links, taken_in}
use Rattle.demi_worker.specs.Turns.{WentOn}
use Rattle.demi_worker.specs.declared.ended.Ended.{Ended}
use Rattle.demi_worker.proofs.Links.{same_on, same_self, starts_on, starts_self}
use Rattle.demi_worker.proofs.Ways.{by_all, wider}

module _ {C : Type 0} (goes : ℕ → C → C → Type 0) where
  pub went_self : ((n : ℕ) (a : C) → goes n a a) → (a : C) (s : SchedulerValue LinkValue) (es : List Ended) → WentOn goes a a s s es es
  went_self self a s es = record {
    within = λ n h. h;
    links = same_self (taken_in s.held es);
    front = starts_self es;
    same = refl;
    way = by_all goes (held_links s.held) a a (λ n. self n a);
  }

  pub went_on : ((n : ℕ) (a b c : C) → goes n a b → goes n b c → goes n a c) → (a b c : C) (s t u : SchedulerValue LinkValue) (es fs gs : List Ended) → WentOn goes a b s t es fs → WentOn goes b c t u fs gs → WentOn goes a c s u es gs
  went_on on a b c s t u es fs gs f g = record {
    within = λ n h. f.within n (g.within n h);
    links = same_on (taken_in u.held gs) (taken_in t.held fs) (taken_in s.held es) g.links f.links;
    front = starts_on es fs gs f.front g.front;
    same = g.same ∙ ap (λ (v : SchedulerValue LinkValue). record v { held = u.held }) f.same;
    way = within_on goes on (held_links s.held) a b c f.way (wider goes (held_links t.held) (held_links s.held) b c f.within g.way);
  }

  -- a round, after which the same links are held
  pub went_round : (a b : C) (s t : SchedulerValue LinkValue) (es fs : List Ended) → held_links t.held ≡ held_links s.held → t ≡ record s { held = t.held } → fs ≡ es → GoesWithin goes (held_links s.held) a b → WentOn goes a b s t es fs
  went_round a b s t es fs names same ended way = subst (λ (l : List Ended). WentOn goes a b s t es l) (sym ended) (record {
    within = subst (λ ns. Within ns (held_links s.held)) (sym names) (λ n h. h);
    links = subst (λ ns. SameLinks (ns ++ ended_links es) (taken_in s.held es)) (sym names) (same_self (taken_in s.held es));
    front = starts_self es;
    same = same;
    way = way;
  })

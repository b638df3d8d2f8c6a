-- Coroutines that are added by rising names.
use Rattle.std.specs.Prelude.{◌≡◌, ◌≢◌, ℕ, ◌+◌, ◌<◌, List, [], ◌∷◌, ◌++◌, Result, Ok, Err, OnOk, IfErr}
use Rattle.std.proofs.Common.{arith, sym, subst}
use Rattle.demi_port_core.specs.History.{Each}
use Rattle.demi_port_core.proofs.Lists.{each_append, each_more}
use Rattle.demi_sched.specs.Going.{names_of}
use Rattle.demi_sched.specs.Holding.{SchedulerValue}
use Rattle.demi_sched.specs.declared.held.Held.{Held}
use Rattle.demi_sched.specs.declared.state.State.TheVariants.{Due}
use Rattle.demi_sched.proofs.Names.{names_join}

-- none of lower names is this one
pub other : (m : ℕ) (ns : List ℕ) → Each (λ n. n < m) ns → Each (λ n. n ≢ m) ns
other m ns e = each_more (λ n. n < m) (λ n. n ≢ m) ns (λ n h s. (omega arith)) e

-- after an add all names are below the next one
pub counted : {K : Type 0} (name : K → ℕ) (r : Result ℕ K) (new old : SchedulerValue K) (k : K) (m : ℕ) → name k ≡ m
    → OnOk r (new ≡ record old {
      added = old.added + 1;
      held = old.held ++ record { number = old.added; coroutine = k; state = Due } ∷ [];
    })
    → IfErr r (λ (x : K). (x ≡ k) × (new ≡ old)) → Each (λ n. n < m) (names_of name old.held)
    → Each (λ n. n < m + 1) (names_of name new.held)
counted {K = K} name r new old k m is o b e = go r o b
  where
    wider : Each (λ n. n < m + 1) (names_of name old.held)
    wider = each_more (λ n. n < m) (λ n. n < m + 1) (names_of name old.held) (λ n h. omega arith) e

    come : Held K
    come = record { number = old.added; coroutine = k; state = Due }

    go : (q : Result ℕ K) → OnOk q (new ≡ record old { added = old.added + 1; held = old.held ++ come ∷ [] })
        → IfErr q (λ (x : K). (x ≡ k) × (new ≡ old)) → Each (λ n. n < m + 1) (names_of name new.held)
    go (Ok n) h g =
        subst (λ (v : SchedulerValue K). Each (λ n. n < m + 1) (names_of name v.held)) (sym h)
        (subst (Each (λ n. n < m + 1)) (sym (names_join name old.held (come ∷ [])))
        (each_append (λ n. n < m + 1) (names_of name old.held) (name k ∷ []) wider (omega arith, tt)))
    go (Err x) h g = subst (λ (v : SchedulerValue K). Each (λ n. n < m + 1) (names_of name v.held)) (sym g.1) wider

-- What is so at last of a link that was served.
use Rattle.std.specs.Prelude.{◌⊎◌, ℕ, List, [], ◌∷◌, refl}
use Rattle.std.proofs.Common.{sym, ◌∙◌, subst, inl, inr}
use Rattle.demi_port_core.specs.History.{Each}
use Rattle.demi_served.specs.Keeps.{LinkKeeps, WorkerKeeps}
use Rattle.demi_served.proofs.Stepping.{link_beside}
use Rattle.demi_store.specs.Laws.{StoreBasis}
use Rattle.demi_link.specs.Ends.{IsKnown, new_desk}
use Rattle.demi_link.specs.Fitting.{Fits}
use Rattle.demi_link.specs.Sights.{Sight, worker_of}
use Rattle.demi_link.specs.Talks.{TalkValue, new_talk}
use Rattle.demi_link.specs.declared.phase.Cause.{Cause}
use Rattle.demi_link.specs.declared.phase.Cause.TheVariants.{NoMemory}
use Rattle.demi_link.specs.declared.phase.Phase.TheVariants.{Over, Reading}
use Rattle.demi_link.proofs.Ended.{none_due, none_out}
use Rattle.demi_worker.specs.Ending.{IsServed, NeverBegan, OwesNothing}
use Rattle.demi_worker.specs.Standing.{HasEnd, HasKept, HasPaid, HasStopped}
use Rattle.demi_worker.specs.Stopping.{IsLeft}
use Rattle.demi_worker.specs.declared.ended.Ended.{Ended}

module _ (ports number : ℕ) (cause : Cause) (did : TalkValue) (had : Sight) (v : IsServed ports number cause did had) where
  kept_then : Fits ports had v.desk (Over cause) ⊎ NeverBegan ports had v.desk cause → LinkKeeps had.base (worker_of had) v.desk.link v.desk.talk.kept
  kept_then (inl f) = f.keeps.kept
  kept_then (inr b) = b.fits.keeps.kept

  worker_then : Fits ports had v.desk (Over cause) ⊎ NeverBegan ports had v.desk cause → WorkerKeeps (worker_of had)
  worker_then (inl f) = f.worker
  worker_then (inr b) = b.fits.worker

  owes_then : Fits ports had v.desk (Over cause) ⊎ NeverBegan ports had v.desk cause → IsKnown cause → OwesNothing had
  owes_then (inl f) known = record { out = none_out ports had v.desk cause f known; due = none_due ports had v.desk cause f known }
  owes_then (inr b) known = record { out = b.fits.agrees.4; due = b.fits.agrees.5 }

  module _ (s : Sight) (l : IsLeft number had s) where
    pub served_keeps : LinkKeeps s.base (worker_of s) number did.kept
    served_keeps =
        let then = subst (λ (k : TalkValue). LinkKeeps had.base (worker_of had) number k.kept) v.talk
        (subst (λ (n : ℕ). LinkKeeps had.base (worker_of had) n v.desk.talk.kept) v.link (kept_then v.over)) in
        subst (λ (b : StoreBasis). LinkKeeps b (worker_of s) number did.kept) (sym l.beside.base) (link_beside had.base (worker_of had) (worker_of s) number did.kept then l.beside.worker)

    pub served_worker : WorkerKeeps (worker_of s)
    served_worker = l.beside.keeps (worker_then v.over)

    pub served_owes : IsKnown cause → OwesNothing s
    served_owes known = let o = owes_then v.over known in record { out = l.beside.out ∙ o.out; due = l.beside.due ∙ o.due }

pub never_began : (ports link worker : ℕ) (s : Sight) → Fits ports s (new_desk link worker) Reading → IsServed ports link NoMemory (new_talk worker) s
never_began ports link worker s f = record { desk = new_desk link worker; link = refl; talk = refl; over = inr (record { cause = refl; desk = refl; fits = f }) }

pub all_paid : (ports : ℕ) (sight : ℕ → Sight) (es : List Ended) → Each (HasEnd ports) es → Each (HasStopped sight) es → Each (HasPaid sight) es
all_paid ports sight [] v l = tt
all_paid ports sight (e ∷ es) v l = (served_owes ports e.link e.cause e.talk.value e.had.value v.0 (sight e.link) l.0, all_paid ports sight es v.1 l.1)

pub all_kept : (ports : ℕ) (sight : ℕ → Sight) (es : List Ended) → Each (HasEnd ports) es → Each (HasStopped sight) es → Each (HasKept sight) es
all_kept ports sight [] v l = tt
all_kept ports sight (e ∷ es) v l =
    let s = sight e.link in
    ((served_keeps ports e.link e.cause e.talk.value e.had.value v.0 s l.0, served_worker ports e.link e.cause e.talk.value e.had.value v.0 s l.0), all_kept ports sight es v.1 l.1)

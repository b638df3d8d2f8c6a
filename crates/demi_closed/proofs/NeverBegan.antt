-- A link that was served until it was over, or never began.
use Rattle.std.proofs.Common.{◌≡◌, ℕ, ◌+◌, ◌≤◌, List, [], Some, length, refl, arith, ◌∙◌, ap, sym, subst, inl, inr}
use Rattle.std.specs.Prelude.{slice_get}
use Rattle.demi_heap.specs.Seen.{HalfValue}
use Rattle.demi_port_core.specs.History.{Among}
use Rattle.demi_port_core.specs.Trails.{StartsWith}
use Rattle.demi_port_core.specs.declared.trail.Trail.{Trail}
use Rattle.demi_spec.specs.Input.{Asked}
use Rattle.demi_streamq.specs.declared.rx_op.RxOp.{RxOp}
use Rattle.demi_streamq.specs.declared.rx_op.RxOp.TheVariants as rx_op
use Rattle.demi_streamq.specs.declared.rx_out.RxOut.{RxOut}
use Rattle.demi_streamq.specs.declared.rx_told.RxTold.{RxTold}
use Rattle.demi_streamq.specs.declared.tx_op.TxOp.{TxOp}
use Rattle.demi_streamq.specs.declared.tx_op.TxOp.TheVariants as tx_op
use Rattle.demi_served.specs.Keeps.{WorkerKeeps}
use Rattle.demi_served.specs.Reading.{Popped}
use Rattle.demi_served.specs.Writing.{WroteBefore}
use Rattle.demi_link.specs.Ends.{IsDone}
use Rattle.demi_link.specs.Fitting.{Fits, Keeps, places}
use Rattle.demi_link.specs.Sights.{Sight, worker_of}
use Rattle.demi_link.specs.Talks.{DeskValue}
use Rattle.demi_link.specs.declared.phase.Cause.{Cause}
use Rattle.demi_link.specs.declared.phase.Phase.TheVariants.{Over}
use Rattle.demi_worker.specs.Ending.{NeverBegan}
use Rattle.demi_closed.specs.LinkClosed.{WasServed}

module _ (ports : ℕ) (s : Sight) (d : DeskValue) (c : Cause) where
  -- what is so in both cases
  pub settle : {P : Type 0} → (Fits ports s d (Over c) → P) → (NeverBegan ports s d c → P) → WasServed ports s d c → P
  settle f g w = elim (w.over) [ inl o ↦ f o | inr n ↦ g n ]

  pub keeps_of : WasServed ports s d c → Keeps s d
  keeps_of w = settle (λ (f : Fits ports s d (Over c)). f.keeps) (λ (n : NeverBegan ports s d c). n.fits.keeps) w

  pub worker_keeps : WasServed ports s d c → WorkerKeeps (worker_of s)
  worker_keeps w = settle (λ (f : Fits ports s d (Over c)). f.worker) (λ (n : NeverBegan ports s d c). n.fits.worker) w

  -- it was over where its input came to an end
  pub over_of : WasServed ports s d c → IsDone c → Fits ports s d (Over c)
  over_of w done = settle (λ (f : Fits ports s d (Over c)). f) (λ (n : NeverBegan ports s d c). absurd (subst IsDone n.cause done)) w

  module _ (n : NeverBegan ports s d c) where
    none_drawn : d.talk.kept.drawn ≡ []
    none_drawn = ap (λ (e : DeskValue). e.talk.kept.drawn) n.desk

    none_came : d.talk.outs ≡ []
    none_came = ap (λ (e : DeskValue). e.talk.outs) n.desk

    none_popped : places s.rx.submitted ≡ []
    none_popped = n.fits.agrees.2 ∙ ap (λ (l : List (ℕ × RxOut)). places l) none_came

    none_pushed : places s.tx.submitted ≡ []
    none_pushed = n.fits.agrees.3 ∙ ap (λ (e : DeskValue). e.talk.written) n.desk

    pub popped_none : (end : Trail RxOp RxTold) → ((i max : ℕ) → slice_get end.heard i ≡ Some (rx_op.Pop max) → Among i (places s.rx.submitted)) → Popped end.heard end.told d.talk.outs
    popped_none end own = subst (λ (l : List (ℕ × RxOut)). Popped end.heard end.told l) (sym none_came) (record {
      rise = tt;
      admitted = tt;
      each = λ p max at. absurd (subst (Among p) none_popped (own p max at));
    })

    pub wrote_none : (end : Trail TxOp ℕ) → ((i : ℕ) (sga : List HalfValue) → slice_get end.heard i ≡ Some (tx_op.Push sga) → Among i (places s.tx.submitted)) → WroteBefore end.heard end.told
    wrote_none end own p q sga next less at later = absurd (subst (Among p) none_pushed (own p sga at))

    pub asked_none : (all : List Asked) → StartsWith all d.talk.kept.drawn
    asked_none all = subst (StartsWith all) (sym none_drawn) (all, refl)

    pub few_none : length d.talk.kept.drawn ≤ length d.talk.kept.replies + 1
    few_none = let e = ap length none_drawn in omega arith

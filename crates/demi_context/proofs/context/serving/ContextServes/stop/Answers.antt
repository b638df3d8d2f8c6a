use Rattle.std.proofs.Common.{ap, refl, subst}
use Rattle.demi_link.specs.Sights.{Side}
use Rattle.demi_worker.specs.Stopping.{IsStopped}
use Rattle.demi_context.specs.ContextSights.{ContextValue, Goes, sight_of}
use Rattle.demi_context.proofs.ContextSteps.{same_dues, sound_same}
use Rattle.demi_context.proofs.ContextStops.{stopped_goes, stopped_link}
use Rattle.demi_context.proofs.context.serving.ContextServes.stop.Goals as goal

pub invariant_of-self : goal.invariant_of-self
invariant_of-self g c =
    let i = c.self.inside in
    let l = i.ledger.value in
    sound_same i.demi.now i.caller c.stop_link.new.caller i.number i.links i.drawn l l c.self.invariant c.stop_link.ensures.of c.stop_link.ensures.owes (ap (λ (s : Side _ _). s.submitted) c.stop_link.ensures.halts.store) refl (same_dues i.links l l refl)

pub returns-clause-stopped : goal.returns-clause-stopped
returns-clause-stopped g c =
    let i = c.self.inside in
    let a : ContextValue = record { demi = i.demi.now; caller = i.caller; number = i.number; ledger = i.ledger.value; seen = i.seen.value; begun = i.begun } in
    let b : ContextValue = record { demi = i.demi.now; caller = c.stop_link.new.caller; number = i.number; ledger = i.ledger.value; seen = i.seen.value; begun = i.begun } in
    subst (λ (v : ContextValue). IsStopped (sight_of v c.args.link) (sight_of b c.args.link)) c.self.view_is (stopped_link a b c.args.link refl refl refl c.stop_link.ensures.halts)

pub returns-clause-goes : goal.returns-clause-goes
returns-clause-goes g c =
    let i = c.self.inside in
    let a : ContextValue = record { demi = i.demi.now; caller = i.caller; number = i.number; ledger = i.ledger.value; seen = i.seen.value; begun = i.begun } in
    let b : ContextValue = record { demi = i.demi.now; caller = c.stop_link.new.caller; number = i.number; ledger = i.ledger.value; seen = i.seen.value; begun = i.begun } in
    subst (λ (v : ContextValue). Goes c.args.link v b) c.self.view_is (stopped_goes a b c.args.link refl refl refl c.stop_link.ensures.halts)

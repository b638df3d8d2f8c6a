use Rattle.std.proofs.Common.{◌∙◌, ◌+◌, ◌*◌, ap, sym}
use Rattle.demi_port.specs.Seen.{PassValue}
use Rattle.demi_pdpix.proofs.Outstanding.{new_owes}
use Rattle.demi_sched.specs.Holding.{SchedulerValue}
use Rattle.demi_link.specs.Linked.{LinkValue}
use Rattle.demi_context.specs.ContextSights.{ContextValue, ports_of}
use Rattle.demi_server.specs.Hands.{Ready}
use Rattle.demi_server.proofs.HandStages.{unused_first}
use Rattle.demi_server.proofs.hand.Hand.make.Goals as goal

pub make-context-requires-clause-owes : goal.make-context-requires-clause-owes
make-context-requires-clause-owes c = new_owes c.args.demi.now c.args.number c.args.caller c.requires.new

pub make-context-requires-clause-new : goal.make-context-requires-clause-new
make-context-requires-clause-new c = ap (λ (p : PassValue _ _ _). p.submitted) c.requires.new.service

pub make-worker-requires-clause-ports : goal.make-worker-requires-clause-ports
make-worker-requires-clause-ports c = ap ports_of c.make-context.ensures ∙ ap (λ n. 3 + 2 * n) c.requires.one.0 ∙ sym (ap (λ (s : SchedulerValue LinkValue). s.ports) c.in-Ok.ensures)

pub invariant_of-result : goal.invariant_of-result
invariant_of-result c =
    let e = c.make-worker.ensures in
    unused_first c.args.demi.now c.args.number c.args.caller c.make-worker.result c.requires.one c.requires.new (e.context ∙ c.make-context.ensures) e.number (e.scheduler ∙ c.in-Ok.ensures) e.ended e.stands

pub returns-in-Ok-clause-made : goal.returns-in-Ok-clause-made
returns-in-Ok-clause-made c =
    ap (λ (x : ContextValue). record { demi = c.args.demi.now; number = c.args.number; stage = Ready x.caller }) (c.make-worker.ensures.context ∙ c.make-context.ensures)

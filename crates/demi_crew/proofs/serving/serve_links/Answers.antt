use Rattle.std.proofs.Common.{◌≡◌, ◌∙◌, ℕ, ◌<◌, [], length, sym, ap, subst}
use Rattle.arrayvec.specs.ArrayVec.{ArrayVec}
use Rattle.demi_port_core.specs.History.{Each}
use Rattle.demi_pdpix.specs.Owing.{Owes}
use Rattle.demi_link.specs.Ends.{IsKnown}
use Rattle.demi_link.specs.Sights.{nothing_due, side_of, worker_of}
use Rattle.demi_served.specs.Alone.{AsksAll}
use Rattle.demi_worker.specs.Standing.{held_links}
use Rattle.demi_worker.specs.declared.ended.Ended.{Ended}
use Rattle.demi_context.specs.ContextLedgers.{due_of}
use Rattle.demi_context.specs.ContextPorts.{Caller}
use Rattle.demi_context.specs.ContextSights.{ContextValue, sight_of}
use Rattle.demi_crew.specs.Serving.{ServedLinks}
use Rattle.demi_crew.proofs.CrewServed.{none_due, served_links, way_keeps}
use Rattle.demi_crew.proofs.TakenIn.{taken_by}
use Rattle.demi_crew.proofs.serving.serve_links.Goals as goal

pub returns-clause-served : goal.returns-clause-served
returns-clause-served g c =
    let demi = c.args.demi.now in let number = c.args.number in let numbers = c.args.numbers.now in
    let first = c.make-worker.result in let m = c.take_in_all.new.worker in let z = c.serve.new.self in let e = c.serve.ensures in
    let context = c.make-worker.ensures.context ∙ c.make-context.ensures in
    let taken = taken_by first.context.demi demi first.number number first.context.caller c.args.caller numbers m
    (ap (λ (x : ContextValue). x.demi) context) c.make-worker.ensures.number (ap (λ (x : ContextValue). x.caller) context) c.take_in_all.ensures in
    let items : c.as_slice.result.now ≡ z.ended.items = c.as_slice.ensures.value ∙ ap (λ (v : ArrayVec Ended). v.items) c.parts-context.ensures.ended in
    let known = subst (Each (λ (x : Ended). IsKnown x.cause)) items c.hold_if_lost.ensures.known in
    let asks = subst (λ (x : ContextValue). AsksAll (worker_of (sight_of x 0))) c.parts-context.ensures.context (c.parts-caller.ensures.asks 0) in
    let none = none_due demi number c.args.caller numbers m z taken e.stands e.links e.kept e.owes e.goes e.fresh known in
    let owes = subst (λ (x : ContextValue). ((link : ℕ) → link < length x.demi.rx → due_of x.ledger link ≡ nothing_due) → Owes x.demi x.number [] c.parts-caller.result) c.parts-context.ensures.context c.parts-caller.ensures.owes (λ link low. none link) in
    let same : c.parts-caller.result ≡ z.context.caller = c.parts-caller.ensures.caller ∙ ap (λ (x : ContextValue). x.caller) c.parts-context.ensures.context in
    let calm = subst (λ (k : Caller). Owes z.context.demi z.context.number [] k) same owes in
    let served = served_links demi number c.args.caller numbers m z taken e.stands e.links e.kept e.owes e.goes e.fresh known asks calm in
    subst (λ (k : Caller). ServedLinks demi number numbers k c.parts-context.result.1.items) (sym (c.hold_if_lost.ensures.caller ∙ same))
    (subst (λ (v : ArrayVec Ended). ServedLinks demi number numbers z.context.caller v.items) (sym c.parts-context.ensures.ended) served)

pub returns-clause-memory : goal.returns-clause-memory
returns-clause-memory g c =
    let first = c.make-worker.result in let m = c.take_in_all.new.worker in let z = c.serve.new.self in
    let same = c.hold_if_lost.ensures.caller ∙ c.parts-caller.ensures.caller ∙ ap (λ (x : ContextValue). x.caller) c.parts-context.ensures.context in
    let context = c.make-worker.ensures.context ∙ c.make-context.ensures in
    ap (λ (k : Caller). side_of k.memory) same
    ∙ (way_keeps (held_links m.scheduler.held) m.context z.context c.serve.ensures.goes).2
    ∙ c.take_in_all.ensures.memory
    ∙ ap (λ (x : ContextValue). side_of x.caller.memory) context

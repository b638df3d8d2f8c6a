use Rattle.std.proofs.Common.{◌≡◌, ◌∙◌, ℕ, ◌<◌, [], length, sym, ap, subst, arith}
use Rattle.arrayvec.specs.ArrayVec.{ArrayVec}
use Rattle.demi_pdpix.specs.Owing.{Owes}
use Rattle.demi_link.specs.Sights.{nothing_due, worker_of}
use Rattle.demi_served.specs.Alone.{AsksAll}
use Rattle.demi_worker.specs.declared.ended.Ended.{Ended}
use Rattle.demi_context.specs.ContextLedgers.{due_of}
use Rattle.demi_context.specs.ContextPorts.{Caller}
use Rattle.demi_context.specs.ContextSights.{ContextValue, sight_of}
use Rattle.demi_server.specs.Hands.{ServedLink}
use Rattle.demi_server.proofs.OnlyServed.{may_take, nothing_due_below, served_link, the_end}
use Rattle.demi_server.proofs.hand.only_link.serve_only_link.Goals as goal

pub take_in_only-requires : goal.take_in_only-requires
take_in_only-requires g c = may_take c.args.demi.now c.args.worker.number c.args.worker c.requires

pub hold_if_lost-requires : goal.hold_if_lost-requires
hold_if_lost-requires g c =
    let e = c.serve.ensures in
    let end = the_end c.args.demi.now c.args.worker.number c.args.worker c.requires c.take_in_only.new.worker c.take_in_only.ensures c.serve.new.self e.stands e.links e.owes e.goes e.fresh in
    let one = ap length (c.as_slice.ensures.value ∙ ap (λ (v : ArrayVec Ended). v.items) c.parts-context.ensures.ended ∙ end.1) in
    omega (arith, one)

pub returns : goal.returns
returns g c =
    let demi = c.args.demi.now in let w = c.args.worker in let number = w.number in
    let m = c.take_in_only.new.worker in let took = c.take_in_only.ensures in let z = c.serve.new.self in let e = c.serve.ensures in
    let end = the_end demi number w c.requires m took z e.stands e.links e.owes e.goes e.fresh in
    let known = c.hold_if_lost.ensures.known end.0 (c.as_slice.ensures.value ∙ ap (λ (v : ArrayVec Ended). v.items) c.parts-context.ensures.ended ∙ end.1) in
    let asks = subst (λ (x : ContextValue). AsksAll (worker_of (sight_of x 0))) c.parts-context.ensures.context (c.parts-caller.ensures.asks 0) in
    let none = nothing_due_below demi number w c.requires m took z e.stands e.links e.owes e.goes e.fresh known in
    let owes = subst (λ (x : ContextValue). ((link : ℕ) → link < length x.demi.rx → due_of x.ledger link ≡ nothing_due) → Owes x.demi x.number [] c.parts-caller.result) c.parts-context.ensures.context c.parts-caller.ensures.owes none in
    let same : c.parts-caller.result ≡ z.context.caller = c.parts-caller.ensures.caller ∙ ap (λ (x : ContextValue). x.caller) c.parts-context.ensures.context in
    let calm = subst (λ (k : Caller). Owes z.context.demi z.context.number [] k) same owes in
    let served = served_link demi number w c.requires m took z e.stands e.links e.owes e.goes e.fresh known asks calm in
    subst (λ (k : Caller). ServedLink demi number k c.parts-context.result.1.items) (sym (c.hold_if_lost.ensures.caller ∙ same))
    (subst (λ (v : ArrayVec Ended). ServedLink demi number z.context.caller v.items) (sym c.parts-context.ensures.ended) served)

use Rattle.std.proofs.Common.{Err, subst, ◌∙◌}
use Rattle.demi_port_core.specs.declared.place.QToken.{QToken}
use Rattle.demi_pdpix.specs.Asks.{IfFull}
use Rattle.demi_pdpix.specs.Calls.{FindsNone}
use Rattle.demi_pdpix.specs.Kinds.{kind_of}
use Rattle.demi_pdpix.specs.declared.refusals.PopRefused.{PopRefused}
use Rattle.demi_context.proofs.ContextSubmits.{no_rx_token, popped}
use Rattle.demi_context.proofs.context.ports.pop_at.Goals as goal

pub returns-in-Ok-clause-others : goal.returns-in-Ok-clause-others
returns-in-Ok-clause-others c = (popped c.args.demi.now c.receiving.result c.args.link c.args.caller.now c.pop.new.caller c.requires.of.rx c.receiving.ensures c.requires.there.0 c.in-Ok.token.token.0 c.in-Ok.ensures.ok.1).0

pub returns-in-Ok-clause-some : goal.returns-in-Ok-clause-some
returns-in-Ok-clause-some c = (c.in-Ok.ensures.ok.0 ∙ c.receiving.ensures, (popped c.args.demi.now c.receiving.result c.args.link c.args.caller.now c.pop.new.caller c.requires.of.rx c.receiving.ensures c.requires.there.0 c.in-Ok.token.token.0 c.in-Ok.ensures.ok.1).1, (popped c.args.demi.now c.receiving.result c.args.link c.args.caller.now c.pop.new.caller c.requires.of.rx c.receiving.ensures c.requires.there.0 c.in-Ok.token.token.0 c.in-Ok.ensures.ok.1).2)

pub returns-in-Err-TokensFull-clause-others : goal.returns-in-Err-TokensFull-clause-others
returns-in-Err-TokensFull-clause-others c = let full = subst (λ (r : PopRefused). IfFull {A = QToken} (Err r) (FindsNone (kind_of c.args.demi.now c.receiving.result) c.args.caller.now c.pop.new.caller)) c.in-Err-TokensFull.field-0-is c.in-Err-TokensFull.ensures.full in (no_rx_token c.args.demi.now c.receiving.result c.args.link c.args.caller.now c.pop.new.caller c.requires.of.rx c.receiving.ensures c.requires.there.0 full).0

pub returns-in-Err-TokensFull-clause-none : goal.returns-in-Err-TokensFull-clause-none
returns-in-Err-TokensFull-clause-none c = let full = subst (λ (r : PopRefused). IfFull {A = QToken} (Err r) (FindsNone (kind_of c.args.demi.now c.receiving.result) c.args.caller.now c.pop.new.caller)) c.in-Err-TokensFull.field-0-is c.in-Err-TokensFull.ensures.full in let n = no_rx_token c.args.demi.now c.receiving.result c.args.link c.args.caller.now c.pop.new.caller c.requires.of.rx c.receiving.ensures c.requires.there.0 full in (n.1, n.2)

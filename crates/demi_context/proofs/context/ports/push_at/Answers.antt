use Rattle.demi_pdpix.specs.Calls.{FindsNone, having_lent, having_rejoined}
use Rattle.std.proofs.Common.{◌≡◌, Err, length, subst}
use Rattle.demi_port_core.specs.declared.place.QToken.{QToken}
use Rattle.demi_sga.specs.Arrays.{LentValue}
use Rattle.demi_pdpix.specs.Asks.{IfNoToken}
use Rattle.demi_pdpix.specs.Kinds.{kind_of}
use Rattle.demi_pdpix.specs.declared.refusals.PushRefused.{PushRefused}
use Rattle.demi_context.proofs.ContextSubmits.{no_tx_token, pushed}
use Rattle.demi_context.proofs.context.ports.push_at.Goals as goal

pub returns-in-Ok-clause-others : goal.returns-in-Ok-clause-others
returns-in-Ok-clause-others c = (pushed c.args.demi.now c.sending.result c.args.link (having_lent c.args.caller.now (length c.args.sga)) c.push.new.caller c.requires.of.tx c.sending.ensures c.requires.there.0 c.in-Ok.pushed.0.token.0 c.args.sga c.in-Ok.ensures.ok.2).0

pub returns-in-Ok-clause-ok : goal.returns-in-Ok-clause-ok
returns-in-Ok-clause-ok c = let p = pushed c.args.demi.now c.sending.result c.args.link (having_lent c.args.caller.now (length c.args.sga)) c.push.new.caller c.requires.of.tx c.sending.ensures c.requires.there.0 c.in-Ok.pushed.0.token.0 c.args.sga c.in-Ok.ensures.ok.2 in (p.1, p.2)

pub returns-in-Err-TokensFull-clause-others : goal.returns-in-Err-TokensFull-clause-others
returns-in-Err-TokensFull-clause-others c = let full = subst (λ (r : PushRefused). IfNoToken {A = QToken × LentValue} (Err r) (λ a. (a ≡ c.args.sga) × FindsNone (kind_of c.args.demi.now c.sending.result) (having_rejoined c.args.caller.now (length c.args.sga)) c.push.new.caller)) c.in-Err-TokensFull.field-0-is c.in-Err-TokensFull.ensures.full in (no_tx_token c.args.demi.now c.sending.result c.args.link (having_rejoined c.args.caller.now (length c.args.sga)) c.push.new.caller c.requires.of.tx c.sending.ensures c.requires.there.0 full.1).0

pub returns-in-Err-TokensFull-clause-err : goal.returns-in-Err-TokensFull-clause-err
returns-in-Err-TokensFull-clause-err c = let full = subst (λ (r : PushRefused). IfNoToken {A = QToken × LentValue} (Err r) (λ a. (a ≡ c.args.sga) × FindsNone (kind_of c.args.demi.now c.sending.result) (having_rejoined c.args.caller.now (length c.args.sga)) c.push.new.caller)) c.in-Err-TokensFull.field-0-is c.in-Err-TokensFull.ensures.full in let n = no_tx_token c.args.demi.now c.sending.result c.args.link (having_rejoined c.args.caller.now (length c.args.sga)) c.push.new.caller c.requires.of.tx c.sending.ensures c.requires.there.0 full.1 in (full.0, n.1, n.2)

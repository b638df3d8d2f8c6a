use Rattle.std.proofs.Common.{◌<◌, length, subst, ◌∙◌, arith}
use Rattle.demi_pdpix.specs.Tries.{TriedAt}
use Rattle.demi_pdpix.specs.declared.kind.PortKind.{PortKind}
use Rattle.demi_pdpix.specs.declared.kind.PortKind.TheVariants.{Sending}
use Rattle.demi_store.specs.Laws.{Admits}
use Rattle.demi_context.proofs.ContextTries.{tx_in, tx_less, tx_others, tx_tells}
use Rattle.demi_context.proofs.ContextKinds.{kind_tx}
use Rattle.demi_context.proofs.ContextSubmits.{tx_low}
use Rattle.demi_context.proofs.context.tries.tx_at.Goals as goal

pub tx_came-requires : goal.tx_came-requires
tx_came-requires c = let low : c.args.link < length c.args.demi.now.tx = (let e = c.requires.count.0 in let h = c.if-link-links.false in omega (arith, e, h)) in tx_in _ _ c.args.demi.now.heap c.args.token.token.0 c.args.link c.args.caller.now c.try_wait.new.caller (tx_low c.args.demi.now c.args.caller.now c.args.link c.requires.of.tx low) c.try_wait.result (subst (λ (x : PortKind). TriedAt x Admits c.args.demi.now.heap c.args.token.token.0 c.args.caller.now c.try_wait.new.caller c.try_wait.result) (kind_tx c.args.demi.now c.args.token.port c.args.link (c.if-token-sending.false ∙ c.sending.ensures) low) c.try_wait.ensures.tried)

pub returns-clause-others : goal.returns-clause-others
returns-clause-others c = let low : c.args.link < length c.args.demi.now.tx = (let e = c.requires.count.0 in let h = c.if-link-links.false in omega (arith, e, h)) in tx_others _ _ c.args.demi.now.heap c.args.token.token.0 c.args.link c.args.caller.now c.try_wait.new.caller (tx_low c.args.demi.now c.args.caller.now c.args.link c.requires.of.tx low) c.try_wait.result (subst (λ (x : PortKind). TriedAt x Admits c.args.demi.now.heap c.args.token.token.0 c.args.caller.now c.try_wait.new.caller c.try_wait.result) (kind_tx c.args.demi.now c.args.token.port c.args.link (c.if-token-sending.false ∙ c.sending.ensures) low) c.try_wait.ensures.tried)

pub returns-clause-tried : goal.returns-clause-tried
returns-clause-tried c = let low : c.args.link < length c.args.demi.now.tx = (let e = c.requires.count.0 in let h = c.if-link-links.false in omega (arith, e, h)) in tx_tells _ _ c.args.demi.now.heap c.args.token.token.0 c.args.link c.args.caller.now c.try_wait.new.caller (tx_low c.args.demi.now c.args.caller.now c.args.link c.requires.of.tx low) c.tx_came.result (subst (TriedAt (Sending c.args.link) Admits c.args.demi.now.heap c.args.token.token.0 c.args.caller.now c.try_wait.new.caller) c.tx_came.ensures (subst (λ (x : PortKind). TriedAt x Admits c.args.demi.now.heap c.args.token.token.0 c.args.caller.now c.try_wait.new.caller c.try_wait.result) (kind_tx c.args.demi.now c.args.token.port c.args.link (c.if-token-sending.false ∙ c.sending.ensures) low) c.try_wait.ensures.tried))

pub returns-clause-owes : goal.returns-clause-owes
returns-clause-owes c = let low : c.args.link < length c.args.demi.now.tx = (let e = c.requires.count.0 in let h = c.if-link-links.false in omega (arith, e, h)) in tx_less _ _ c.args.demi.now.heap c.args.token.token.0 c.args.link c.args.caller.now c.try_wait.new.caller (tx_low c.args.demi.now c.args.caller.now c.args.link c.requires.of.tx low) c.tx_came.result (subst (TriedAt (Sending c.args.link) Admits c.args.demi.now.heap c.args.token.token.0 c.args.caller.now c.try_wait.new.caller) c.tx_came.ensures (subst (λ (x : PortKind). TriedAt x Admits c.args.demi.now.heap c.args.token.token.0 c.args.caller.now c.try_wait.new.caller c.try_wait.result) (kind_tx c.args.demi.now c.args.token.port c.args.link (c.if-token-sending.false ∙ c.sending.ensures) low) c.try_wait.ensures.tried))

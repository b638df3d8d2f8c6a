use Rattle.std.proofs.Common.{◌<◌, length, subst, ◌∙◌, arith}
use Rattle.demi_pdpix.specs.Tries.{TriedAt}
use Rattle.demi_pdpix.specs.declared.kind.PortKind.{PortKind}
use Rattle.demi_pdpix.specs.declared.kind.PortKind.TheVariants.{Receiving}
use Rattle.demi_store.specs.Laws.{Admits}
use Rattle.demi_context.proofs.ContextTries.{rx_in, rx_less, rx_others, rx_tells}
use Rattle.demi_context.proofs.ContextKinds.{kind_rx}
use Rattle.demi_context.proofs.ContextSubmits.{rx_low}
use Rattle.demi_context.proofs.context.tries.rx_at.Goals as goal

pub rx_came-requires : goal.rx_came-requires
rx_came-requires c = let low : c.args.link < length c.args.demi.now.rx = (let e = c.requires.count.0 in let h = c.if-link-links.false in omega (arith, e, h)) in rx_in _ _ c.args.demi.now.heap c.args.token.token.0 c.args.link c.args.caller.now c.try_wait.new.caller (rx_low c.args.demi.now c.args.caller.now c.args.link c.requires.of.rx low) c.try_wait.result (subst (λ (x : PortKind). TriedAt x Admits c.args.demi.now.heap c.args.token.token.0 c.args.caller.now c.try_wait.new.caller c.try_wait.result) (kind_rx c.args.demi.now c.args.token.port c.args.link (c.if-token-receiving.false ∙ c.receiving.ensures) low) c.try_wait.ensures.tried)

pub returns-clause-others : goal.returns-clause-others
returns-clause-others c = let low : c.args.link < length c.args.demi.now.rx = (let e = c.requires.count.0 in let h = c.if-link-links.false in omega (arith, e, h)) in rx_others _ _ c.args.demi.now.heap c.args.token.token.0 c.args.link c.args.caller.now c.try_wait.new.caller (rx_low c.args.demi.now c.args.caller.now c.args.link c.requires.of.rx low) c.try_wait.result (subst (λ (x : PortKind). TriedAt x Admits c.args.demi.now.heap c.args.token.token.0 c.args.caller.now c.try_wait.new.caller c.try_wait.result) (kind_rx c.args.demi.now c.args.token.port c.args.link (c.if-token-receiving.false ∙ c.receiving.ensures) low) c.try_wait.ensures.tried)

pub returns-clause-tried : goal.returns-clause-tried
returns-clause-tried c = let low : c.args.link < length c.args.demi.now.rx = (let e = c.requires.count.0 in let h = c.if-link-links.false in omega (arith, e, h)) in rx_tells _ _ c.args.demi.now.heap c.args.token.token.0 c.args.link c.args.caller.now c.try_wait.new.caller (rx_low c.args.demi.now c.args.caller.now c.args.link c.requires.of.rx low) c.rx_came.result (subst (TriedAt (Receiving c.args.link) Admits c.args.demi.now.heap c.args.token.token.0 c.args.caller.now c.try_wait.new.caller) c.rx_came.ensures (subst (λ (x : PortKind). TriedAt x Admits c.args.demi.now.heap c.args.token.token.0 c.args.caller.now c.try_wait.new.caller c.try_wait.result) (kind_rx c.args.demi.now c.args.token.port c.args.link (c.if-token-receiving.false ∙ c.receiving.ensures) low) c.try_wait.ensures.tried))

pub returns-clause-owes : goal.returns-clause-owes
returns-clause-owes c = let low : c.args.link < length c.args.demi.now.rx = (let e = c.requires.count.0 in let h = c.if-link-links.false in omega (arith, e, h)) in rx_less _ _ c.args.demi.now.heap c.args.token.token.0 c.args.link c.args.caller.now c.try_wait.new.caller (rx_low c.args.demi.now c.args.caller.now c.args.link c.requires.of.rx low) c.rx_came.result (subst (TriedAt (Receiving c.args.link) Admits c.args.demi.now.heap c.args.token.token.0 c.args.caller.now c.try_wait.new.caller) c.rx_came.ensures (subst (λ (x : PortKind). TriedAt x Admits c.args.demi.now.heap c.args.token.token.0 c.args.caller.now c.try_wait.new.caller c.try_wait.result) (kind_rx c.args.demi.now c.args.token.port c.args.link (c.if-token-receiving.false ∙ c.receiving.ensures) low) c.try_wait.ensures.tried))

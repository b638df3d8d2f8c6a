use Rattle.std.proofs.Common.{ap, subst}
use Rattle.demi_port.specs.Seen.{PortId}
use Rattle.demi_pdpix.specs.Kinds.{kind_of}
use Rattle.demi_pdpix.specs.Tries.{TriedAt}
use Rattle.demi_pdpix.specs.declared.kind.PortKind.{PortKind}
use Rattle.demi_pdpix.specs.declared.kind.PortKind.TheVariants.{Service}
use Rattle.demi_link.specs.Events.{TriedBy}
use Rattle.demi_link.specs.Sights.{side_of}
use Rattle.demi_store.specs.Laws.{Admits, StoreBasis}
use Rattle.demi_context.proofs.ContextTries.{store_tells}
use Rattle.demi_context.proofs.context.tries.store_at.Goals as goal

pub returns-clause-tried : goal.returns-clause-tried
returns-clause-tried c =
    let t = c.args.token.token.0 in
    let a = c.args.caller.now in
    let b = c.try_wait.new.caller in
    let tried = subst (λ (x : PortKind). TriedAt x Admits c.args.demi.now.heap t a b c.try_wait.result) (ap (kind_of c.args.demi.now) c.if-token-ne1.false) c.try_wait.ensures.tried in
    subst (λ (p : PortId StoreBasis). TriedBy (λ o h t p'. Admits p.key.base h t p' o) t (side_of a.service) (side_of b.service) c.store_came.result) c.requires.of.service
    (store_tells _ _ c.args.demi.now.heap t a b c.store_came.result (subst (TriedAt Service Admits c.args.demi.now.heap t a b) c.store_came.ensures tried))

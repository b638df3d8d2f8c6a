use Rattle.std.proofs.Common.{rules, ◌≤◌, ap, sym, ◌∙◌, subst, ◌∷◌, Some}
use Rattle.atomic_table.specs.Table.{rest}
use Rattle.demi_heap.specs.Rule.{Fits}
use Rattle.demi_heap.proofs.Allowed.{lends_allowed}
use Rattle.demi_heap.proofs.steps.lend_out.Goals as goal

pub fetch_or-requires : goal.fetch_or-requires
fetch_or-requires c = let now = c.exchange.ensures.3 in let half = c.requires.half in let view = ap (λ m. m.0) now in (
  search rules,
  search rules,
  lends_allowed _ _ _ _ _ c.args.buf (ap (λ m. m.1) now ∙ ap (λ l. (c.args.slot, Some c.args.buf) ∷ rest l) half.0) (ap (λ v. v.halves) view ∙ half.1) (ap (λ v. v.slot) view ∙ half.2)
      (subst (λ v. 1 ≤ v.passes) (sym view) half.3) (subst (λ v. Fits v.shape c.args.slot c.args.buf) (sym view) c.requires.buffer),
)

pub exchange-requires-2 : goal.exchange-requires-2
exchange-requires-2 c = let now = c.exchange.ensures.3 in let half = c.requires.half in
    let holds = c.fetch_or.ensures.2.1 ∙ (ap (λ m. m.1) now ∙ ap (λ l. (c.args.slot, Some c.args.buf) ∷ rest l) half.0) in (
      search rules,
      (Some c.args.buf, holds ∙ ap (λ l. (c.args.slot, Some c.args.buf) ∷ l) (sym (ap rest holds))),
    )

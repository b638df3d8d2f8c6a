use Rattle.std.proofs.Common.{rules, ◌≤◌, ap, sym, ◌∙◌, subst, ◌∷◌, Some}
use Rattle.atomic_table.specs.Table.{rest}
use Rattle.demi_heap.specs.Rule.{Fits}
use Rattle.demi_heap.proofs.Allowed.{releases_allowed}
use Rattle.demi_heap.proofs.steps.put_back.Goals as goal

pub fetch_and-requires : goal.fetch_and-requires
fetch_and-requires c = let now = c.exchange.ensures.3 in let half = c.requires.half in let view = ap (λ m. m.0) now in (
  search rules,
  search rules,
  releases_allowed _ _ _ _ _ c.args.buf (ap (λ m. m.1) now ∙ ap (λ l. (c.args.slot, Some c.args.buf) ∷ rest l) half.0) (ap (λ v. v.halves) view ∙ half.1) (ap (λ v. v.slot) view ∙ half.2)
      (subst (λ v. 1 ≤ v.passes) (sym view) half.3) (subst (λ v. Fits v.shape c.args.slot c.args.buf) (sym view) c.requires.buffer.0) (ap (λ v. v.lent) view ∙ c.requires.buffer.1),
)

use Rattle.std.proofs.Common.{◌≡◌, ◌+◌, ◌≤◌, ℕ, List, length, arith, ap, sym, ◌∙◌, subst, cond}
use Rattle.std.specs.Prelude.{bytes_eq}
use Rattle.demi_audit.specs.Past.{IsBack, last_of}
use Rattle.demi_audit.proofs.Pasts.{last_more, past_more}
use Rattle.demi_audit.proofs.past.Past.add.Goals as goal

pub returns : goal.returns
returns c = λ rs r h same.
    let p = c.args.self.now in
    let s = c.step_from-step.result in
    let before : s.previous ≡ last_of p c.args.key.now = c.step_from-step.ensures.previous ∙ c.last_with.ensures in
    let low : last_of p c.args.key.now ≤ length rs = (h.last c.args.key.now).within in
    let jump = subst (λ n. IsBack rs n s.jump) (sym c.step_from-step.ensures.previous) (c.step_from-step.ensures.jump rs h (omega (arith, c.last_with.ensures, low))) in
    let version : c.len-version.result ≡ length rs + 1 = omega (arith, c.len-version.ensures, p.steps.ok, h.count) in
    let bs = c.in_ok-from_slice.field-0.items in
    let key : bs ≡ r.key = c.in_ok-from_slice.ensures.items ∙ sym same in
    past_more p _ rs r s h c.in_ok-push.ensures.items (before ∙ ap (last_of p) (sym same)) jump
    (λ k. last_more p.last c.insert.new.self k bs c.len-version.result c.in_ok-insert.ensures.updates
    ∙ ap (λ (l : List ℕ). cond (bytes_eq l k) c.len-version.result (last_of p k)) key ∙ ap (λ (n : ℕ). cond (bytes_eq r.key k) n (last_of p k)) version)

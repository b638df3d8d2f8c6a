use Rattle.std.proofs.Common.{◌∙◌, ap, append_assoc, ℕ, List, ◌++◌, refl}
use Rattle.demi_audit.proofs.one_link.say.Goals as goal

pub returns : goal.returns
returns c =
    let before : List ℕ = c.args.output.now.items in
    let bytes : List ℕ = c.args.bytes.now in
    c.in_ok-extend_from_slice-2.ensures.items
    ∙ ap (λ (l : List ℕ). l ++ bytes) c.in_ok-extend_from_slice.ensures.items
    ∙ append_assoc before c.reply_head-head.result bytes
    ∙ ap (λ (l : List ℕ). before ++ l) (c.reply_head-head.ensures bytes refl)

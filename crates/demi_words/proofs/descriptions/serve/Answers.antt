use Rattle.std.proofs.Common.{◌∙◌, ap₂}
use Rattle.std.proofs.lemmas.Result.{IfOk-weaker}
use Rattle.clap.specs.Words.{with_rule}
use Rattle.demi_words.proofs.descriptions.serve.Goals as goal

pub returns : goal.returns
returns c =
    let one = c.in_ok-arg.ensures.shape c.links.ensures.local ∙ ap₂ with_rule c.bare.ensures c.links.ensures.rule in
    let two = c.in_ok-arg-2.ensures.shape c.workers.ensures.local ∙ ap₂ with_rule one c.workers.ensures.rule in
    let three = c.in_ok-arg-3.ensures.shape c.limit.ensures.local ∙ ap₂ with_rule two c.limit.ensures.rule in
    let four = c.in_ok-arg-4.ensures.shape c.word.ensures.local ∙ ap₂ with_rule three c.word.ensures.rule in
    IfOk-weaker c.arg-5.result _ _ (λ r added. added.shape c.word-2.ensures.local ∙ ap₂ with_rule four c.word-2.ensures.rule) c.arg-5.ensures

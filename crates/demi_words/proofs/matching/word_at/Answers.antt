use Rattle.std.proofs.Common.{rules, ◌∙◌}
use Rattle.clap.proofs.WalkLemmas.{first_value-rows}
use Rattle.clap.specs.Words.{found_of}
use Rattle.demi_words.proofs.Texts.{text_or}
use Rattle.demi_words.proofs.matching.word_at.Goals as goal

pub returns : goal.returns
returns c =
    text_or c.get_str.result _ c.unwrap_or.result _ c.unwrap_or.ensures
    (c.get_str.ensures ∙ first_value-rows (found_of c.args.matches.now) c.args.id.now) (search rules)

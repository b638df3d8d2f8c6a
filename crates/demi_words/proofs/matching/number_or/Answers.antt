use Rattle.std.proofs.Common.{rules}
use Rattle.std.specs.Str.Parse.{ExplainsUnsignedError, HasUnsignedDigitsIfOk, ParsesUnsigned}
use Rattle.clap.proofs.WalkLemmas.{one_text-rows}
use Rattle.clap.specs.Words.{found_of}
use Rattle.demi_words.proofs.Numbers.{read_or}
use Rattle.demi_words.proofs.matching.number_or.Goals as goal

pub returns : goal.returns
returns c =
    read_or (λ bs r. ParsesUnsigned 32 10 bs r × ExplainsUnsignedError 10 bs r × HasUnsignedDigitsIfOk bs r) 32 c.args.other _ _ _ c.get_one.result (λ u y h. h.0)
    (one_text-rows (found_of c.args.matches.now) c.args.id.now) c.get_one.ensures.none c.get_one.ensures.value c.requires (search rules)

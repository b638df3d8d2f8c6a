use Rattle.clap.proofs.WalkLemmas.{both}
use Rattle.demi_words.proofs.matching.find.Goals as goal

pub returns-in-Ok-clause-found : goal.returns-in-Ok-clause-found
returns-in-Ok-clause-found c = (c.in-Ok.ensures.matches (both _ _ c.requires).0).0

use Rattle.std.proofs.Common.{refl, rules}
use Rattle.demi_server.proofs.opening.open_on.Goals as goal

pub returns-in-Ok-clause-parts : goal.returns-in-Ok-clause-parts
returns-in-Ok-clause-parts g c = let e = c.in-Ok.ensures in let r = c.requires in (
  refl,
  refl,
  record {
    memory = search rules;
    service = search rules;
    rx = search rules;
    tx = search rules;
    bases = search rules;
    tokens = search rules;
    links = search rules;
    unserved = r.new;
  },
)

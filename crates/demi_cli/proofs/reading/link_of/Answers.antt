use Rattle.std.proofs.Common.{arith, rules}
use Rattle.std.proofs.lemmas.Nat.{be_bytes_2}
use Rattle.demi_cli.proofs.reading.link_of.Goals as goal

pub returns-clause-spelled : goal.returns-clause-spelled
returns-clause-spelled c = be_bytes_2 c.args.field.now c.from_be_bytes.result c.requires (λ k. omega (arith, c.type_inv.field k)) (search rules)

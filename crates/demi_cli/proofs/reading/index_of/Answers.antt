use Rattle.std.proofs.Common.{arith, rules}
use Rattle.std.proofs.lemmas.Nat.{be_bytes_4}
use Rattle.demi_cli.proofs.reading.index_of.Goals as goal

pub returns-clause-spelled : goal.returns-clause-spelled
returns-clause-spelled c = be_bytes_4 c.args.field.now c.from_be_bytes.result c.requires (λ k. omega (arith, c.type_inv.field k)) (search rules)

use Rattle.std.proofs.Common.{subst, sym}
use Rattle.demi_sched.specs.Scanning.{IsWithin}
use Rattle.demi_sched.proofs.Finds.{within_first}
use Rattle.demi_sched.proofs.tests.desk.DeskScanner.scan.Goals as goal

pub returns-clause-within : goal.returns-clause-within
returns-clause-within c = let b = c.scan-bits.ensures.bits in
    subst (λ ws. IsWithin ws c.args.mask.now.words) (sym b.3) (within_first b.1 c.args.mask.now.words)

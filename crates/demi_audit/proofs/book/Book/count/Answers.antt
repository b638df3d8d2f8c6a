use Rattle.std.proofs.Common.{arith}
use Rattle.demi_audit.proofs.Logged.{counted}
use Rattle.demi_audit.proofs.book.Book.count.Goals as goal

pub returns : goal.returns
returns c = λ run b.
    let s = c.args.self.now in
    omega (arith, c.len.ensures, s.ends.ok, counted s.text.now s.ends.items run.records b.log)

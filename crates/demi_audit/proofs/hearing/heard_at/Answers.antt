use Rattle.std.proofs.Common.{take, drop, ◌+◌, sym}
use Rattle.demi_audit.proofs.hearing.heard_at.Goals as goal

pub returns-clause-reply : goal.returns-clause-reply
returns-clause-reply c = λ used read text same.
    let e = c.kind_of.ensures used read (take c.args.reply.length (drop (c.args.at + 22) text)) (sym same) in
    (λ i. record { worker = read.worker i; sequence = read.sequence i; answer = e i })

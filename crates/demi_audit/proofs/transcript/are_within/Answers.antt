use Rattle.std.proofs.Common.{◌≡◌, length, ap, sym, ◌∙◌, subst, arith, leb}
use Rattle.demi_audit.specs.Reading.{IsLogPart}
use Rattle.demi_audit.specs.Transcript.{are_within}
use Rattle.demi_audit.specs.declared.transcript.LogPart.{LogPart}
use Rattle.demi_audit.proofs.Logged.{counted}
use Rattle.demi_audit.proofs.transcript.are_within.Goals as goal

pub returns-in-Good : goal.returns-in-Good
returns-in-Good c = λ bytes h.
    let k = subst (λ (p : LogPart). IsLogPart p bytes) c.in-Good.is h in
    let n = counted _ _ k.0 k.2 in
    let e : c.len.result ≡ length k.0 = omega (arith, c.len.ensures, c.in-Good.ends.ok.0, n) in
    ap (λ m. leb c.args.old m) e ∙ sym (ap (are_within c.args.old) k.1)

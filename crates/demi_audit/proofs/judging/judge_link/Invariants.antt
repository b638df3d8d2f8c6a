use Rattle.std.proofs.Common.{ℕ, List}
use Rattle.demi_served.specs.Talks.{Run}
use Rattle.demi_audit.specs.Judging.{IsCase}
use Rattle.demi_audit.proofs.Judgings.{JudgesOn}
use Rattle.demi_audit.proofs.judging.judge_link.Given as goal

abbrev pub invariant-judging : goal.invariant-judging
invariant-judging l = (run : Run) (rest : List ℕ) → IsCase l.case run → JudgesOn run l.case.text.now l.case.heard.items l.link l.from l.count l.i rest l.input l.left l.greatest

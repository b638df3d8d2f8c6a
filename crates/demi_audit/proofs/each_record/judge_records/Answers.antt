use Rattle.std.proofs.Common.{◌+◌, ◌<◌, false, true, length, arith, sym, ◌∙◌}
use Rattle.demi_audit.proofs.EachRecord.{record_next}
use Rattle.demi_audit.proofs.each_record.judge_records.Goals as goal

pub returns-then-not-marks-i : goal.returns-then-not-marks-i
returns-then-not-marks-i c = λ replies rs m long.
    let i = c.records.i in
    let less : i + 1 < length c.args.marks.now = omega (arith, c.records-test.true, c.requires.size) in
    c.records.invariant replies rs m long ∙ record_next replies rs i false (omega (arith, c.records-test.true, long)) (sym c.if-not-marks-i.true ∙ m (i + 1) less)

pub records-preserved : goal.records-preserved
records-preserved c = λ replies rs m long.
    let i = c.records.i in
    let less : i + 1 < length c.args.marks.now = omega (arith, c.records-test.true, c.requires.size) in
    c.records.invariant replies rs m long ∙ record_next replies rs i true (omega (arith, c.records-test.true, long)) (sym c.if-not-marks-i.false ∙ m (i + 1) less)

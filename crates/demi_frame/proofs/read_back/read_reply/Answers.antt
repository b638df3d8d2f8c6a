use Rattle.std.proofs.Common.{arith, ◌<◌, ◌≤◌, length, drop, sym, ap, ◌∙◌, subst}
use Rattle.std.proofs.lemmas.Bool.Decides.{nat_tests}
use Rattle.std.proofs.lemmas.List.{take_rest}
use Rattle.demi_frame.specs.Heads.{least_head, FieldsOf, code_is_bad}
use Rattle.demi_frame.proofs.Refusals.{read_whole, short_head, short_content, short_none}
use Rattle.demi_frame.proofs.NoReplies.{bad_head, bad_code}
use Rattle.demi_frame.proofs.read_back.read_reply.Goals as goal

pub returns-then-is_empty-clause-short : goal.returns-then-is_empty-clause-short
returns-then-is_empty-clause-short c = λ _. short_none c.args.bytes.now (grind (arith, nat_tests))

pub returns-then-not-head_fits-clause-bad : goal.returns-then-not-head_fits-clause-bad
returns-then-not-head_fits-clause-bad c =
    let r = c.fields_of-reply.result in
    let of : FieldsOf (least_head c.args.bytes.now) r = subst (λ h. FieldsOf h r) c.least_head.ensures c.fields_of-reply.ensures in
    λ _. bad_head c.args.bytes.now r (grind (arith, nat_tests)) of (sym c.head_fits.ensures ∙ c.if-not-head_fits.true)

pub returns-then-bytes-lt-HEAD_BYTES-clause-short :
    goal.returns-then-bytes-lt-HEAD_BYTES-clause-short
returns-then-bytes-lt-HEAD_BYTES-clause-short c =
    let r = c.fields_of-reply.result in
    let of : FieldsOf (least_head c.args.bytes.now) r = subst (λ h. FieldsOf h r) c.least_head.ensures c.fields_of-reply.ensures in
    λ _. short_head c.args.bytes.now r (λ i. omega (arith, c.type_inv.bytes i)) c.if-bytes-lt-HEAD_BYTES.true of (sym c.head_fits.ensures ∙ c.if-not-head_fits.false)

pub returns-then-code_is_bad-clause-bad : goal.returns-then-code_is_bad-clause-bad
returns-then-code_is_bad-clause-bad c =
    let r = c.fields_of-reply.result in
    let of : FieldsOf (least_head c.args.bytes.now) r = subst (λ h. FieldsOf h r) c.least_head.ensures c.fields_of-reply.ensures in
    λ _. bad_code c.args.bytes.now r c.if-bytes-lt-HEAD_BYTES.false of (ap (code_is_bad r.kind) (sym (take_rest c.args.bytes.now 22)) ∙ sym c.code_is_bad.ensures ∙ c.if-code_is_bad.true)

pub returns-then-content-length-clause-short : goal.returns-then-content-length-clause-short
returns-then-content-length-clause-short c =
    let r = c.fields_of-reply.result in
    let of : FieldsOf (least_head c.args.bytes.now) r = subst (λ h. FieldsOf h r) c.least_head.ensures c.fields_of-reply.ensures in
    let rest = take_rest c.args.bytes.now 22 in
    let less : length (drop 22 c.args.bytes.now) < r.length = subst (λ l. length l < r.length) rest c.if-content-length.true in
    λ _. short_content c.args.bytes.now r (λ i. omega (arith, c.type_inv.bytes i)) c.if-bytes-lt-HEAD_BYTES.false of (sym c.head_fits.ensures ∙ c.if-not-head_fits.false) less
    (ap (code_is_bad r.kind) (sym rest) ∙ sym c.code_is_bad.ensures ∙ c.if-code_is_bad.false)

pub returns-clause-read : goal.returns-clause-read
returns-clause-read c =
    let r = c.fields_of-reply.result in
    let of : FieldsOf (least_head c.args.bytes.now) r = subst (λ h. FieldsOf h r) c.least_head.ensures c.fields_of-reply.ensures in
    let rest = take_rest c.args.bytes.now 22 in
    let enough : r.length ≤ length (drop 22 c.args.bytes.now) = subst (λ l. r.length ≤ length l) rest c.if-content-length.false in
    read_whole c.args.bytes.now r (λ i. omega (arith, c.type_inv.bytes i)) c.if-bytes-lt-HEAD_BYTES.false of (sym c.head_fits.ensures ∙ c.if-not-head_fits.false) enough
    (ap (code_is_bad r.kind) (sym rest) ∙ sym c.code_is_bad.ensures ∙ c.if-code_is_bad.false)

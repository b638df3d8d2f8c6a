use Rattle.std.proofs.Common.{ap, sym, ◌∙◌, arith}
use Rattle.demi_audit.specs.Transcript.{are_within, log_records}
use Rattle.demi_audit.proofs.Fields.{all_good, bad_limit, bad_links, bad_mark, bad_old, in_range, no_old, no_size}
use Rattle.demi_audit.proofs.transcript.read_fields.Goals as goal

pub returns-then-not-begins_with-clause-bad : goal.returns-then-not-begins_with-clause-bad
returns-then-not-begins_with-clause-bad c = bad_mark c.args.bytes.now (sym c.begins_with.ensures ∙ c.if-not-begins_with.true)

pub returns-in_default-clause-bad : goal.returns-in_default-clause-bad
returns-in_default-clause-bad c = bad_limit c.args.bytes.now (sym c.begins_with.ensures ∙ c.if-not-begins_with.false) c.in_default.ensures

pub returns-then-not-has-clause-bad : goal.returns-then-not-has-clause-bad
returns-then-not-has-clause-bad c = no_old c.args.bytes.now (sym c.begins_with.ensures ∙ c.if-not-begins_with.false) c.in-Some.ensures.1 (sym c.has.ensures ∙ c.if-not-has.true)

pub returns-then-not-are_within-clause-bad : goal.returns-then-not-are_within-clause-bad
returns-then-not-are_within-clause-bad c =
    let bytes = c.args.bytes.now in
    bad_old bytes (sym c.begins_with.ensures ∙ c.if-not-begins_with.false) c.in-Some.ensures.1
    (ap (λ n. are_within n (log_records bytes)) (sym c.number_4-old.ensures) ∙ sym (c.are_within.ensures bytes c.requires) ∙ c.if-not-are_within.true)

pub returns-in_default-number_within-clause-bad : goal.returns-in_default-number_within-clause-bad
returns-in_default-number_within-clause-bad c =
    let bytes = c.args.bytes.now in
    bad_links bytes (sym c.begins_with.ensures ∙ c.if-not-begins_with.false) c.in-Some.ensures.1 (sym c.has.ensures ∙ c.if-not-has.false)
    (ap (λ n. are_within n (log_records bytes)) (sym c.number_4-old.ensures) ∙ sym (c.are_within.ensures bytes c.requires) ∙ c.if-not-are_within.false)
    c.in_default-number_within.ensures

pub returns-then-not-has-2-clause-bad : goal.returns-then-not-has-2-clause-bad
returns-then-not-has-2-clause-bad c =
    let bytes = c.args.bytes.now in
    no_size bytes (sym c.begins_with.ensures ∙ c.if-not-begins_with.false) c.in-Some.ensures.1 (sym c.has.ensures ∙ c.if-not-has.false)
    (ap (λ n. are_within n (log_records bytes)) (sym c.number_4-old.ensures) ∙ sym (c.are_within.ensures bytes c.requires) ∙ c.if-not-are_within.false)
    c.in-Some-number_within.ensures.1 (sym c.has-2.ensures ∙ c.if-not-has-2.true)

pub returns-clause-fields : goal.returns-clause-fields
returns-clause-fields c =
    let bytes = c.args.bytes.now in
    let limit = in_range bytes 8 1 1000000 c.in-Some.ensures.1 in
    let links = in_range bytes 16 1 16 c.in-Some-number_within.ensures.1 in
    let old = sym (c.are_within.ensures bytes c.requires) ∙ c.if-not-are_within.false in
    record {
      limit = c.in-Some.ensures.0;
      limit_fits = (omega (arith, limit.0, c.in-Some.ensures.0), omega (arith, limit.1, c.in-Some.ensures.0));
      old = c.number_4-old.ensures;
      old_fits = old;
      links = c.in-Some-number_within.ensures.0;
      links_fit = (omega (arith, links.0, c.in-Some-number_within.ensures.0), omega (arith, links.1, c.in-Some-number_within.ensures.0));
      log_size = c.number_8-log_size.ensures;
      rest = all_good bytes (sym c.begins_with.ensures ∙ c.if-not-begins_with.false) c.in-Some.ensures.1 (sym c.has.ensures ∙ c.if-not-has.false)
          (ap (λ n. are_within n (log_records bytes)) (sym c.number_4-old.ensures) ∙ old) c.in-Some-number_within.ensures.1 (sym c.has-2.ensures ∙ c.if-not-has-2.false);
    }

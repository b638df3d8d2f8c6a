use Rattle.std.proofs.Common.{ℕ, ◌≤◌, ◌<◌, List, length, take, drop, ap, sym, ◌∙◌, ◌-◌, arith, inl, inr, length-drop}
use Rattle.std.specs.Int.{w32, from_be_bytes}
use Rattle.demi_spec.specs.LogText.{entries}
use Rattle.demi_audit.proofs.Finding.{bad_here, bad_within, behind, few_left, found_more, headless, wrong_length}
use Rattle.demi_audit.proofs.entries.find_ends.Goals as goal
use Rattle.demi_audit.proofs.entries.find_ends.Goals.{then-length-eq0-via-then-length-eq0, then-length-eq0-via-else-length-eq0+then-length-gt-MAX_PAYLOAD_BYTES, then-length-eq0-via-else-length-eq0+else-length-gt-MAX_PAYLOAD_BYTES+then-length-rest}

pub returns-then-not-begins_with-clause-bad : goal.returns-then-not-begins_with-clause-bad
returns-then-not-begins_with-clause-bad c = λ at same.
    bad_here (entries c.args.text.now) 0 (headless c.args.text.now c.requires.some (sym c.begins_with.ensures ∙ c.if-not-begins_with.true)) at same

pub returns-then-rest-lt-LENGTH_BYTES-clause-bad : goal.returns-then-rest-lt-LENGTH_BYTES-clause-bad
returns-then-rest-lt-LENGTH_BYTES-clause-bad c = λ at same.
    let text = c.args.text.now in
    let few : length (drop c.finding.at text) < 4 = omega (arith, length-drop c.finding.at text, c.if-rest-lt-LENGTH_BYTES.true) in
    bad_here (entries text) c.finding.at (few_left text c.finding.ends.items c.finding.at c.finding.invariant.found c.finding-test.true few) at same

pub returns-then-length-eq0-clause-bad : goal.returns-then-length-eq0-clause-bad
returns-then-length-eq0-clause-bad c = λ at same.
    let text = c.args.text.now in
    let here = c.finding.at in
    let n = c.number_of_4-length.result in
    let long : 4 ≤ length (drop here text) = omega (arith, length-drop here text, c.if-rest-lt-LENGTH_BYTES.false) in
    bad_here (entries text) here (wrong_length text c.finding.ends.items here n c.finding.invariant.found c.finding-test.true long (c.number_of_4-length.ensures.value ∙ ap (λ (l : List ℕ). from_be_bytes w32 (take 4 l)) (behind text here))
    (elim c.then-length-eq0.branch [
      | then-length-eq0-via-then-length-eq0 w ↦ inl w.if-length-eq0.true
      | then-length-eq0-via-else-length-eq0+then-length-gt-MAX_PAYLOAD_BYTES w ↦ inr (inl w.if-length-gt-MAX_PAYLOAD_BYTES.true)
      | then-length-eq0-via-else-length-eq0+else-length-gt-MAX_PAYLOAD_BYTES+then-length-rest w ↦ inr (inr (omega (arith, length-drop here text, w.if-length-rest.true)))
    ])) at same

pub finding-preserved : goal.finding-preserved
finding-preserved c =
    let text = c.args.text.now in
    let here = c.finding.at in
    let n = c.number_of_4-length.result in
    let long : 4 ≤ length (drop here text) = omega (arith, length-drop here text, c.if-rest-lt-LENGTH_BYTES.false) in
    let some : 0 < n = omega (arith, c.if-length-eq0.false) in
    let most : n ≤ 65798 = omega (arith, c.if-length-gt-MAX_PAYLOAD_BYTES.false) in
    let within : n ≤ length (drop here text) - 4 = omega (arith, length-drop here text, c.if-length-rest.false) in
    let f = found_more text c.finding.ends.items c.push.new.self.items here n c.finding.invariant.found c.finding-test.true long (c.number_of_4-length.ensures.spelled ∙ ap (take 4) (behind text here)) some most within c.in_ok-push.ensures.items in
    record {
      found = f;
      within = f.within;
    }

pub returns-then-not-begins_with-clause-within : goal.returns-then-not-begins_with-clause-within
returns-then-not-begins_with-clause-within c = bad_within 0 (length c.args.text.now) (omega arith)

pub returns-then-rest-lt-LENGTH_BYTES-clause-within : goal.returns-then-rest-lt-LENGTH_BYTES-clause-within
returns-then-rest-lt-LENGTH_BYTES-clause-within c = bad_within c.finding.at (length c.args.text.now) c.finding.invariant.within

pub returns-then-length-eq0-clause-within : goal.returns-then-length-eq0-clause-within
returns-then-length-eq0-clause-within c = bad_within c.finding.at (length c.args.text.now) c.finding.invariant.within

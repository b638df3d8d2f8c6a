use Rattle.std.proofs.Common.{◌≡◌, ℕ, ◌<◌, List, length, ap, sym, ◌∙◌, subst, arith}
use Rattle.std.specs.Prelude.{Err}
use Rattle.demi_spec.specs.Record.{records}
use Rattle.demi_logq.specs.Logged.{place_of}
use Rattle.demi_audit.specs.Entries.{ReadTo}
use Rattle.demi_audit.proofs.Finding.{bad_here, bad_within}
use Rattle.demi_audit.proofs.Logged.{found_holds, no_parts, payload_here, read_bad, read_next, read_none, read_whole, some_parts, span_fits}
use Rattle.demi_audit.proofs.entries.read_log.Goals as goal

pub returns-then-is_empty-clause-read : goal.returns-then-is_empty-clause-read
returns-then-is_empty-clause-read c = read_none c.args.text.now c.new.result.items c.is_empty.result c.is_empty.ensures c.if-is_empty.true c.new.ensures.items

pub returns-then-is_none-clause-bad : goal.returns-then-is_none-clause-bad
returns-then-is_none-clause-bad c = λ at same.
    let text = c.args.text.now in
    let ends = c.in_ok-ends.ends.items in
    let i = c.reading.i in
    let f = c.in_ok-ends.ensures.found in
    let h = found_holds text ends f in
    let p = c.payload_at.result.now in
    let less : i < length ends = omega (arith, c.reading-test.true, c.len-i-end.ensures, c.in_ok-ends.ends.ok.0) in
    let is = payload_here text ends c.deref.result.now f.before i p h c.deref.ensures.value c.payload_at.ensures in
    let none = no_parts p c.parts_of.result c.is_none.result c.parts_of.ensures.record c.is_none.ensures c.if-is_none.true in
    let bad = read_bad text ends f i p (λ k. omega (arith, c.type_inv.text k)) less (c.reading.invariant f.before h) is none in
    let here : c.place.result ≡ place_of ends i = c.place.ensures ∙ ap (λ (l : List ℕ). place_of l i) c.deref-then-is_none.ensures.value in
    bad_here (records text) c.place.result (bad ∙ ap (λ n. Err n) (sym here)) at same

pub reading-preserved : goal.reading-preserved
reading-preserved c = λ payloads h.
    let text = c.args.text.now in
    let ends = c.in_ok-ends.ends.items in
    let i = c.reading.i in
    let p = c.payload_at.result.now in
    let less : i < length ends = omega (arith, c.reading-test.true, c.len-i-end.ensures, c.in_ok-ends.ends.ok.0) in
    let is = payload_here text ends c.deref.result.now payloads i p h c.deref.ensures.value c.payload_at.ensures in
    read_next text ends payloads i p (λ k. omega (arith, c.type_inv.text k)) h less (c.reading.invariant payloads h) is
    (some_parts p c.parts_of.result c.is_none.result c.parts_of.ensures.record c.is_none.ensures c.if-is_none.false)

pub returns-clause-read : goal.returns-clause-read
returns-clause-read c =
    let text = c.args.text.now in
    let ends = c.in_ok-ends.ends.items in
    let f = c.in_ok-ends.ensures.found in
    let all : c.reading.i ≡ length ends = omega (arith, c.reading-test.false, c.len-i-end.ensures, c.in_ok-ends.ends.ok.0) in
    read_whole text ends f (subst (λ n. ReadTo n f.before) all (c.reading.invariant f.before (found_holds text ends f)))

pub returns-then-is_none-clause-within : goal.returns-then-is_none-clause-within
returns-then-is_none-clause-within c =
    let text = c.args.text.now in
    let ends = c.in_ok-ends.ends.items in
    let i = c.reading.i in
    let f = c.in_ok-ends.ensures.found in
    let less : i < length ends = omega (arith, c.reading-test.true, c.len-i-end.ensures, c.in_ok-ends.ends.ok.0) in
    let k = span_fits text ends f.before i (found_holds text ends f) less in
    let here : c.place.result ≡ place_of ends i = c.place.ensures ∙ ap (λ (l : List ℕ). place_of l i) c.deref-then-is_none.ensures.value in
    bad_within c.place.result (length text) (omega (arith, k.0, k.1, here))

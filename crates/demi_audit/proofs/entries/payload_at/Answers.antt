use Rattle.std.proofs.Common.{◌+◌, ◌-◌, take, drop, ap, ◌∙◌, arith}
use Rattle.demi_logq.specs.Logged.{place_of}
use Rattle.demi_audit.proofs.Logged.{payload_is, span_fits}
use Rattle.demi_audit.proofs.entries.payload_at.Goals as goal

pub overflow_add-start : goal.overflow_add-start
overflow_add-start c =
    let k = span_fits c.args.text.now c.args.ends.now c.requires.stands.0 c.args.i c.requires.stands.1 c.requires.there in
    omega (arith, k.0, k.1, c.place-start.ensures)

pub slice_bounds-result-count : goal.slice_bounds-result-count
slice_bounds-result-count c =
    let k = span_fits c.args.text.now c.args.ends.now c.requires.stands.0 c.args.i c.requires.stands.1 c.requires.there in
    omega (arith, k.0, c.place-start.ensures, c.place-end.ensures)

pub slice_bounds-result-start : goal.slice_bounds-result-start
slice_bounds-result-start c =
    let k = span_fits c.args.text.now c.args.ends.now c.requires.stands.0 c.args.i c.requires.stands.1 c.requires.there in
    omega (arith, k.0, c.place-start.ensures, c.place-end.ensures)

pub slice_bounds-result-end : goal.slice_bounds-result-end
slice_bounds-result-end c =
    let k = span_fits c.args.text.now c.args.ends.now c.requires.stands.0 c.args.i c.requires.stands.1 c.requires.there in
    omega (arith, k.1, c.place-end.ensures)

pub returns : goal.returns
returns c = λ payloads h.
    let text = c.args.text.now in
    let ends = c.args.ends.now in
    ap (λ n. take (c.place-end.result - (n + 4)) (drop (n + 4) text)) c.place-start.ensures
    ∙ ap (λ n. take (n - (place_of ends c.args.i + 4)) (drop (place_of ends c.args.i + 4) text)) c.place-end.ensures
    ∙ payload_is text ends payloads c.args.i h c.requires.there

use Rattle.std.proofs.Common.{◌≡◌, ◌-◌, ◌<◌, ap, ◌∙◌, arith}
use Rattle.std.specs.Prelude.{Err}
use Rattle.demi_audit.specs.Transcript.{links_from}
use Rattle.demi_audit.proofs.Links.{link_bad, links_end, links_followed}
use Rattle.demi_audit.proofs.transcript.read_links.Goals as goal

pub returns-in-Err-clause-bad : goal.returns-in-Err-clause-bad
returns-in-Err-clause-bad c = λ at same.
    let e : c.in-Err.bad ≡ at = cc in
    let some : 0 < c.args.count - c.links.i = omega arith in
    link_bad c.args.bytes.now c.links.places.items (c.args.count - c.links.i) c.links.at c.in-Err.bad (links_from c.args.count c.args.bytes.now c.args.from) some c.links.invariant.upto c.in-Err.ensures.bad ∙ ap Err e

pub returns-then-at-bytes-clause-bad : goal.returns-then-at-bytes-clause-bad
returns-then-at-bytes-clause-bad c = λ at same.
    let e : c.links.at ≡ at = cc in
    let none : c.args.count - c.links.i ≡ 0 = omega arith in
    links_followed c.args.bytes.now c.links.places.items (c.args.count - c.links.i) c.links.at (links_from c.args.count c.args.bytes.now c.args.from) none c.links.invariant.upto c.if-at-bytes.true ∙ ap Err e

pub returns-clause-read : goal.returns-clause-read
returns-clause-read c =
    let none : c.args.count - c.links.i ≡ 0 = omega arith in
    links_end c.args.bytes.now c.links.places.items (c.args.count - c.links.i) c.links.at (links_from c.args.count c.args.bytes.now c.args.from) none c.links.invariant.upto c.if-at-bytes.false

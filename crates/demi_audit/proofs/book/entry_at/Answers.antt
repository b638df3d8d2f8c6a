use Rattle.std.proofs.Common.{◌<◌, length, map, arith, get_or}
use Rattle.demi_spec.specs.Record.{payload}
use Rattle.demi_audit.specs.Past.{no_record}
use Rattle.demi_audit.proofs.Books.{holds_of, is_some, one_length, parts_are, record_cut, record_there}
use Rattle.demi_audit.proofs.Logged.{counted}
use Rattle.demi_audit.proofs.book.entry_at.Goals as goal

pub payload_at-payload-requires-clause-stands : goal.payload_at-payload-requires-clause-stands
payload_at-payload-requires-clause-stands c =
    let r = c.requires in
    (map payload r.0, holds_of c.args.text.now c.args.ends.now r.0 r.1 (omega (arith, r.2)))

pub payload_at-payload-requires-clause-there : goal.payload_at-payload-requires-clause-there
payload_at-payload-requires-clause-there c = let r = c.requires in omega (arith, counted c.args.text.now c.args.ends.now r.0 r.1, r.2)

pub unwrap-parts-requires : goal.unwrap-parts-requires
unwrap-parts-requires c =
    let r = c.requires in
    let p = c.payload_at-payload.result.now in
    is_some p c.parts_of.result (get_or r.0 c.args.i no_record) c.parts_of.ensures.record (record_there c.args.text.now c.args.ends.now r.0 c.args.i p r.1 r.2 c.payload_at-payload.ensures)

pub returns : goal.returns
returns c = λ rs l.
    let r = c.requires in
    let text = c.args.text.now in
    let ends = c.args.ends.now in
    let p = c.payload_at-payload.result.now in
    let parts = c.unwrap-parts.result in
    let here = get_or rs c.args.i no_record in
    let less : c.args.i < length rs = omega (arith, one_length text ends rs r.0 l r.1, r.2) in
    let there = record_there text ends rs c.args.i p l less c.payload_at-payload.ensures in
    record_cut p c.split_at.result.1.now c.split_at-2.result.0.now c.split_at-2.result.1.now parts here c.split_at.ensures.back c.split_at-2.ensures.front c.split_at-2.ensures.back
    (parts_are p c.parts_of.result parts here c.unwrap-parts.ensures c.parts_of.ensures.record there)

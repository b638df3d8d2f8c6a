use Rattle.std.proofs.Common.{◌+◌, map, get_or, arith, ap, length, refl}
use Rattle.demi_spec.specs.Record.{payload}
use Rattle.demi_logq.specs.Logged.{place_of}
use Rattle.demi_audit.proofs.Entering.{head_fits, head_is, key_is, logs_hold, no_record, stands_here}
use Rattle.demi_audit.proofs.Keeping.{entry_indexed, on_ok}
use Rattle.demi_audit.proofs.text_store.index_entry.Goals as goal

pub payload_at-payload-requires-clause-stands : goal.payload_at-payload-requires-clause-stands
payload_at-payload-requires-clause-stands c = (map payload c.requires.logs.0, logs_hold c.args.text.now c.args.ends.now c.requires.logs.0 c.args.i c.requires.logs.1 c.requires.there)

pub key_of-key-requires-clause-head : goal.key_of-key-requires-clause-head
key_of-key-requires-clause-head c =
    let l = c.requires.logs in
    let p = c.payload_at-payload.result.now in
    let s = stands_here c.args.text.now c.args.ends.now l.0 c.args.i p l.1 c.requires.there c.payload_at-payload.ensures in
    omega (arith, head_fits c.args.text.now l.0 c.args.i p (place_of c.args.ends.now c.args.i + 4) (get_or l.0 c.args.i no_record) s)

pub key_of-key-requires-clause-key : goal.key_of-key-requires-clause-key
key_of-key-requires-clause-key c =
    let l = c.requires.logs in
    let p = c.payload_at-payload.result.now in
    let s = stands_here c.args.text.now c.args.ends.now l.0 c.args.i p l.1 c.requires.there c.payload_at-payload.ensures in
    head_fits c.args.text.now l.0 c.args.i p (place_of c.args.ends.now c.args.i + 4) (get_or l.0 c.args.i no_record) s

pub overflow_add-span : goal.overflow_add-span
overflow_add-span c =
    let l = c.requires.logs in
    let p = c.payload_at-payload.result.now in
    let s = stands_here c.args.text.now c.args.ends.now l.0 c.args.i p l.1 c.requires.there c.payload_at-payload.ensures in
    omega (arith, s.within, c.place.ensures)

pub overflow_sub-span : goal.overflow_sub-span
overflow_sub-span c =
    let l = c.requires.logs in
    let p = c.payload_at-payload.result.now in
    let r = get_or l.0 c.args.i no_record in
    let s = stands_here c.args.text.now c.args.ends.now l.0 c.args.i p l.1 c.requires.there c.payload_at-payload.ensures in
    let key = key_is c.args.text.now l.0 c.args.i p (place_of c.args.ends.now c.args.i + 4) r c.key_of-key.result.now s c.key_of-key.ensures in
    omega (arith, head_is c.args.text.now l.0 c.args.i p (place_of c.args.ends.now c.args.i + 4) r s, head_fits c.args.text.now l.0 c.args.i p (place_of c.args.ends.now c.args.i + 4) r s, ap length key)

pub overflow_add-span-2 : goal.overflow_add-span-2
overflow_add-span-2 c =
    let l = c.requires.logs in
    let p = c.payload_at-payload.result.now in
    let r = get_or l.0 c.args.i no_record in
    let s = stands_here c.args.text.now c.args.ends.now l.0 c.args.i p l.1 c.requires.there c.payload_at-payload.ensures in
    let key = key_is c.args.text.now l.0 c.args.i p (place_of c.args.ends.now c.args.i + 4) r c.key_of-key.result.now s c.key_of-key.ensures in
    omega (arith, head_is c.args.text.now l.0 c.args.i p (place_of c.args.ends.now c.args.i + 4) r s, head_fits c.args.text.now l.0 c.args.i p (place_of c.args.ends.now c.args.i + 4) r s, ap length key, s.within, c.place.ensures)

pub returns : goal.returns
returns c =
    on_ok c.set.result
    (λ set rs logs before.
    let p = c.payload_at-payload.result.now in
    entry_indexed c.args.text.now c.args.values.now c.set.new.self rs c.args.i p c.key_of-key.result.now (place_of c.args.ends.now c.args.i + 4) (get_or rs c.args.i no_record) _
    (stands_here c.args.text.now c.args.ends.now rs c.args.i p logs c.requires.there c.payload_at-payload.ensures) c.key_of-key.ensures (ap (λ n. n + 4 + (7 + length c.key_of-key.result.now)) c.place.ensures) refl set before)
    c.set.ensures

use Rattle.std.proofs.Common.{◌≡◌, ◌-◌, ◌<◌, ℕ, List, [], ◌∷◌, ◌++◌, length, take, min, arith, ap, sym, ◌∙◌, subst, Some, length-take}
use Rattle.std.specs.Prelude.{IfSome, Err, slice_index, bytes_eq}
use Rattle.std.proofs.Common.{cond}
use Rattle.std.specs.Int.{w16, w32, to_be_bytes}
use Rattle.demi_spec.specs.Record.{records_from}
use Rattle.demi_store.specs.Openings.{payload_told, heard}
use Rattle.demi_store.proofs.Heard.{Spells}
use Rattle.demi_store.proofs.Opened.{bad_read, read_more, length_told}
use Rattle.demi_store.proofs.opening.read_one.Goals as goal

pub slice_bounds-room-end : goal.slice_bounds-room-end
slice_bounds-room-end g c =
    let w = c.count-entries.ensures.stands c.requires.lost in
    let count = c.in_ok-count.ensures.size w.payloads w.holds in
    omega (arith, count, c.front.auto.room)

pub slice_bounds-head-end : goal.slice_bounds-head-end
slice_bounds-head-end g c =
    let w = c.count-entries.ensures.stands c.requires.lost in
    let count = c.in_ok-count.ensures.size w.payloads w.holds in
    omega (arith, count, c.front.auto.room, length-take c.in_ok-count.count c.front.new.room)

pub fits_record-requires : goal.fits_record-requires
fits_record-requires g c =
    let w = c.count-entries.ensures.stands c.requires.lost in
    let count = c.in_ok-count.ensures.size w.payloads w.holds in
    let size = c.span-span.ensures.size w.payloads w.holds in
    omega (arith, count, size, c.front.auto.room, length-take c.in_ok-count.count c.front.new.room)

pub key_of-requires-clause-key : goal.key_of-requires-clause-key
key_of-requires-clause-key g c =
    let w = c.count-entries.ensures.stands c.requires.lost in
    let count = c.in_ok-count.ensures.size w.payloads w.holds in
    let size = c.span-span.ensures.size w.payloads w.holds in
    let f = c.fits_record.ensures.fits.0 c.if-not-fits_record.false in
    let small = c.fits_record.ensures.small c.if-not-fits_record.false in
    let f2 = f.2 in
    omega (arith, count, size, c.front.auto.room, length-take c.in_ok-count.count c.front.new.room)

pub returns-then-not-fits_record-clause-bad : goal.returns-then-not-fits_record-clause-bad
returns-then-not-fits_record-clause-bad g c = λ at e payloads h.
    let n = c.in_ok-count.count in
    let count = c.in_ok-count.ensures.size payloads h in
    let size = c.span-span.ensures.size payloads h in
    let place : c.span-span.result.0 - 4 ≡ at = cc in
    let t = c.requires.read in
    let long : length (take n c.front.new.room) ≡ n = omega (arith, count, c.front.auto.room, length-take n c.front.new.room) in
    subst (λ m. IfSome (g.D.Disk.bytes c.args.log.now.disk) (λ _. records_from 8 payloads ≡ Err m)) place
    (bad_read (g.D.Disk.bytes c.args.log.now.disk) c.args.log.now.ends payloads c.args.records.now.value c.args.i n c.span-span.result.1 c.span-span.result.0 c.front.new.room h (t.alike payloads h) t.fits c.requires.there size long
    (count ∙ ap (min 262) (sym size)) (c.in_ok-count.ensures.part payloads h) (λ f. let t = c.fits_record.ensures.fits.1 f in let u = c.if-not-fits_record.true in let v = c.if-not-fits_record.ensures in absurd (cc)) c.span-span.ensures.place)

pub returns-clause-read : goal.returns-clause-read
returns-clause-read g c =
    let w = c.count-entries.ensures.stands c.requires.lost in
    let n = c.in_ok-count.count in
    let count = c.in_ok-count.ensures.size w.payloads w.holds in
    let size = c.span-span.ensures.size w.payloads w.holds in
    let disk : g.D.Disk.bytes c.front.new.self.disk ≡ g.D.Disk.bytes c.args.log.now.disk = c.in_ok-count.ensures.same_bytes in
    let head : List ℕ = take n c.front.new.room in
    let f = c.fits_record.ensures.fits.0 c.if-not-fits_record.false in
    let told = g.D.Disk.bytes c.args.log.now.disk in
    let long = g.met.D.Disk.told_held c.args.log.now.disk in
    let small : slice_index head 6 < 256 = c.fits_record.ensures.small c.if-not-fits_record.false in
    let p : List ℕ = payload_told told c.span-span.result.0 c.span-span.result.1 in
    let s : Spells head c.span-span.result.1 p = record {
      long = length_told told (g.D.Disk.held c.args.log.now.disk) c.span-span.result.0 c.span-span.result.1 long c.span-span.ensures.within;
      front = omega (arith, count, size, c.front.auto.room, length-take n c.front.new.room);
      small = small;
      link = ap (to_be_bytes w16) (sym c.link_of-link.ensures.value) ∙ c.link_of-link.ensures.spelled;
      link_fits = omega (arith, c.link_of-link.ensures.value, c.link_of-link.ensures.fits);
      index = ap (to_be_bytes w32) (sym c.index_of-index.ensures.value) ∙ c.index_of-index.ensures.spelled;
      index_fits = omega (arith, c.index_of-index.ensures.value, c.index_of-index.ensures.fits);
    } in
    let grown : c.both.result.value ≡ c.args.records.now.value ++ heard p head ∷ [] =
    c.both.ensures
    ∙ ap (λ l. c.args.records.now.value ++ l)
    (c.heard_record.ensures ∙ ap (λ (q : List ℕ). heard q head ∷ []) (c.told_at-payload.ensures ∙ ap (λ o. payload_told o c.span-span.result.0 c.span-span.result.1) (c.told.ensures ∙ disk))) in
    read_more told (g.D.Disk.held c.args.log.now.disk) c.args.log.now.ends c.args.index.now c.set.new.self c.args.records.now.value c.both.result.value c.args.i n c.span-span.result.1 c.span-span.result.0 c.front.new.room c.in_ok-key.key.items
    c.requires.read long c.span-span.ensures.within c.requires.there c.span-span.ensures.place (λ payloads h. c.span-span.ensures.size payloads h) s f (omega (arith, count, c.front.auto.room, length-take n c.front.new.room))
    (λ payloads h. c.in_ok-count.ensures.part payloads h) c.in_ok-key.ensures
    (λ other. c.set.ensures other ∙ ap (λ o. cond (bytes_eq c.in_ok-key.key.items other) (Some c.args.i) o) (c.in_ok-make_room.ensures.same other)) grown

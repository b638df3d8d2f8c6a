use Rattle.std.proofs.Common.{◌≡◌, ◌+◌, ◌-◌, ◌<◌, ◌++◌, ◌∷◌, [], ℕ, List, length, take, drop, arith, ap, sym, ◌∙◌, subst, length-take, length-drop}
use Rattle.std.specs.Prelude.{IfSome, Err, slice_index}
use Rattle.std.specs.Int.{w16, w32, to_be_bytes}
use Rattle.demi_spec.specs.Record.{Record, records_from}
use Rattle.demi_store.specs.Openings.{payload_told, heard}
use Rattle.demi_store.proofs.Heard.{Spells}
use Rattle.demi_store.proofs.Opened.{bad_read, length_told}
use Rattle.demi_cli.specs.declared.head.Head.{Head}
use Rattle.demi_cli.proofs.HeadReads.{head_more, head_is}
use Rattle.demi_cli.proofs.reading.read_head.Goals as goal

pub returns-then-not-fits_record-clause-bad : goal.returns-then-not-fits_record-clause-bad
returns-then-not-fits_record-clause-bad g c = λ at e payloads h.
    let n = c.in_ok-count.count in
    let count = c.in_ok-count.ensures.size payloads h in
    let size = c.span-span.ensures.size payloads h in
    let place : c.span-span.result.0 - 4 ≡ at = cc in
    let t = c.requires.read in
    let long : length (take n c.front.new.room) ≡ n = omega (arith, count, c.front.auto.room, length-take n c.front.new.room) in
    subst (λ m. IfSome (g.D.Disk.bytes c.args.log.now.disk) (λ _. records_from 8 payloads ≡ Err m)) place
    (bad_read (g.D.Disk.bytes c.args.log.now.disk) c.args.log.now.ends payloads t.records c.args.i n c.span-span.result.1 c.span-span.result.0 c.front.new.room h (t.alike payloads h) t.fits c.requires.there size long
    (omega (arith, count, size)) (c.in_ok-count.ensures.part payloads h) (λ f. let t = c.fits_record.ensures.fits.1 f in let u = c.if-not-fits_record.true in let v = c.if-not-fits_record.ensures in absurd (cc)) c.span-span.ensures.place)

pub returns-clause-read : goal.returns-clause-read
returns-clause-read g c =
    let w = c.count-entries.ensures.stands c.requires.lost in
    let n = c.in_ok-count.count in
    let count = c.in_ok-count.ensures.size w.payloads w.holds in
    let size = c.span-span.ensures.size w.payloads w.holds in
    let head : List ℕ = take n c.front.new.room in
    let f = c.fits_record.ensures.fits.0 c.if-not-fits_record.false in
    let told = g.D.Disk.bytes c.args.log.now.disk in
    let long = g.met.D.Disk.told_held c.args.log.now.disk in
    let small : slice_index head 6 < 256 = c.fits_record.ensures.small c.if-not-fits_record.false in
    let p : List ℕ = payload_told told c.span-span.result.0 c.span-span.result.1 in
    let s : Spells head c.span-span.result.1 p = record {
      long = length_told told (g.D.Disk.held c.args.log.now.disk) c.span-span.result.0 c.span-span.result.1 long c.span-span.ensures.within;
      front = omega (arith, count, size, c.front.auto.room, length-take n c.front.new.room);
      small = small;
      link = ap (to_be_bytes w16) (sym c.link_of-link.ensures.value) ∙ c.link_of-link.ensures.spelled;
      link_fits = omega (arith, c.link_of-link.ensures.value, c.link_of-link.ensures.fits);
      index = ap (to_be_bytes w32) (sym c.index_of-index.ensures.value) ∙ c.index_of-index.ensures.spelled;
      index_fits = omega (arith, c.index_of-index.ensures.value, c.index_of-index.ensures.fits);
    } in
    let r : Record = heard p head in
    let k = slice_index head 6 in
    let one : 7 + k - 7 ≡ k = omega arith in
    let value : c.span-span.result.1 - (7 + k) ≡ length r.value = omega (arith, length-drop (7 + k) p, s.long) in
    let e = c.in_ok-push.ensures in
    head_more told (g.D.Disk.held c.args.log.now.disk) c.args.log.now.ends c.args.heads.now c.push.new.self c.args.i n c.span-span.result.1 c.span-span.result.0 c.front.new.room
    c.requires.read long c.requires.there c.span-span.ensures.place (λ payloads h. c.span-span.ensures.size payloads h) s f (omega (arith, count, c.front.auto.room, length-take n c.front.new.room))
    (λ payloads h. c.in_ok-count.ensures.part payloads h)
    (e.heads ∙ ap (λ (x : Head). c.args.heads.now.heads.items ++ x ∷ []) (head_is _ _ _ _ r c.link_of-link.ensures.value c.index_of-index.ensures.value value (ap (λ m. length (take m (drop 7 head))) one)))
    (e.keys ∙ ap (λ m. c.args.heads.now.keys.items ++ take m (drop 7 head)) one)

use Rattle.std.proofs.Common.{◌≡◌, ◌+◌, ◌-◌, ◌<◌, ◌≤◌, ℕ, [], length, refl, arith, sym, ◌∙◌, subst, get_or, map, ap}
use Rattle.demi_buf.specs.Bufs.{size_of}
use Rattle.demi_buf.specs.declared.class.Class.{Class}
use Rattle.demi_heap.specs.Seen.{HalfValue}
use Rattle.demi_spec.specs.Record.{payload}
use Rattle.demi_store.proofs.Shelving.{counted, none_has, entry_within, sized_length, value_at, value_read}
use Rattle.demi_store.proofs.shelf.Shelf.fetch.Goals as goal

pub span-requires-clause-there : goal.span-requires-clause-there
span-requires-clause-there g c =
    let k = c.requires.kept in
    let count = counted _ _ c.args.records.now.value k.holds in
    let less : c.in-Some-get.entry < length c.args.records.now.value = entry_within c.args.records.now.value c.args.key.now c.in-Some-get.entry (sym (k.entries c.args.key.now) ∙ sym c.in-Some-get.ensures) in
    omega arith

pub returns-in_default-get-clause-got : goal.returns-in_default-get-clause-got
returns-in_default-get-clause-got g c =
    let k = c.requires.kept in
    let count = counted _ _ c.args.records.now.value k.holds in
    let none = none_has c.args.records.now.value c.args.key.now (sym (k.entries c.args.key.now) ∙ sym c.in_default-get.ensures) in
    (c.in_default.is, c.in_default.is, c.count-version.ensures.count ∙ count, none, ap (λ (h : HalfValue). length h.bytes) c.set_len-in_default-get.ensures ∙ sized_length 0 c.args.room.now.bytes, refl)

pub overflow_sub-size : goal.overflow_sub-size
overflow_sub-size g c =
    let k = c.requires.kept in
    let v = value_at (g.D.Disk.bytes c.args.self.now.log.disk) c.args.records.now.value c.args.key.now c.in-Some-get.entry (7 + length c.args.key.now) k.fits (sym (k.entries c.args.key.now) ∙ sym c.in-Some-get.ensures) refl in
    let size = c.span.ensures.size (map payload c.args.records.now.value) k.holds in let long = v.3 in
    omega arith

pub set_len-requires-2 : goal.set_len-requires-2
set_len-requires-2 g c =
    let k = c.requires.kept in
    let v = value_at (g.D.Disk.bytes c.args.self.now.log.disk) c.args.records.now.value c.args.key.now c.in-Some-get.entry (7 + length c.args.key.now) k.fits (sym (k.entries c.args.key.now) ∙ sym c.in-Some-get.ensures) refl in
    let size = c.span.ensures.size (map payload c.args.records.now.value) k.holds in let long = v.3 in let most = v.4 in
    subst (λ (l : Class). c.span.result.1 - (7 + length c.args.key.now) ≤ size_of l) (sym c.requires.room) (omega arith)

pub read_part-requires-clause-there : goal.read_part-requires-clause-there
read_part-requires-clause-there g c =
    let k = c.requires.kept in
    let count = counted _ _ c.args.records.now.value k.holds in
    let less : c.in-Some-get.entry < length c.args.records.now.value = entry_within c.args.records.now.value c.args.key.now c.in-Some-get.entry (sym (k.entries c.args.key.now) ∙ sym c.in-Some-get.ensures) in
    omega arith

pub returns-in-Ok-clause-got : goal.returns-in-Ok-clause-got
returns-in-Ok-clause-got g c =
    let k = c.requires.kept in
    let records = c.args.records.now.value in
    let count = counted _ _ records k.holds in
    let here = sym (k.entries c.args.key.now) ∙ sym c.in-Some-get.ensures in
    let from = 7 + length c.args.key.now in
    let size = c.span.ensures.size (map payload records) k.holds in
    let given : length c.set_len-2.new.self.bytes ≡ length (get_or (map payload records) c.in-Some-get.entry []) - from =
    ap (λ (h : HalfValue). length h.bytes) c.set_len-2.ensures ∙ sized_length (c.span.result.1 - from) c.args.room.now.bytes ∙ ap (λ (n : ℕ). n - from) size in (
      c.in_default.is,
      c.in_default.is,
      c.count-version.ensures.count ∙ count,
      value_read (g.D.Disk.bytes c.args.self.now.log.disk) records c.args.key.now c.read_part.new.room.bytes c.in-Some-get.entry from k.fits here refl
          (c.read_part.ensures.same_room.3 ∙ given) (c.in-Ok.ensures.part (map payload records) k.holds given),
    )

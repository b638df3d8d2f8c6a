use Rattle.std.proofs.Common.{◌+◌, ◌<◌, length, refl, arith, sym, ◌∙◌, map}
use Rattle.demi_spec.specs.Record.{payload}
use Rattle.demi_store.proofs.Shelving.{counted, none_has, entry_within, value_got}
use Rattle.demi_store.proofs.shelf.Shelf.get.Goals as goal

pub returns-in_default-get-clause-got : goal.returns-in_default-get-clause-got
returns-in_default-get-clause-got g c =
    let k = c.requires.kept in
    let count = counted _ _ c.args.records.now.value k.holds in
    let none = none_has c.args.records.now.value c.args.key.now (sym (k.entries c.args.key.now) ∙ sym c.in_default-get.ensures) in
    (c.in_default.is, c.in_default.is, c.count-version.ensures.count ∙ count, none, refl, refl)

pub part-requires-clause-there : goal.part-requires-clause-there
part-requires-clause-there g c =
    let k = c.requires.kept in
    let count = counted _ _ c.args.records.now.value k.holds in
    let less : c.in-Some-get.entry < length c.args.records.now.value = entry_within c.args.records.now.value c.args.key.now c.in-Some-get.entry (sym (k.entries c.args.key.now) ∙ sym c.in-Some-get.ensures) in
    omega arith

pub returns-in-Ok-clause-got : goal.returns-in-Ok-clause-got
returns-in-Ok-clause-got g c =
    let k = c.requires.kept in
    let records = c.args.records.now.value in
    let count = counted _ _ records k.holds in
    let e = c.in-Ok.ensures in
    let here = sym (k.entries c.args.key.now) ∙ sym c.in-Some-get.ensures in (
      c.in_default.is,
      c.in_default.is,
      c.count-version.ensures.count ∙ count,
      value_got (g.D.Disk.bytes c.args.self.now.log.disk) records c.args.key.now c.part.new.room c.in-Some-get.entry c.in-Ok.count (length c.args.room.now) (7 + length c.args.key.now) k.fits here c.requires.room refl
          (e.size (map payload records) k.holds) (e.part (map payload records) k.holds),
    )

pub returns-in-Ok-clause-size : goal.returns-in-Ok-clause-size
returns-in-Ok-clause-size g c = omega (arith, c.requires.room, c.in-Ok.ensures.size (map payload c.args.records.now.value) c.requires.kept.holds)

use Rattle.std.proofs.Common.{◌≡◌, ◌+◌, ◌-◌, ◌<◌, length, arith, ◌∙◌, sym, ap, subst, inl, inr, ◌⊎◌, not, true, min, ◌++◌, ◌∷◌, []}
use Rattle.std.specs.Prelude.{bytes_eq}
use Rattle.demi_spec.specs.LogText.{header}
use Rattle.demi_logq.proofs.Places.{no_header, short_field, wrong_field, entry_found, bad_at, told_as}
use Rattle.demi_logq.specs.Reading.{IsAhead}
use Rattle.demi_logq.proofs.find.find_entries.Goals as goal
use Rattle.demi_logq.proofs.find.find_entries.Goals.{then-count-lt8-via-then-count-lt8, then-count-lt8-via-else-count-lt8+then-ne, then-length-eq0-via-then-length-eq0, then-length-eq0-via-else-length-eq0+then-length, then-length-eq0-via-else-length-eq0+else-length+then-length-size}

pub returns-then-count-lt8-clause-bad : goal.returns-then-count-lt8-clause-bad
returns-then-count-lt8-clause-bad g c =
    let e = c.in_ok-count.ensures in
    let bytes = g.D.Disk.bytes c.args.disk.now in
    let long = g.met.D.Disk.told_held c.args.disk.now in
    let why : (c.in_ok-count.count < 8) ⊎ (not (bytes_eq c.read_full.new.room header) ≡ true) = elim c.then-count-lt8.branch [
      | then-count-lt8-via-then-count-lt8 w ↦ inl w.if-count-lt8.true
      | then-count-lt8-via-else-count-lt8+then-ne w ↦ inr (sym w.ne.ensures ∙ w.if-ne.true)
    ] in
    let eight : length c.read_full.new.room ≡ 8 = omega (arith, c.read_full.auto.room) in
    let whole : c.in_ok-count.count ≡ min 8 (g.D.Disk.held c.args.disk.now - 0) = e.count ∙ ap (λ n. min n (g.D.Disk.held c.args.disk.now - 0)) eight in
    bad_at bytes 0 (no_header bytes (g.D.Disk.held c.args.disk.now) c.in_ok-count.count c.read_full.new.room long (omega arith) whole eight e.bytes why)

pub returns-then-count-lt-LENGTH_BYTES-clause-bad : goal.returns-then-count-lt-LENGTH_BYTES-clause-bad
returns-then-count-lt-LENGTH_BYTES-clause-bad g c =
    let bytes = g.D.Disk.bytes c.args.disk.now in
    let held = g.D.Disk.held c.args.disk.now in
    let four : length c.read.new.room ≡ 4 = omega (arith, c.read.auto.room) in
    let whole : c.in_ok-count-2.count ≡ min 4 (held - c.finding.at) = omega (arith, c.in_ok-count-2.ensures.count) in
    bad_at bytes c.finding.at (short_field bytes held c.finding.ends.items c.finding.at c.in_ok-count-2.count c.finding.invariant.found (g.met.D.Disk.told_held c.args.disk.now) (omega arith) whole (omega arith))

pub returns-then-length-eq0-clause-bad : goal.returns-then-length-eq0-clause-bad
returns-then-length-eq0-clause-bad g c =
    let bytes = g.D.Disk.bytes c.args.disk.now in
    let held = g.D.Disk.held c.args.disk.now in
    let at = c.finding.at in
    let n = c.number_of-length.result in
    let room = c.read.new.room in
    let four : length room ≡ 4 = omega (arith, c.read.auto.room) in
    let whole : c.in_ok-count-2.count ≡ min 4 (held - at) = omega (arith, c.in_ok-count-2.ensures.count) in
    let read = told_as _ bytes c.in_ok-count-2.count at room c.finding.invariant.same_bytes c.in_ok-count-2.ensures.bytes in
    let why : (n ≡ 0) ⊎ ((65798 < n) ⊎ (held - at - 4 < n)) = elim c.then-length-eq0.branch [
      | then-length-eq0-via-then-length-eq0 w ↦ inl w.if-length-eq0.true
      | then-length-eq0-via-else-length-eq0+then-length w ↦ inr (inl w.if-length.true)
      | then-length-eq0-via-else-length-eq0+else-length+then-length-size w ↦ inr (inr (omega (arith, w.if-length-size.true)))
    ] in
    bad_at bytes at (wrong_field bytes held c.finding.ends.items at c.in_ok-count-2.count n room c.finding.invariant.found (g.met.D.Disk.told_held c.args.disk.now) (omega arith) whole (omega arith) four read c.number_of-length.ensures.value why)

pub finding-preserved : goal.finding-preserved
finding-preserved g c =
    let bytes = g.D.Disk.bytes c.args.disk.now in
    let held = g.D.Disk.held c.args.disk.now in
    let at = c.finding.at in
    let n = c.number_of-length.result in
    let room = c.read.new.room in
    let i = c.finding.invariant in
    let e = c.in_ok-count-2.ensures in
    let four : length room ≡ 4 = omega (arith, c.read.auto.room) in
    let whole : c.in_ok-count-2.count ≡ min 4 (held - at) = omega (arith, e.count) in
    let read = told_as _ bytes c.in_ok-count-2.count at room i.same_bytes e.bytes in
    let grown : c.push.new.self.items ≡ c.finding.ends.items ++ (at + (4 + n)) ∷ [] = c.in_ok-push.ensures.items in
    record {
      found = entry_found bytes held c.finding.ends.items c.push.new.self.items at c.in_ok-count-2.count n room i.found (g.met.D.Disk.told_held c.args.disk.now) whole (omega arith) four
          c.number_of-length.ensures.spelled read (omega arith) (omega arith) (omega arith) grown;
      ahead =
          subst (λ o. IsAhead o held c.read.new.self) i.same_bytes
          (subst (λ n. IsAhead (g.D.Disk.bytes c.finding.disk) n c.read.new.self) i.same_held e.ahead);
      room = omega (arith, e.room, i.room);
      within = omega arith;
      same_held = e.same_held ∙ i.same_held;
      same_bytes = e.same_bytes ∙ i.same_bytes;
      calls = g.met.D.Disk.looks_on _ _ _ i.calls e.calls;
      later = omega (arith, e.cause.later);
    }

pub read-requires : goal.read-requires
read-requires g c =
    let i = c.finding.invariant in
    record {
      at = omega (arith, i.within);
      size = omega (arith, i.room);
      ahead =
          subst (λ o. IsAhead o (g.D.Disk.held c.finding.disk) c.finding.ahead) (sym i.same_bytes)
          (subst (λ n. IsAhead (g.D.Disk.bytes c.args.disk.now) n c.finding.ahead) (sym i.same_held) i.ahead);
    }

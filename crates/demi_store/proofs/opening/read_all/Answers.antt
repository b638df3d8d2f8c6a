use Rattle.std.proofs.Common.{◌≡◌, ◌+◌, ◌≤◌, ℕ, List, [], length, arith, ap, sym, ◌∙◌, subst, Option, refl}
use Rattle.std.specs.Prelude.{IfSome, Err}
use Rattle.demi_spec.specs.Record.{records_from}
use Rattle.demi_logq.specs.Logged.{Logged, Holds}
use Rattle.demi_logq.specs.Reading.{IsAhead}
use Rattle.std.specs.List.{AllByRecursion}
use Rattle.std.proofs.Common.{take, drop, Some, None}
use Rattle.demi_spec.specs.Record.{Record, IsRecord}
use Rattle.demi_logq.specs.declared.ahead.Ahead.{Ahead}
use Rattle.demi_store.specs.Finding.{last_with}
use Rattle.demi_store.specs.Openings.{ReadTo, Alike}
use Rattle.demi_store.proofs.Opened.{all_alike, holds_records, text_read, text_bad}
use Rattle.demi_store.proofs.opening.read_all.Goals as goal

none_ahead : (told : Option (List ℕ)) (held : ℕ) (a : Ahead) → a.count ≡ 0 → IsAhead told held a
none_ahead told held a none = record {
  within = omega arith;
  there = omega arith;
  bytes = bytes_of told;
}
  where
    bytes_of : (o : Option (List ℕ)) → IfSome o (λ b. take a.count a.room.items ≡ take a.count (drop a.from b))
    bytes_of None = tt
    bytes_of (Some b) = ap (λ n. take n a.room.items) none ∙ sym (ap (λ n. take n (drop a.from b)) none)

pub reading-init : goal.reading-init
reading-init g c = record {
  read = record {
    alike = λ payloads h. subst (λ (l : List Record). Alike (g.D.Disk.bytes c.args.log.now.disk) [] l) (sym c.requires.no_records) tt;
    fits = subst (λ (l : List Record). AllByRecursion IsRecord l) (sym c.requires.no_records) tt;
    entries = λ key. c.requires.none key ∙ ap (λ (l : List Record). last_with l key) (sym c.requires.no_records);
    count = ap (λ (l : List Record). length l) c.requires.no_records;
  };
  ahead = none_ahead _ _ c.in_ok-ahead.ahead c.in_ok-ahead.ensures.none;
  room = omega (arith, c.in_ok-ahead.ensures.room);
  same = refl;
  same_bytes = refl;
  same_held = refl;
  calls = g.met.D.Disk.looks_same c.args.log.now.disk;
  later = omega arith;
}

pub read_one-requires : goal.read_one-requires
read_one-requires g c =
    let i = c.reading.invariant in
    let ends : c.reading.log.ends ≡ c.args.log.now.ends = ap (λ (l : Logged g.row.D.Denot). l.ends) i.same in
    record {
      lost = ap (λ (l : Logged g.row.D.Denot). l.lost) i.same ∙ c.requires.lost;
      there = omega (arith, ap length ends, c.count-count.ensures.count);
      ahead = subst (λ o. IsAhead o (g.D.Disk.held c.reading.log.disk) c.reading.ahead) (sym i.same_bytes) (subst (λ n. IsAhead (g.D.Disk.bytes c.args.log.now.disk) n c.reading.ahead) (sym i.same_held) i.ahead);
      room = i.room;
      read = subst (λ o. ReadTo o c.reading.log.ends c.reading.index c.reading.records.value c.reading.i) (sym i.same_bytes) (subst (λ (l : List ℕ). ReadTo (g.D.Disk.bytes c.args.log.now.disk) l c.reading.index c.reading.records.value c.reading.i) (sym ends) i.read);
    }

pub reading-preserved : goal.reading-preserved
reading-preserved g c =
    let i = c.reading.invariant in
    let e = c.in-Ok.ensures in
    let ends : c.reading.log.ends ≡ c.args.log.now.ends = ap (λ (l : Logged g.row.D.Denot). l.ends) i.same in
    record {
      read = subst (λ o. ReadTo o c.args.log.now.ends c.read_one.new.index c.read_one.new.records.value (c.reading.i + 1)) i.same_bytes
          (subst (λ (l : List ℕ). ReadTo (g.D.Disk.bytes c.reading.log.disk) l c.read_one.new.index c.read_one.new.records.value (c.reading.i + 1)) ends e.read);
      ahead = subst (λ o. IsAhead o (g.D.Disk.held c.args.log.now.disk) c.read_one.new.ahead) i.same_bytes (subst (λ n. IsAhead (g.D.Disk.bytes c.reading.log.disk) n c.read_one.new.ahead) i.same_held e.ahead);
      room = omega (arith, e.room, i.room);
      same = e.same ∙ ap (λ (l : Logged g.row.D.Denot). record l { disk = c.read_one.new.log.disk }) i.same;
      same_bytes = e.same_bytes ∙ i.same_bytes;
      same_held = e.same_held ∙ i.same_held;
      calls = g.met.D.Disk.looks_on _ _ _ i.calls e.calls;
      later = omega (arith, e.later, i.later);
    }

at_end : (i n m : ℕ) → n ≡ m → n ≤ i → i ≤ n → i ≡ m
at_end i n m is low high = omega arith

pub returns-clause-read : goal.returns-clause-read
returns-clause-read g c =
    let i = c.reading.invariant in
    let end = at_end c.reading.i c.count-count.result (length c.args.log.now.ends) c.count-count.ensures.count c.reading-test.false c.reading.auto.i-end in
    subst (λ n. ReadTo (g.D.Disk.bytes c.args.log.now.disk) c.args.log.now.ends c.reading.index c.reading.records.value n) end i.read

pub returns-clause-holds : goal.returns-clause-holds
returns-clause-holds g c =
    let i = c.reading.invariant in
    let w = c.count-count.ensures.stands c.requires.lost in
    let end = at_end c.reading.i c.count-count.result (length c.args.log.now.ends) c.count-count.ensures.count c.reading-test.false c.reading.auto.i-end in
    let alike = all_alike _ _ w.payloads c.reading.records.value c.reading.i w.holds end (i.read.alike w.payloads w.holds) in
    holds_records _ _ w.payloads c.reading.records.value w.holds alike

pub returns-clause-text : goal.returns-clause-text
returns-clause-text g c = λ sound.
    let i = c.reading.invariant in
    let w = c.count-count.ensures.stands c.requires.lost in
    let end = at_end c.reading.i c.count-count.result (length c.args.log.now.ends) c.count-count.ensures.count c.reading-test.false c.reading.auto.i-end in
    let alike = all_alike _ _ w.payloads c.reading.records.value c.reading.i w.holds end (i.read.alike w.payloads w.holds) in
    text_read _ _ _ w.payloads c.reading.records.value w.holds (g.met.D.Disk.told_held c.args.log.now.disk) (w.whole sound) alike i.read.fits

pub returns-in-Err-clause-text_bad : goal.returns-in-Err-clause-text_bad
returns-in-Err-clause-text_bad g c = λ sound at is.
    let i = c.reading.invariant in
    let w = c.count-count.ensures.stands c.requires.lost in
    let bytes = g.D.Disk.bytes in
    let ends : c.reading.log.ends ≡ c.args.log.now.ends = ap (λ (l : Logged g.row.D.Denot). l.ends) i.same in
    let h : Holds (bytes c.reading.log.disk) c.reading.log.ends w.payloads =
    subst (λ o. Holds o c.reading.log.ends w.payloads) (sym i.same_bytes) (subst (λ (l : List ℕ). Holds (bytes c.args.log.now.disk) l w.payloads) (sym ends) w.holds) in
    let bad = c.in-Err.ensures.bad at is w.payloads h in
    text_bad (bytes c.args.log.now.disk) (g.D.Disk.held c.args.log.now.disk) c.args.log.now.ends w.payloads at w.holds (g.met.D.Disk.told_held c.args.log.now.disk) (w.whole sound)
    (subst (λ o. IfSome o (λ _. records_from 8 w.payloads ≡ Err at)) i.same_bytes bad)

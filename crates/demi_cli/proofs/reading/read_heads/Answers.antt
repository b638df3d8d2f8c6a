use Rattle.std.proofs.Common.{◌≡◌, ℕ, List, [], length, arith, ap, sym, ◌∙◌, subst, refl}
use Rattle.std.proofs.Common.{take, drop, Option, Some, None}
use Rattle.std.specs.Prelude.{IfSome, Err}
use Rattle.demi_spec.specs.Record.{records_from}
use Rattle.demi_logq.specs.Logged.{Logged, Holds}
use Rattle.demi_logq.specs.Reading.{IsAhead}
use Rattle.demi_logq.specs.declared.ahead.Ahead.{Ahead}
use Rattle.demi_store.proofs.Opened.{text_bad}
use Rattle.demi_cli.proofs.HeadReads.{heads_all}
use Rattle.demi_cli.proofs.reading.read_heads.Goals as goal

none_ahead : (told : Option (List ℕ)) (held : ℕ) (a : Ahead) → a.count ≡ 0 → IsAhead told held a
none_ahead told held a none = record {
  within = omega arith;
  there = omega arith;
  bytes = bytes_of told;
}
  where
    bytes_of : (o : Option (List ℕ)) → IfSome o (λ b. take a.count a.room.items ≡ take a.count (drop a.from b))
    bytes_of None = tt
    bytes_of (Some b) = ap (λ n. take n a.room.items) none ∙ sym (ap (λ n. take n (drop a.from b)) none)

pub reading-init : goal.reading-init
reading-init g c = record {
  read = record {
    records = [];
    alike = λ payloads h. tt;
    fits = tt;
    heads_of = c.new-heads.ensures;
    count_is = refl;
  };
  ahead = none_ahead _ _ c.in_ok-ahead.ahead c.in_ok-ahead.ensures.none;
  ahead_room = omega (arith, c.in_ok-ahead.ensures.room);
  room = refl;
  same = refl;
  same_bytes = refl;
  same_held = refl;
  calls = g.met.D.Disk.looks_same c.args.log.now.disk;
  later = omega arith;
}

pub returns-in-Err-clause-bad : goal.returns-in-Err-clause-bad
returns-in-Err-clause-bad g c = λ at is.
    let i = c.reading.invariant in
    let w = c.count-count.ensures.stands c.requires.lost in
    let bytes = g.D.Disk.bytes in
    let ends : c.reading.log.ends ≡ c.args.log.now.ends = ap (λ (l : Logged g.row.D.Denot). l.ends) i.same in
    let h : Holds (bytes c.reading.log.disk) c.reading.log.ends w.payloads =
    subst (λ o. Holds o c.reading.log.ends w.payloads) (sym i.same_bytes) (subst (λ (l : List ℕ). Holds (bytes c.args.log.now.disk) l w.payloads) (sym ends) w.holds) in
    let bad = c.in-Err.ensures.bad at is w.payloads h in
    text_bad (bytes c.args.log.now.disk) (g.D.Disk.held c.args.log.now.disk) c.args.log.now.ends w.payloads at w.holds (g.met.D.Disk.told_held c.args.log.now.disk) (w.whole c.requires.whole)
    (subst (λ o. IfSome o (λ _. records_from 8 w.payloads ≡ Err at)) i.same_bytes bad)

pub returns-clause-read : goal.returns-clause-read
returns-clause-read g c =
    let i = c.reading.invariant in
    let w = c.count-count.ensures.stands c.requires.lost in
    let all : c.reading.i ≡ length c.args.log.now.ends = omega (arith, c.count-count.ensures.count, c.reading-test.false, c.reading.auto.i-end) in
    heads_all _ _ _ c.reading.heads c.reading.i w.payloads i.read all w.holds (g.met.D.Disk.told_held c.args.log.now.disk) (w.whole c.requires.whole)

use Rattle.std.proofs.Common.{ℕ, arith, ◌∙◌, length-drop, length-append}
use Rattle.std.proofs.lemmas.List.{length-take}
use Rattle.demi_logq.proofs.ReadOn.{more_read}
use Rattle.demi_logq.proofs.reading.read_full.Goals as goal

pub reading-preserved : goal.reading-preserved
reading-preserved g c =
    let i = c.reading.invariant in
    let e = c.in_ok-more.ensures in
    record {
      within = omega (arith, length-take {A = ℕ}, length-drop {A = ℕ}, length-append {A = ℕ}, e.within, c.read_at.auto.room);
      there = omega (arith, e.there);
      bytes = more_read _ _ c.reading.count c.in_ok-more.more c.args.at _ c.reading.room c.read_at.new.room i.same_bytes i.within e.within i.bytes e.bytes;
      same_held = e.same_held ∙ i.same_held;
      same_bytes = e.same_bytes ∙ i.same_bytes;
      calls = g.met.D.Disk.looks_on _ _ _ i.calls e.call;
      later = omega (arith, e.cause.later);
    }

use Rattle.std.proofs.Common.{arith, refl}
use Rattle.demi_spec.specs.Input.{Clean, Refused}
use Rattle.demi_spec.specs.Request.{Get, Put}
use Rattle.demi_audit.specs.Inputs.{left}
use Rattle.demi_audit.proofs.Counting.{counted_all, counted_end, counted_next}
use Rattle.demi_audit.proofs.InOrder.{left_shorter}
use Rattle.demi_audit.proofs.summing.count_requests.Goals as goal

pub tallying-preserved-in-Put : goal.tallying-preserved-in-Put
tallying-preserved-in-Put c =
    let i = c.tallying.invariant in
    let h = c.in-Put.ensures in
    let t = c.tallying.tally in
    record {
      so = counted_next c.args.input.now (left c.tallying.reader) (left c.next.new.self) t _ (Put h.0 h.1) i.so h.2.takes h.2.goes_on (record { puts = refl; gets = omega arith; ends = omega arith });
      reader = h.2.reader;
      fits = omega (arith, i.fits, left_shorter (left c.tallying.reader) (left c.next.new.self) (Put h.0 h.1) h.2.takes);
    }

pub tallying-preserved : goal.tallying-preserved
tallying-preserved c =
    let i = c.tallying.invariant in
    let h = c.in-Get.ensures in
    let t = c.tallying.tally in
    record {
      so = counted_next c.args.input.now (left c.tallying.reader) (left c.next.new.self) t _ (Get h.0) i.so h.1.takes h.1.goes_on (record { puts = omega arith; gets = refl; ends = omega arith });
      reader = h.1.reader;
      fits = omega (arith, i.fits, left_shorter (left c.tallying.reader) (left c.next.new.self) (Get h.0) h.1.takes);
    }

pub returns-in-End-clause-counts : goal.returns-in-End-clause-counts
returns-in-End-clause-counts c =
    counted_end c.args.input.now (left c.tallying.reader) (left c.next.new.self) c.tallying.tally _ c.tallying.invariant.so c.in-End.ensures (record { puts = omega arith; gets = omega arith; ends = refl })

pub returns-in-Refused-clause-counts : goal.returns-in-Refused-clause-counts
returns-in-Refused-clause-counts c = counted_all c.args.input.now (left c.tallying.reader) c.tallying.tally (Refused c.in-Refused.field-0) c.tallying.invariant.so c.in-Refused.ensures

pub returns-in-Clean-clause-counts : goal.returns-in-Clean-clause-counts
returns-in-Clean-clause-counts c = counted_all c.args.input.now (left c.tallying.reader) c.tallying.tally Clean c.tallying.invariant.so c.in-Clean.ensures

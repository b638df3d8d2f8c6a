use Rattle.std.proofs.Common.{◌≡◌, ℕ, ◌<◌, length, sym, subst}
use Rattle.demi_port_core.specs.History.{AnyOf, total}
use Rattle.demi_port.specs.Seen.{PassValue}
use Rattle.demi_pdpix.specs.Lanes.{IsEndOf, LaneValue}
use Rattle.demi_pdpix.proofs.lane.Lane.close.Goals as goal

pub returns : goal.returns
returns g c = let e = c.close.ensures in
    subst (λ (l : LaneValue _ _ _). IsEndOf l.port c.args.seat l.home c.close.result) c.self.view_is record {
      base = e.base;
      passes_of = e.passes;
      entries = e.entries;
      redeemed = e.redeemed;
      once = e.once;
      trail = e.trail;
      fetched = e.fetched;
      counted = e.counted;
      grounded = e.grounded;
      heard = e.heard;
      behind = e.behind;
    }

pub close-requires-clause-all : goal.close-requires-clause-all
close-requires-clause-all g c κs within = subst (λ (l : LaneValue _ _ _). (n : ℕ) → n < c.args.seat.passes → AnyOf (λ (p : PassValue _ _ _). p.number ≡ n) l.home) (sym c.self.view_is) c.requires.all

pub close-requires-clause-even : goal.close-requires-clause-even
close-requires-clause-even g c κs within = subst (λ (l : LaneValue _ _ _). total (λ (p : PassValue _ _ _). length p.submitted) l.home ≡ total (λ (p : PassValue _ _ _). length p.redeemed) l.home) (sym c.self.view_is) c.requires.even

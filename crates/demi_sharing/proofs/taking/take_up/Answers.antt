use Rattle.std.proofs.Common.{is_some}
use Rattle.demi_sharing.proofs.Dealt.{took_up}
use Rattle.demi_sharing.proofs.taking.take_up.Goals as goal

pub returns : goal.returns
returns g c =
    let all = c.take_all.ensures in
    record {
      took = took_up c.args.demi.now c.args.number (is_some c.args.opening) c.args.links c.take_all.result.items c.begin.new.caller c.take_all.new.caller c.begin.ensures all.of all.took all.sides all.owes;
      numbers = (all.links.differ, all.links.few, all.links.below);
    }

use Rattle.demi_roster.proofs.HiringSteps.{has_hired}
use Rattle.demi_roster.proofs.hiring.hire_next.Goals as goal

pub returns : goal.returns
returns c =
    let a = c.args in
    has_hired a.links a.demi.now a.number a.opening a.callers.now.items c.remove-caller.new.self.items a.benches.now.items c.remove-bench.new.self.items c.make.result c.remove-caller.result c.remove-bench.result
    c.requires.some c.requires.benches.0 c.requires.benches.1 c.remove-caller.ensures.items c.remove-caller.ensures.value c.remove-bench.ensures.items c.remove-bench.ensures.value c.make.ensures

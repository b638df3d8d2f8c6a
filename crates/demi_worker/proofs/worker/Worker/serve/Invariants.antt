use Rattle.std.proofs.Common.{◌≡◌}
use Rattle.demi_worker.specs.Standing.{Stands}
use Rattle.demi_worker.specs.Turns.{WentOn}
use Rattle.demi_worker.proofs.worker.Worker.serve.Given as goal

abbrev pub invariant-loop : goal.invariant-loop
invariant-loop g l = record {
  stands : Stands (g.C.Scanner.ports l.self.context) (g.C.Calls.sight l.self.context) l.self.scheduler l.self.ended.items;
  went : WentOn g.C.Scanner.goes l.initial.self.context l.self.context l.initial.self.scheduler l.self.scheduler l.initial.self.ended.items l.self.ended.items;
  number : l.self.number ≡ l.initial.self.number;
}

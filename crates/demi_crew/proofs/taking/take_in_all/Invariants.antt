use Rattle.std.proofs.Common.{◌≡◌, take}
use Rattle.demi_crew.specs.Taking.{HasTaken}
use Rattle.demi_crew.proofs.taking.take_in_all.Given as goal

abbrev pub invariant-loop-link : goal.invariant-loop-link
invariant-loop-link g l = record {
  taken : HasTaken l.initial.worker.context.demi l.initial.worker.number l.initial.worker.context.caller (take l.link-index l.numbers) l.worker;
  room : l.worker.scheduler.room ≡ l.initial.worker.scheduler.room;
}

use Rattle.std.proofs.Common.{[]}
use Rattle.demi_logq.specs.Engine.{basis_of}
use Rattle.demi_logq.proofs.marks.no_past.Given as goal

abbrev pub ghost-from : goal.ghost-from
ghost-from g a = record { base = basis_of g.D.Disk.bytes a._first.now a._second.now; served = []; finished = [] }

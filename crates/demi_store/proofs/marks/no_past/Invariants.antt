use Rattle.std.proofs.Common.{[]}
use Rattle.demi_store.specs.Engine.{basis_of}
use Rattle.demi_store.proofs.marks.no_past.Given as goal

abbrev pub ghost-from : goal.ghost-from
ghost-from g a = record { base = basis_of g.D.Disk.bytes a._first.now; served = []; finished = [] }

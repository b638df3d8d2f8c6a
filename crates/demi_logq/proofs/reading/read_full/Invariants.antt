use Rattle.std.proofs.Common.{◌≡◌, ◌-◌, ◌≤◌, length, take, drop}
use Rattle.std.specs.Prelude.{IfSome}
use Rattle.demi_logq.proofs.reading.read_full.Given as goal

abbrev pub invariant-reading : goal.invariant-reading
invariant-reading g l = record {
  within : l.count ≤ length l.room;
  there : l.count ≤ g.D.Disk.held l.fn.disk - l.at;
  bytes : IfSome (g.D.Disk.bytes l.fn.disk) (λ b. take l.count l.room ≡ take l.count (drop l.at b));
  same_held : g.D.Disk.held l.disk ≡ g.D.Disk.held l.fn.disk;
  same_bytes : g.D.Disk.bytes l.disk ≡ g.D.Disk.bytes l.fn.disk;
  calls : g.D.Disk.looks l.fn.disk l.disk;
  later : g.D.Disk.faults l.fn.disk ≤ g.D.Disk.faults l.disk;
}

abbrev pub decreases-reading : goal.decreases-reading
decreases-reading g l = length l.room - l.count

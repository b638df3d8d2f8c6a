use Rattle.std.proofs.Common.{◌≡◌, ◌-◌, ◌≤◌, length, take}
use Rattle.std.specs.Prelude.{IfSome}
use Rattle.demi_cli.proofs.checking.read_all.Given as goal

abbrev pub invariant-reading : goal.invariant-reading
invariant-reading g l = record {
  read : IfSome (g.D.Disk.bytes l.fn.disk) (λ b. l.text.items ≡ take (length l.text.items) b);
  room : length l.room ≡ 4096;
  same_held : g.D.Disk.held l.disk ≡ g.D.Disk.held l.fn.disk;
  same_bytes : g.D.Disk.bytes l.disk ≡ g.D.Disk.bytes l.fn.disk;
  calls : g.D.Disk.looks l.fn.disk l.disk;
  later : g.D.Disk.faults l.fn.disk ≤ g.D.Disk.faults l.disk;
}

abbrev pub decreases-reading : goal.decreases-reading
decreases-reading g l = l.size - length l.text.items

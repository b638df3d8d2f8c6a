use Rattle.std.proofs.Common.{◌≡◌, ◌≤◌, length, vec_len}
use Rattle.demi_logq.specs.Reading.{IsAhead}
use Rattle.demi_cli.specs.Heads.{HeadsTo}
use Rattle.demi_cli.proofs.reading.read_heads.Given as goal

abbrev pub invariant-reading : goal.invariant-reading
invariant-reading g l = record {
  read : HeadsTo (g.D.Disk.bytes l.fn.log.disk) l.fn.log.ends l.heads l.i;
  ahead : IsAhead (g.D.Disk.bytes l.fn.log.disk) (g.D.Disk.held l.fn.log.disk) l.ahead;
  ahead_room : 262 ≤ vec_len l.ahead.room;
  room : length l.room ≡ 262;
  same : l.log ≡ record l.fn.log { disk = l.log.disk };
  same_bytes : g.D.Disk.bytes l.log.disk ≡ g.D.Disk.bytes l.fn.log.disk;
  same_held : g.D.Disk.held l.log.disk ≡ g.D.Disk.held l.fn.log.disk;
  calls : g.D.Disk.looks l.fn.log.disk l.log.disk;
  later : g.D.Disk.faults l.fn.log.disk ≤ g.D.Disk.faults l.log.disk;
}

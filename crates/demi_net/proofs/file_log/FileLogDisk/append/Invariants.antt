use Rattle.std.proofs.Common.{◌≡◌, ◌+◌, ◌-◌, ◌^◌, ◌≤◌, length}
use Rattle.demi_net.proofs.file_log.FileLogDisk.append.Given as goal

abbrev pub invariant-writing : goal.invariant-writing
invariant-writing l = record {
  within : l.at ≤ length l.piece;
  held : l.self.held_bytes ≡ l.fn.self.held_bytes + l.at;
  later : l.fn.self.faults ≤ l.self.faults;
  room : l.fn.self.held_bytes + length l.piece ≤ 2 ^ 40;
}

abbrev pub decreases-writing : goal.decreases-writing
decreases-writing l = length l.piece - l.at

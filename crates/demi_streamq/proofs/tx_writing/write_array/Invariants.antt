use Rattle.std.proofs.Common.{◌≡◌, ◌-◌, ◌≤◌, take}
use Rattle.std.specs.Io.KnownBytes.{append_known}
use Rattle.demi_sga.specs.Arrays.{byte_count}
use Rattle.demi_streamq.specs.Sending.{array_bytes}
use Rattle.demi_streamq.proofs.tx_writing.write_array.Given as goal

abbrev pub invariant-writing : goal.invariant-writing
invariant-writing g l = record {
  within : l.at ≤ byte_count l.sga;
  written : g.S.Sink.written l.sink ≡ append_known (g.S.Sink.written l.fn.sink) (take l.at (array_bytes l.sga));
  later : g.S.Sink.faults l.fn.sink ≤ g.S.Sink.faults l.sink;
}

abbrev pub decreases-writing : goal.decreases-writing
decreases-writing g l = byte_count l.sga - l.at

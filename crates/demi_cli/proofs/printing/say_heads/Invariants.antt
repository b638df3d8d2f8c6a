use Rattle.std.proofs.Common.{◌≡◌, ◌≤◌, List, length, take}
use Rattle.demi_spec.specs.Record.{Record}
use Rattle.demi_cli.specs.Heads.{HeadsOf, keys_of}
use Rattle.demi_cli.specs.Lines.{lines_from}
use Rattle.demi_cli.specs.Saying.{SaidBut}
use Rattle.demi_cli.proofs.printing.say_heads.Given as goal

abbrev pub invariant-saying : goal.invariant-saying
invariant-saying g l = record {
  at : (records : List Record) → HeadsOf l.heads records → l.at ≡ length (keys_of (take l.i records));
  said : (records : List Record) → HeadsOf l.heads records → SaidBut l.text.bytes (lines_from 1 (take l.i records)) (g.W.World.state l.fn.world) (g.W.World.state l.world);
  later : g.W.World.print_faults l.fn.world ≤ g.W.World.print_faults l.world;
  faults : g.W.World.faults l.world ≡ g.W.World.faults l.fn.world;
}

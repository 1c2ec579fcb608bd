use Rattle.std.proofs.Common.{◌≡◌, ◌+◌, ◌*◌, ◌≤◌, ◌++◌, length}
use Rattle.kc_debug.specs.Lines.{shown_bytes}
use Rattle.kc_debug.proofs.lines.put_bytes.Given as goal

abbrev pub invariant-loop-byte : goal.invariant-loop-byte
invariant-loop-byte g l = record {
  items : l.line.items ≡ l.initial.line.items ++ shown_bytes g.X.Extra.further l.initial.machine.machine l.from l.byte;
  len : length l.line.items ≡ length l.initial.line.items + 2 * l.byte;
  same : l.machine.machine ≡ l.initial.machine.machine;
  moves : l.machine.moves ≤ l.initial.machine.moves + l.byte;
}

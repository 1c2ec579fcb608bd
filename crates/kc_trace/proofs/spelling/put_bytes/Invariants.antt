use Rattle.std.proofs.Common.{◌≡◌, ◌+◌, ◌*◌, ◌++◌, take, length}
use Rattle.std.specs.List.{flat_map}
use Rattle.kc_trace.specs.Text.{hex}
use Rattle.kc_trace.proofs.spelling.put_bytes.Given as goal

abbrev pub invariant-loop-byte : goal.invariant-loop-byte
invariant-loop-byte l = record {
  items : l.line.items ≡ l.initial.line.items ++ flat_map (hex 2) (take l.byte-index l.bytes);
  len : length l.line.items ≡ length l.initial.line.items + 2 * l.byte-index;
}

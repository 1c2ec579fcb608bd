use Rattle.std.proofs.Common.{◌≡◌, ◌+◌, ◌<◌, ◌++◌}
use Rattle.kc_asm_list.specs.Rows as spec
use Rattle.kc_asm_list.proofs.bytes.put_bytes.Given as goal

abbrev pub invariant-loop-left : goal.invariant-loop-left
invariant-loop-left l = record {
  columns : l.column < 9;
  within : l.at + l.left ≡ l.place + l.count;
  goes_on : l.text.items ++ spec.bytes_text l.object l.spot l.column l.at l.left ≡ l.initial.text.items ++ spec.bytes_text l.object l.spot l.columns l.place l.count;
}

abbrev pub decreases-loop-left : goal.decreases-loop-left
decreases-loop-left l = l.left

use Rattle.std.proofs.Common.{◌≡◌, ◌+◌, ◌*◌, ◌≤◌, ◌^◌, ◌++◌, drop}
use Rattle.kc_asm_layout.specs.Text as spec
use Rattle.kc_asm_layout.proofs.positions.positions.Given as goal

abbrev pub invariant-loop-size_record : goal.invariant-loop-size_record
invariant-loop-size_record l = record {
  main_bound : l.main ≤ l.size_record-index * 514;
  absolute_bound : l.absolute ≤ 2 ^ 26 + l.size_record-index * 515;
  reported : l.positions.items ++ spec.positions_from l.main l.absolute l.later (drop l.size_record-index l.size_records) ≡ spec.positions l.gaps l.size_records;
}

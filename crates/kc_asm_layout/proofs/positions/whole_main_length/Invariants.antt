use Rattle.std.proofs.Common.{◌≡◌, ◌+◌, ◌*◌, ◌≤◌, length, drop}
use Rattle.kc_asm_layout.specs.Text as spec
use Rattle.kc_asm_layout.proofs.positions.whole_main_length.Given as goal

abbrev pub invariant-loop-size_record : goal.invariant-loop-size_record
invariant-loop-size_record l = record {
  bound : l.count ≤ l.size_record-index * 514;
  counted : l.count + length (spec.text_by (spec.main_text spec.nowhere) l.later (drop l.size_record-index l.size_records))
      ≡ length (spec.text_by (spec.main_text spec.nowhere) l.gaps l.size_records);
}

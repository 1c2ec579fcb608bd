use Rattle.std.proofs.Common.{◌≡◌, ◌+◌, ◌≤◌, drop}
use Rattle.kc_asm_layout.specs.Text as spec
use Rattle.kc_asm_layout.proofs.dealt.count_main.Given as goal

abbrev pub invariant-loop-size_record : goal.invariant-loop-size_record
invariant-loop-size_record l = record {
  bound : l.count ≤ l.size_record-index;
  counted : l.count + spec.count_main (drop l.size_record-index l.size_records) ≡ spec.count_main l.size_records;
}

use Rattle.std.proofs.Common.{◌≡◌, ◌++◌, drop}
use Rattle.kc_asm_layout.specs.Text as spec
use Rattle.kc_asm_layout.proofs.text.push_all_main.Given as goal

abbrev pub invariant-loop-size_record : goal.invariant-loop-size_record
invariant-loop-size_record l =
    l.text.items ++ spec.text_by (spec.main_text (spec.target_in l.positions l.fn.size_records)) l.later (drop l.size_record-index l.size_records)
    ≡ l.fn.text.items ++ spec.text_by (spec.main_text (spec.target_in l.positions l.fn.size_records)) l.gaps l.size_records

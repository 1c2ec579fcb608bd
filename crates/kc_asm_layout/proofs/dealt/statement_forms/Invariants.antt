use Rattle.std.proofs.Common.{◌≡◌, ◌++◌, drop}
use Rattle.kc_asm_layout.specs.Text as spec
use Rattle.kc_asm_layout.proofs.dealt.statement_forms.Given as goal

abbrev pub invariant-loop-size_record : goal.invariant-loop-size_record
invariant-loop-size_record l = l.forms.items ++ spec.dealt l.main l.absolute (drop l.size_record-index l.size_records) ≡ spec.statement_forms l.chosen l.size_records

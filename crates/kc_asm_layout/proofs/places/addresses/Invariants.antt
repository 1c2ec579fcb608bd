use Rattle.std.proofs.Common.{◌≡◌, ◌++◌, drop}
use Rattle.kc_asm_layout.specs.Places as spec
use Rattle.kc_asm_layout.proofs.places.addresses.Given as goal

abbrev pub invariant-loop-size_record : goal.invariant-loop-size_record
invariant-loop-size_record l = l.addresses.items ++ spec.opened (drop l.size_record-index l.size_records) ≡ spec.addresses l.size_records

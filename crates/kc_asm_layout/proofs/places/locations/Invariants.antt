use Rattle.std.proofs.Common.{◌≡◌, ℕ, ◌+◌, ◌*◌, ◌≤◌, ◌++◌, length, drop}
use Rattle.std.specs.Prelude.{slice_index, All}
use Rattle.kc_asm_layout.specs.Places as spec
use Rattle.kc_asm_layout.proofs.places.locations.Given as goal

abbrev pub invariant-loop-size_record : goal.invariant-loop-size_record
invariant-loop-size_record l = record {
  bound : (k : ℕ) → slice_index l.ends.items k ≤ 65536 + l.size_record-index * 8590000128;
  laid : l.locations.items ++ spec.locations_from l.addresses.items l.later l.ends.items (drop l.size_record-index l.size_records) ≡ spec.locations l.forms l.size_records;
  each : length l.locations.items ≡ l.size_record-index;
  near : All spec.IsNear l.locations.items;
}

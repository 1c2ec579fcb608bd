use Rattle.std.proofs.Common.{◌≤◌, drop}
use Rattle.kc_source.proofs.TableLemmas.{Checked}
use Rattle.kc_source.proofs.names.name_fault.Given as goal

abbrev pub invariant-loop-one : goal.invariant-loop-one
invariant-loop-one l = record {
  few : l.count ≤ l.one-index;
  checked : Checked l.uses l.earlier.map.entries l.count l.found (drop l.one-index l.uses);
}

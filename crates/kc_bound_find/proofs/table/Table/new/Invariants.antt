use Rattle.std.proofs.Common.{◌≤◌, ◌-◌, vec_len}
use Rattle.kc_bound_find.proofs.table.Table.new.Given as goal

abbrev pub invariant-fill : goal.invariant-fill
invariant-fill l = vec_len l.ways ≤ 65536

abbrev pub decreases-fill : goal.decreases-fill
decreases-fill l = 65536 - vec_len l.ways

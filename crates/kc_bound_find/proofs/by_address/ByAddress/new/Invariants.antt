use Rattle.std.proofs.Common.{◌≤◌, ◌-◌, vec_len}
use Rattle.kc_bound_find.proofs.by_address.ByAddress.new.Given as goal

abbrev pub invariant-fill : goal.invariant-fill
invariant-fill g l = vec_len l.values ≤ 65536

abbrev pub decreases-fill : goal.decreases-fill
decreases-fill g l = 65536 - vec_len l.values

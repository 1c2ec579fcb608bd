use Rattle.std.proofs.Common.{◌≤◌, ◌-◌, vec_len}
use Rattle.kc_bound_requests.proofs.finding.Reached.new.Given as goal

abbrev pub invariant-fill : goal.invariant-fill
invariant-fill l = vec_len l.marks ≤ 16384

abbrev pub decreases-fill : goal.decreases-fill
decreases-fill l = 16384 - vec_len l.marks

use Rattle.std.proofs.Common.{arith}
use Rattle.kc_profile.proofs.Few.{few-more}
use Rattle.kc_machine_tests.proofs.profile.counted.Goals as goal

pub go-requires-clause-counted : goal.go-requires-clause-counted
go-requires-clause-counted g c = omega (arith, c.in_ok-profile.ensures.sum)

pub go-requires-clause-few : goal.go-requires-clause-few
go-requires-clause-few g c = few-more 0 1000 c.in_ok-statistics.statistics (omega arith) c.in_ok-statistics.ensures.few

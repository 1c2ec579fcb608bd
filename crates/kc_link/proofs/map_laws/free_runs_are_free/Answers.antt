use Rattle.kc_link.proofs.Runs.{runs_apart, runs_free}
use Rattle.kc_link.proofs.map_laws.free_runs_are_free.Goals as goal

pub returns : goal.returns
returns c = λ free count from. (runs_apart free count from, runs_free free count from)

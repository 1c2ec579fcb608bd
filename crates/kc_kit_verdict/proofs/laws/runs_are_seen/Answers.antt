use Rattle.kc_kit_verdict.proofs.RunLemmas.{runs_are_seen}
use Rattle.kc_kit_verdict.proofs.laws.runs_are_seen.Goals as goal

pub returns : goal.returns
returns c = runs_are_seen

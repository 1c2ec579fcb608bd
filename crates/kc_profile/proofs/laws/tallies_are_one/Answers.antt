use Rattle.kc_profile.proofs.Tallies.{tallies_are_one}
use Rattle.kc_profile.proofs.laws.tallies_are_one.Goals as goal

pub returns : goal.returns
returns c = tallies_are_one

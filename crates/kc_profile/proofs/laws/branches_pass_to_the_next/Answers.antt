use Rattle.kc_profile.proofs.Branches.{branches-pass}
use Rattle.kc_profile.proofs.laws.branches_pass_to_the_next.Goals as goal

pub returns : goal.returns
returns c = branches-pass

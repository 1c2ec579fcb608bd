use Rattle.kc_kit_messages.proofs.Explained.{faults_are_explained}
use Rattle.kc_kit_messages.proofs.laws.faults_are_explained.Goals as goal

pub returns : goal.returns
returns c = faults_are_explained

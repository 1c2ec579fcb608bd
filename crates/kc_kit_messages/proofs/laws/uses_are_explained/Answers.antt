use Rattle.kc_kit_messages.proofs.Explained.{uses_are_explained}
use Rattle.kc_kit_messages.proofs.laws.uses_are_explained.Goals as goal

pub returns : goal.returns
returns c = uses_are_explained

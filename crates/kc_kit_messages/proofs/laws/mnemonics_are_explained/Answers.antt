use Rattle.kc_kit_messages.proofs.Explained.{mnemonics_are_explained}
use Rattle.kc_kit_messages.proofs.laws.mnemonics_are_explained.Goals as goal

pub returns : goal.returns
returns c = mnemonics_are_explained

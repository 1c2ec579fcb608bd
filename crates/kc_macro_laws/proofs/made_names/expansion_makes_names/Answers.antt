use Rattle.kc_macro_laws.proofs.MadeNames.{expansion_makes_names}
use Rattle.kc_macro_laws.proofs.made_names.expansion_makes_names.Goals as goal

pub returns : goal.returns
returns c = expansion_makes_names

use Rattle.kc_macro_laws.proofs.Expanding.{local_names_are_few}
use Rattle.kc_macro_laws.proofs.made_names.local_names_are_few.Goals as goal

pub returns : goal.returns
returns c = local_names_are_few

use Rattle.kc_macro_laws.proofs.Ends.{expansion_ends_at_a_place}
use Rattle.kc_macro_laws.proofs.made_names.expansion_ends_at_a_place.Goals as goal

pub returns : goal.returns
returns c = expansion_ends_at_a_place

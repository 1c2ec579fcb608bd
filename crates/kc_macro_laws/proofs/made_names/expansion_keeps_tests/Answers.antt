use Rattle.kc_macro_laws.proofs.Expanding.{expansion_keeps_tests}
use Rattle.kc_macro_laws.proofs.made_names.expansion_keeps_tests.Goals as goal

pub returns : goal.returns
returns c = expansion_keeps_tests

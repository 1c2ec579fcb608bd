use Rattle.kc_macro_laws.proofs.MadeNames.{lines_have_names}
use Rattle.kc_macro_laws.proofs.made_names.lines_have_names.Goals as goal

pub returns : goal.returns
returns c = lines_have_names c.lexemes_are_proper.ensures

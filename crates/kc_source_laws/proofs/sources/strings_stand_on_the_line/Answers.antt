use Rattle.kc_source_laws.proofs.Strings.{strings_stand_on_the_line}
use Rattle.kc_source_laws.proofs.sources.strings_stand_on_the_line.Goals as goal

pub returns : goal.returns
returns c = strings_stand_on_the_line c.operands_have_forms.ensures

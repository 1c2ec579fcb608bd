use Rattle.kc_source_laws.proofs.Reading.{lines_are_of_the_text}
use Rattle.kc_source_laws.proofs.sources.lines_are_of_the_text.Goals as goal

pub returns : goal.returns
returns c = lines_are_of_the_text c.lexemes_are_proper.ensures

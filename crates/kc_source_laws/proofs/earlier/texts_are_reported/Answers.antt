use Rattle.kc_source_laws.proofs.Reporting.{texts_are_reported}
use Rattle.kc_source_laws.proofs.earlier.texts_are_reported.Goals as goal

pub returns : goal.returns
returns c =
    texts_are_reported c.lines_are_of_the_text.ensures c.lines_have_names.ensures c.expansion_ends_at_a_place.ensures c.expansion_keeps_tests.ensures
    c.local_names_are_few.ensures

use Rattle.kc_source_laws.proofs.Expanding.{expansion_keeps_lines}
use Rattle.kc_source_laws.proofs.sources.expansion_keeps_lines.Goals as goal

pub returns : goal.returns
returns c = expansion_keeps_lines c.expansion_ends_at_a_place.ensures c.expansion_keeps_tests.ensures

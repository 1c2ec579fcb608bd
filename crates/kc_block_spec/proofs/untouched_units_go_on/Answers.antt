use Rattle.kc_block_spec.proofs.Rows.{timer2_untouched, hso_untouched, hsi_untouched, further_untouched}
use Rattle.kc_block_spec.proofs.untouched_units_go_on.Goals as goal

pub returns-clause-timer2 : goal.returns-clause-timer2
returns-clause-timer2 g c = timer2_untouched

pub returns-clause-hso : goal.returns-clause-hso
returns-clause-hso g c = hso_untouched

pub returns-clause-hsi : goal.returns-clause-hsi
returns-clause-hsi g c = hsi_untouched

pub returns-clause-further : goal.returns-clause-further
returns-clause-further g c = further_untouched

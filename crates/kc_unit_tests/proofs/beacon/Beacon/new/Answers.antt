use Rattle.kc_unit_tests.proofs.Starts.{fits_each_board}
use Rattle.kc_unit_tests.proofs.beacon.Beacon.new.Goals as goal

pub returns-clause-fits : goal.returns-clause-fits
returns-clause-fits c = fits_each_board

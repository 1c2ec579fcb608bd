use Rattle.kc_source_laws.proofs.Places.{bytes_stand_in_code}
use Rattle.kc_source_laws.proofs.earlier.bytes_stand_in_code.Goals as goal

pub returns : goal.returns
returns c = bytes_stand_in_code

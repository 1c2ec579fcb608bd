use Rattle.kc_block_spec.proofs.Named.{other_writes_move_no_pin}
use Rattle.kc_block_spec.proofs.register_laws.other_writes_move_no_pin.Goals as goal

pub returns : goal.returns
returns g c = other_writes_move_no_pin

use Rattle.kc_block_spec.proofs.Named.{writes_keep_profile}
use Rattle.kc_block_spec.proofs.register_laws.writes_keep_profile.Goals as goal

pub returns : goal.returns
returns g c = writes_keep_profile

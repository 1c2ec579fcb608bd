use Rattle.kc_block_spec.proofs.Named.{reads_are_mild}
use Rattle.kc_block_spec.proofs.register_laws.reads_are_mild.Goals as goal

pub returns : goal.returns
returns g c = reads_are_mild

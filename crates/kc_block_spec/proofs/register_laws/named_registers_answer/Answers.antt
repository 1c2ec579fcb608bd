use Rattle.kc_block_spec.proofs.Named.{named_registers_answer}
use Rattle.kc_block_spec.proofs.register_laws.named_registers_answer.Goals as goal

pub returns : goal.returns
returns g c = named_registers_answer

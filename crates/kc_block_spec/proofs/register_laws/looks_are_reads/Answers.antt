use Rattle.kc_block_spec.proofs.Looks.{looks_are_reads, levels_shown_stay}
use Rattle.kc_block_spec.proofs.register_laws.looks_are_reads.Goals as goal

pub returns-clause-looks : goal.returns-clause-looks
returns-clause-looks g c = looks_are_reads

pub returns-clause-levels : goal.returns-clause-levels
returns-clause-levels g c = levels_shown_stay

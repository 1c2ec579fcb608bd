use Rattle.kc_block_spec.proofs.Named.{unnamed_reads, unnamed_writes}
use Rattle.kc_block_spec.proofs.register_laws.unnamed_bytes_are_refused.Goals as goal

pub returns-clause-reads : goal.returns-clause-reads
returns-clause-reads g c = unnamed_reads

pub returns-clause-writes : goal.returns-clause-writes
returns-clause-writes g c = unnamed_writes

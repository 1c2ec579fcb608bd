use Rattle.kc_block_spec.proofs.Named.{both_bytes_read_are_asked, both_bytes_written_are_asked}
use Rattle.kc_block_spec.proofs.register_laws.both_bytes_are_asked.Goals as goal

pub returns-clause-reads : goal.returns-clause-reads
returns-clause-reads g c = both_bytes_read_are_asked

pub returns-clause-writes : goal.returns-clause-writes
returns-clause-writes g c = both_bytes_written_are_asked

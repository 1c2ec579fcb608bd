use Rattle.kc_block_sfr.proofs.PlainLemmas.{plain_reads, plain_writes}
use Rattle.kc_block_sfr.proofs.laws.plain_bus_has_the_masks_of_the_table.Goals as goal

pub returns-clause-reads : goal.returns-clause-reads
returns-clause-reads c = plain_reads

pub returns-clause-writes : goal.returns-clause-writes
returns-clause-writes c = plain_writes

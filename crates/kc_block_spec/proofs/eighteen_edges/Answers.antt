use Rattle.kc_block_spec.proofs.Counts.{eighteen_edges}
use Rattle.kc_block_spec.proofs.eighteen_edges.Goals as goal

pub returns : goal.returns
returns c = eighteen_edges

use Rattle.kc_block_spec.proofs.Named.{odd_words_are_refused}
use Rattle.kc_block_spec.proofs.register_laws.odd_words_are_refused.Goals as goal

pub returns : goal.returns
returns g c = odd_words_are_refused

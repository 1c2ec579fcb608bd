use Rattle.kc_block_spec.proofs.Rests.{calm_ticks_are_not_worked, unworked_ticks_are_calm}
use Rattle.kc_block_spec.proofs.calm_ticks_are_not_worked.Goals as goal

pub returns-clause-calm : goal.returns-clause-calm
returns-clause-calm g c = calm_ticks_are_not_worked

pub returns-clause-unworked : goal.returns-clause-unworked
returns-clause-unworked g c = unworked_ticks_are_calm

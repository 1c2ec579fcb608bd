use Rattle.std.proofs.Common.{ap, ◌∙◌}
use Rattle.kc_block_sfr.proofs.holding.hso_slots.Goals as goal

pub returns-clause-slots : goal.returns-clause-slots
returns-clause-slots g c = c.slots.ensures ∙ ap (λ d. d.slots) c.catch_up_hso.ensures.there

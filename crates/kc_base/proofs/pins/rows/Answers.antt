use Rattle.std.proofs.Common.{refl}
use Rattle.kc_base.specs.Pins.{pin_facts}
use Rattle.kc_base.proofs.pins.rows.Goals as goal

pub returns-clause-names : goal.returns-clause-names
returns-clause-names c = refl

pub returns-clause-facts : goal.returns-clause-facts
unfolding pin_facts
returns-clause-facts c = refl

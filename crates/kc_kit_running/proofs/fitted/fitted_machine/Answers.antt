use Rattle.kc_kit_running.proofs.fitted.fitted_machine.Goals as goal

pub new-requires : goal.new-requires
new-requires c = λ edges. c.fitted_unit-unit.ensures.agrees edges

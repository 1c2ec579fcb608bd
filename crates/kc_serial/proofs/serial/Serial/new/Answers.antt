use Rattle.std.proofs.Common.{◌∙◌}
use Rattle.kc_serial.specs.Laws.{made_keeps}
use Rattle.kc_serial.proofs.serial.Serial.new.Goals as goal

pub returns-clause-keeps : goal.returns-clause-keeps
returns-clause-keeps c = λ before levels is. c.is_high.ensures ∙ made_keeps c.args.rxd before levels is

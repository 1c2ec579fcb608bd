use Rattle.kc_asm_laws.proofs.Lines.{faults_stand_at_lines}
use Rattle.kc_asm_laws.proofs.faults.faults_stand_at_lines.Goals as goal

pub returns : goal.returns
returns c = faults_stand_at_lines

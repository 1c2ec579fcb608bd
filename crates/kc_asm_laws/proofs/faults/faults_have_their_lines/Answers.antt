use Rattle.kc_asm_laws.proofs.Lines.{faults_have_their_lines}
use Rattle.kc_asm_laws.proofs.faults.faults_have_their_lines.Goals as goal

pub returns : goal.returns
returns c = faults_have_their_lines

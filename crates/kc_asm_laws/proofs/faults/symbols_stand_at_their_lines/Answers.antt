use Rattle.kc_asm_laws.proofs.Standing.{symbols_stand_at_their_lines}
use Rattle.kc_asm_laws.proofs.faults.symbols_stand_at_their_lines.Goals as goal

pub returns : goal.returns
returns c = symbols_stand_at_their_lines

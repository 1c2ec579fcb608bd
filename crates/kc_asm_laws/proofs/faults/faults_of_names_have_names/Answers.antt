use Rattle.kc_asm_laws.proofs.Symbols.{faults_of_names_have_names}
use Rattle.kc_asm_laws.proofs.faults.faults_of_names_have_names.Goals as goal

pub returns : goal.returns
returns c = faults_of_names_have_names c.meanings_are_alike.ensures

use Rattle.kc_asm_origin.proofs.Uses.{none_known}
use Rattle.kc_asm_origin.proofs.names.Known.new.Goals as goal

pub returns : goal.returns
returns c = none_known _ c.new.ensures c.new-2.ensures c.new-3.ensures

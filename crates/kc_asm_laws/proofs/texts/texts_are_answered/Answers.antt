use Rattle.kc_asm_laws.proofs.Answered.{texts_are_answered}
use Rattle.kc_asm_laws.proofs.texts.texts_are_answered.Goals as goal

pub returns : goal.returns
returns c = texts_are_answered (record { ends = c.expansion_ends.ensures; have = c.faultless_have_modules.ensures; few = c.externals_are_few.ensures; clear = c.names_are_clear.ensures })

use Rattle.kc_asm_laws.proofs.Made.{texts_have_modules}
use Rattle.kc_asm_laws.proofs.texts.texts_have_modules.Goals as goal

pub returns : goal.returns
returns c = texts_have_modules (record {
  read = c.faultless_are_read.ensures;
  have = c.faultless_have_modules.ensures;
  few = c.externals_are_few.ensures;
  clear = c.names_are_clear.ensures;
})

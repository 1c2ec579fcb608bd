use Rattle.kc_asm_laws.proofs.Numbers.{modules_fit}
use Rattle.kc_asm_laws.proofs.modules.modules_fit.Goals as goal

pub returns : goal.returns
returns c = modules_fit (record {
  of_text = c.statements_are_of_the_text.ensures;
  read = c.sources_are_read_well.ensures;
  words = c.numbers_are_words.ensures;
  nothing_else = c.nothing_else_stands.ensures;
  unlinked_modules = c.unlinked_modules_are_unlinked.ensures;
  writable = c.parts_are_writable.ensures;
  sound = c.no_fault_no_codes.ensures;
  few = c.externals_are_few.ensures;
})

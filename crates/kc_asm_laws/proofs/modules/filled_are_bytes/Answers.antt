use Rattle.kc_asm_laws.proofs.Images.{filled_are_bytes}
use Rattle.kc_asm_laws.proofs.modules.filled_are_bytes.Goals as goal

pub returns : goal.returns
returns c = filled_are_bytes (record {
  words = c.numbers_are_words.ensures;
  nothing_else = c.nothing_else_stands.ensures;
  of_text = c.statements_are_of_the_text.ensures;
  read = c.sources_are_read_well.ensures;
  unlinked_modules = c.unlinked_modules_are_unlinked.ensures;
  whole = c.unlinked_modules_are_whole.ensures;
  linked = c.unlinked_modules_are_linked.ensures;
})

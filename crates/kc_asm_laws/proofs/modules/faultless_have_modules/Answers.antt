use Rattle.kc_asm_laws.proofs.Exists.{faultless_have_modules}
use Rattle.kc_asm_laws.proofs.modules.faultless_have_modules.Goals as goal

pub returns : goal.returns
returns c = faultless_have_modules (record {
  of_text = c.statements_are_of_the_text.ensures;
  read = c.sources_are_read_well.ensures;
  pieces = c.pieces_are_few.ensures;
  unlinked_modules = c.unlinked_modules_are_unlinked.ensures;
  whole = c.unlinked_modules_are_whole.ensures;
  writable = c.parts_are_writable.ensures;
  sound = c.no_fault_no_codes.ensures;
})

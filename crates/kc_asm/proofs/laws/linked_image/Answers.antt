use Rattle.kc_asm.proofs.Statements.{Laws}
use Rattle.kc_asm.proofs.Linking.{UnlinkedLaws, linked_image}
use Rattle.kc_asm.proofs.laws.linked_image.Goals as goal

pub returns : goal.returns
returns c = linked_image operations unlinked_modules
  where
    operations : Laws
    operations = record {
      spelled = c.spelled_is_decoded.ensures;
      fills = c.filled_is_spelled.ensures;
      sounds = c.settled_is_sound.ensures;
      are = c.operations_are_instructions.ensures;
      evens = c.pointers_are_even.ensures;
      words = c.numbers_are_words.ensures;
    }

    unlinked_modules : UnlinkedLaws
    unlinked_modules = record {
      unlinked_modules = c.unlinked_modules_are_unlinked.ensures;
      whole = c.unlinked_modules_are_whole.ensures;
      settled = c.unlinked_modules_are_settled.ensures;
      stand = c.statements_stand.ensures;
      nothing_else = c.nothing_else_stands.ensures;
      sound = c.no_fault_no_codes.ensures;
      formed = c.statements_are_formed.ensures;
      numbers = c.numbers_stand.ensures;
      linked = c.unlinked_modules_are_linked.ensures;
      read = c.held_is_read.ensures;
      fit = c.numbers_fit.ensures;
      absolute = c.absolute_parts_stand.ensures;
    }

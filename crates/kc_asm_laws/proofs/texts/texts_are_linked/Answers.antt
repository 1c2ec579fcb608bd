use Rattle.kc_asm_laws.proofs.Linking.{texts_are_linked}
use Rattle.kc_asm_laws.proofs.texts.texts_are_linked.Goals as goal

pub returns : goal.returns
returns c = texts_are_linked c.texts_have_modules.ensures c.placed_have_image.ensures c.placed_have_lines.ensures

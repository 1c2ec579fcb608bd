use Rattle.kc_kit_laws.proofs.OneAnswerLemmas.{one_diagnostic}
use Rattle.kc_kit_laws.proofs.one_diagnostic.Goals as goal

pub returns : goal.returns
returns c = one_diagnostic (record { texts = c.one_answer_of_text.ensures; images = c.one_image.ensures; maps = c.one_line_map.ensures; taken = c.taken_once.ensures; listings = c.one_listing.ensures; instructions = c.one_instructions.ensures }) c.one_origin.ensures

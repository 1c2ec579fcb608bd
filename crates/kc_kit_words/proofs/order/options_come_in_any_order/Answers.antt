use Rattle.kc_kit_words.proofs.OrderLemmas.{in_any_order}
use Rattle.kc_kit_words.proofs.order.options_come_in_any_order.Goals as goal

pub returns : goal.returns
returns c = in_any_order

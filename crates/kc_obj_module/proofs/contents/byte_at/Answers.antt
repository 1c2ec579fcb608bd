use Rattle.std.proofs.Common.{◌∙◌}
use Rattle.kc_obj_module.proofs.ContentLemmas.{byte_is}
use Rattle.kc_obj_module.proofs.contents.byte_at.Goals as goal

pub returns : goal.returns
returns c = c.first_byte.ensures ∙ byte_is c.from_place.result.now c.args.contents.now c.args.piece c.args.offset c.from_place.ensures.ordered c.from_place.ensures.same c.from_place.ensures.begins

use Rattle.std.proofs.Common.{◌∙◌, eqb, ◌&&◌}
use Rattle.std.specs.HashSet.{contains}
use Rattle.kc_obj_fields.specs.Places.{same_place}
use Rattle.kc_obj_fields.proofs.PlaceLemmas.{put_or}
use Rattle.kc_obj_fields.proofs.numbers.cover.Goals as goal

pub returns : goal.returns
returns c = λ p o. c.in_ok-insert.ensures.updates.0 (p, o) ∙ put_or (eqb c.args.piece p && eqb c.args.offset o) (contains same_place c.args.under.now (p, o))

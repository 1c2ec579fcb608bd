use Rattle.std.proofs.Common.{refl}
use Rattle.kc_obj_module.specs.Spelling.{spelling}
use Rattle.kc_obj.proofs.Spelled.{spelled_decoded}
use Rattle.kc_obj.proofs.laws.encoded_is_decoded.Goals as goal

pub returns : goal.returns
returns c = spelled_decoded (spelling c.args.module.now) c.args.module.now (record { sound = c.keeps_rules.ensures; numbers = c.has_room.ensures; spelled = refl })

use Rattle.std.proofs.Common.{refl}
use Rattle.kc_link.proofs.WriteLemmas.{blank_ok}
use Rattle.kc_link.proofs.linking.blank_image.Goals as goal

pub returns : goal.returns
returns c = blank_ok 57344 c.blank.result refl c.blank.ensures

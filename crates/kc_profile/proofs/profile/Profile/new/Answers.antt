use Rattle.std.proofs.Common.{refl}
use Rattle.kc_profile.proofs.Numbers.{tally-none}
use Rattle.kc_profile.proofs.profile.Profile.new.Goals as goal

pub returns : goal.returns
returns c = tally-none _ 65536 256 256 refl refl refl (c.in_ok-vec.ensures.items_if_clones_equal (λ y e. e)) c.no_numbers.ensures c.no_numbers-2.ensures refl

use Rattle.std.proofs.Common.{◌≡◌, ◌-◌, List}
use Rattle.std.specs.Prelude.{nat_le}
use Rattle.kc_link_place.specs.Stands.{how_many, least}
use Rattle.kc_link_place.specs.Placing.{overlap}
use Rattle.kc_link_place.specs.Gaps.{Counts}
use Rattle.kc_link_place.specs.declared.pieces.Stand.{Stand}
use Rattle.kc_link_place.proofs.cover.overlap.Given as goal

abbrev pub invariant-loop-address : goal.invariant-loop-address
invariant-loop-address l = (stands : List Stand) → Counts l.cover stands → least (λ a. nat_le 2 (how_many stands a)) (65536 - l.address) l.address ≡ overlap stands

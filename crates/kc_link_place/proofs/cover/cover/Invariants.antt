use Rattle.std.proofs.Common.{◌≡◌, ℕ, ◌<◌, length, get_or}
use Rattle.kc_link_place.specs.Stands.{how_many}
use Rattle.kc_link_place.specs.Gaps.{open_at}
use Rattle.kc_link_place.proofs.cover.cover.Given as goal

abbrev pub invariant-loop-address : goal.invariant-loop-address
invariant-loop-address l = record {
  size : length l.cover.items ≡ l.address;
  counts : (a : ℕ) → a < l.address → get_or l.cover.items a 0 ≡ how_many l.stands a;
  standing : l.standing ≡ open_at l.stands l.address;
}

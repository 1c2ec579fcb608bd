use Rattle.std.proofs.Common.{◌≡◌, ℕ, ◌<◌, length, get_or, take}
use Rattle.kc_link_place.specs.Gaps.{ends_at}
use Rattle.kc_link_place.proofs.cover.ends.Given as goal

abbrev pub invariant-loop-stand : goal.invariant-loop-stand
invariant-loop-stand l = record {
  size : length l.table.items ≡ 65537;
  counts : (a : ℕ) → a < 65537 → get_or l.table.items a 0 ≡ ends_at (take l.stand-index l.stands) a;
}

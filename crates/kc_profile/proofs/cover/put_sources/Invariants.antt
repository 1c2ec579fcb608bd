use Rattle.std.proofs.Common.{◌≡◌, ◌++◌, length}
use Rattle.std.specs.Prelude.{flat_map}
use Rattle.kc_profile.specs.Cover as spec
use Rattle.kc_profile.proofs.cover.put_sources.Given as goal

abbrev pub invariant-loop-left : goal.invariant-loop-left
invariant-loop-left l = l.text.items ++ spec.cover_text l.life l.statistics l.left ≡ l.initial.text.items ++ spec.cover_text l.life l.statistics l.fn.sources

abbrev pub decreases-loop-left : goal.decreases-loop-left
decreases-loop-left l = length l.left

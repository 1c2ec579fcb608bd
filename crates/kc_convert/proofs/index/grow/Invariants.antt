use Rattle.std.proofs.Common.{◌≡◌, ℕ, ◌-◌, length}
use Rattle.kc_convert.specs.Index.{list_of}
use Rattle.kc_convert.proofs.index.grow.Given as goal

abbrev pub invariant-loop-alloc : goal.invariant-loop-alloc
invariant-loop-alloc l = (channel : ℕ) → list_of l.by_channel.items channel ≡ list_of l.initial.by_channel.items channel

abbrev pub decreases-loop-alloc : goal.decreases-loop-alloc
decreases-loop-alloc l = l.len - length l.by_channel.items

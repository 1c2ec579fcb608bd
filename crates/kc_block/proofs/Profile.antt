-- Ticks leave WSR.
use Rattle.std.proofs.Common.{◌≡◌, ℕ, zero, suc, ◌+◌, refl, ◌∙◌}
use Rattle.kc_span.specs.Span.{after}
use Rattle.kc_extra.specs.Further.{Further}
use Rattle.kc_block_spec.specs.Units.{Units}
use Rattle.kc_block_spec.specs.Tick.{tick}
use Rattle.kc_block_spec.specs.Touch.{block_rule}

wsr_ticked : {X : Type 0} (f : Further X) (t : ℕ) (u : Units X) → (tick f t u).units.board_registers.wsr ≡ u.board_registers.wsr
unfolding tick
wsr_ticked f t u = refl

pub wsr_stays : {X : Type 0} (f : Further X) (from n : ℕ) (u : Units X) → (after (block_rule f) from n u).board_registers.wsr ≡ u.board_registers.wsr
unfolding after
wsr_stays f from zero u = refl
wsr_stays f from (suc n) u = wsr_ticked f (from + n) (after (block_rule f) from n u) ∙ wsr_stays f from n u

use Rattle.std.proofs.Common.{◌≡◌, ◌+◌, ◌-◌, ◌%◌, false, None, subst, arith}
use Rattle.std.specs.Prelude.{slice_index_or, is_none}
use Rattle.kc_hso.proofs.hso.empty_from.Goals as goal

pub returns : goal.returns
returns c = λ t later.
    let all : c.loop-ahead.ahead ≡ 8 = omega arith in
    let now = c.args.now in
    let same : (now + (t - now) % 8) % 8 ≡ t % 8 = omega (arith, later) in
    subst (λ i. is_none (slice_index_or c.args.slots.now i None) ≡ false) same
    (c.loop-ahead.invariant (now + (t - now) % 8) (omega arith) (omega (arith, all)))

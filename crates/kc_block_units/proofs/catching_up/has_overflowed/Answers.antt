use Rattle.std.proofs.Common.{◌≡◌, ◌+◌, ◌-◌, sym, ◌∙◌, ap, arith}
use Rattle.std.specs.Prelude.{nat_lt, ◌||◌, ◌/◌}
use Rattle.kc_block_units.proofs.Timer1.{flag_after}
use Rattle.kc_block_units.proofs.catching_up.has_overflowed.Goals as goal

pub returns : goal.returns
returns c = λ raises flag.
    let to : c.args.from + (c.args.to - c.args.from) ≡ c.args.to = omega arith in
    sym (flag_after raises c.args.from (c.args.to - c.args.from) flag ∙ ap (λ t. flag || nat_lt (c.args.from / 524288) (t / 524288)) to)

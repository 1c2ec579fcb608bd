use Rattle.std.proofs.Common.{◌^◌, sym, ◌∙◌, ap}
use Rattle.std.specs.Prelude.{bit_or}
use lib.Bits.{or_zero_r}
use Rattle.kc_base.specs.Bits.{weight}
use Rattle.kc_block_units.proofs.masks.with_pin.Goals as goal

pub returns-else-high : goal.returns-else-high
returns-else-high c = sym (ap (λ high. bit_or c.args.mask (weight high (2 ^ c.args.pin))) c.if-high.false ∙ or_zero_r c.args.mask)

use Rattle.std.proofs.Common.{arith, sym, ◌∙◌}
use Rattle.kc_block_sfr.proofs.Calls.{further_read}
use Rattle.kc_block_sfr.proofs.reading.read_byte.Goals as goal

pub returns-in-None-clause-costs : goal.returns-in-None-clause-costs
returns-in-None-clause-costs g c =
    let four = further_read c.args.window c.args.sfr (sym c.readable_byte.ensures ∙ c.in-None.is) in
    record { spent = omega (arith, four, c.read_further.ensures.costs.spent); moves = omega (arith, four, c.read_further.ensures.costs.moves) }

use Rattle.std.proofs.Common.{arith, sym, ◌∙◌}
use Rattle.kc_block_sfr.proofs.Calls.{further_written, named_within}
use Rattle.kc_block_sfr.proofs.writing.write_byte.Goals as goal

pub returns-in-Some-clause-costs : goal.returns-in-Some-clause-costs
returns-in-Some-clause-costs g c =
    let within = named_within c.args.window c.args.sfr c.in-Some.register (sym c.writable_byte.ensures ∙ c.in-Some.is) in
    record { spent = omega (arith, within, c.write_named.ensures.costs.spent); moves = omega (arith, within, c.write_named.ensures.costs.moves) }

pub returns-in-None-clause-costs : goal.returns-in-None-clause-costs
returns-in-None-clause-costs g c =
    let four = further_written c.args.window c.args.sfr (sym c.writable_byte.ensures ∙ c.in-None.is) in
    record { spent = omega (arith, four, c.write_further.ensures.costs.spent); moves = omega (arith, four, c.write_further.ensures.costs.moves) }

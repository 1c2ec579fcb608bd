use Rattle.std.proofs.Common.{◌∙◌, sym, arith}
use Rattle.kc_kit_words.specs.Inputs.{inputs_in}
use Rattle.kc_kit_inputs.proofs.InputLemmas.{no-texts}
use Rattle.kc_kit_inputs.proofs.reading.input_for.Goals as goal

pub returns-clause-input : goal.returns-clause-input
returns-clause-input c = sym (c.loop-behind.invariant.same ∙ no-texts c.args.role (inputs_in c.loop-behind.left) c.loop-behind.behind.now (omega (arith, c.in_default.len_below)))

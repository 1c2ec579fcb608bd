use Rattle.std.proofs.Common.{ap, ◌∙◌}
use Rattle.kc_vcd.specs.Variables.{variables_of}
use Rattle.kc_vcd.proofs.shown.Shown.new.Goals as goal

pub returns : goal.returns
returns c = λ i. record {
  variables = (c.in_ok-variables_in.ensures.variables ∙ ap (variables_of c.args.stimuli.now) c.samples.ensures.samples) i;
  start = c.start_levels.ensures i;
  samples = c.args.values;
  length = c.state_length.ensures.value i;
}

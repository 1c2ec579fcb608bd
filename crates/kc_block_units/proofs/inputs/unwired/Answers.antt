use Rattle.kc_block_units.proofs.InputMasks.{unwired_is}
use Rattle.kc_block_units.proofs.inputs.unwired.Goals as goal

pub returns : goal.returns
returns c = λ t outs is. unwired_is c.args.stimuli.now t outs c.args.levels c.wired_inputs.result is c.wired_inputs.ensures c.wired_inputs.type_inv

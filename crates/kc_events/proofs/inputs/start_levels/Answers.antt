use Rattle.std.proofs.Common.{◌≡◌, rules}
use Rattle.kc_trace.specs.Tables.{level_in}
use Rattle.kc_events.proofs.InputLemmas.{all_start}
use Rattle.kc_events.proofs.inputs.start_levels.Goals as goal

pub returns : goal.returns
returns c =
    let all : c.loop-pin.pin ≡ 41 = search rules in
    all_start c.args.stimuli.now c.args.base c.loop-pin.pin (level_in c.loop-pin.levels) all c.loop-pin.invariant.0 c.loop-pin.invariant.1

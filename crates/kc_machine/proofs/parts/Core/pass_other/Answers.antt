use Rattle.kc_machine.proofs.Prepared.{same-machine}
use Rattle.kc_machine.proofs.parts.Core.pass_other.Goals as goal

pub returns : goal.returns
returns g c =
    let same = same-machine c.args.self.now c.look_ahead.new.self c.look_ahead.ensures.scene in
    let passed = c.pass_any.ensures.passed in
    record {
      passed = record {
        passes = rw same at passed.passes;
        goes = record {
          machine = rw same at passed.goes.machine;
          lines = rw same at passed.goes.lines;
          costs = rw (same, c.look_ahead.ensures.block) at passed.goes.costs;
        };
        predecoded = passed.predecoded;
      };
    }

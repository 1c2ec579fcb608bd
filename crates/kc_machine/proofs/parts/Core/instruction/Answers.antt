use Rattle.std.proofs.Common.{◌∙◌}
use Rattle.kc_machine.specs.Seen.{machine_of}
use Rattle.kc_machine.proofs.Prepared.{read_so}
use Rattle.kc_machine.proofs.parts.Core.instruction.Goals as goal

pub returns-in-Some : goal.returns-in-Some
returns-in-Some g c =
    let known = c.placed_predecoded.ensures.knows in
    record {
      knows = record {
        value = known.value ∙ read_so (machine_of c.args.self.now) c.in-Some.predecoded c.in-Some.ensures;
        going = known.going;
        same = known.same;
        steps = known.steps;
      };
    }

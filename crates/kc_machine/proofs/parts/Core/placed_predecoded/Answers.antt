use Rattle.std.proofs.Common.{◌∙◌, rules, arith}
use Rattle.std.proofs.lemmas.Grind.{common_steps}
use Rattle.kc_exec_spec.specs.Places.{place_of}
use Rattle.kc_machine_spec.specs.Board.{masks_of}
use Rattle.kc_machine_spec.specs.Machine.{scene_of}
use Rattle.kc_machine_spec.specs.Scene.{byte}
use Rattle.kc_machine.specs.Seen.{machine_of}
use Rattle.kc_machine.proofs.Prepared.{placed_for, placed_not}
use Rattle.kc_machine.proofs.parts.Core.placed_predecoded.Goals as goal

pub returns-in-Ok : goal.returns-in-Ok
returns-in-Ok g c =
    let m = machine_of c.args.self.now in
    record {
      knows = record {
        value = placed_for c.args.predecoded.now.insn (place_of c.args.predecoded.now.insn m.cpu (masks_of m.board.units) (byte (scene_of m))) c.in-Ok.left c.in-Ok.ensures.value;
        going = record { sound = c.requires.formed; some = c.in-Ok.ensures.some };
        same = first_of (search rules, grind (arith, common_steps));
        steps = first_of (search rules, grind (arith, common_steps));
      };
    }

pub returns-in-Err : goal.returns-in-Err
returns-in-Err g c =
    let m = machine_of c.args.self.now in
    record {
      knows = record {
        value = c.broken_off.ensures.value ∙ placed_not c.args.predecoded.now.insn (place_of c.args.predecoded.now.insn m.cpu (masks_of m.board.units) (byte (scene_of m))) c.in-Err.kind c.in-Err.ensures.value;
        going = c.broken_off.ensures.going;
        same = first_of (search rules, grind (arith, common_steps));
        steps = first_of (search rules, grind (arith, common_steps));
      };
    }

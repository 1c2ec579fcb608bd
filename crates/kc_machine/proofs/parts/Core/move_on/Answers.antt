use Rattle.std.proofs.Common.{◌≡◌, ◌∙◌, ◌++◌, ◌*◌, ap, sym, [], rules, arith}
use Rattle.std.proofs.lemmas.Grind.{common_steps}
use Rattle.kc_exec_spec.specs.Effect.{Done, Refused, run}
use Rattle.kc_exec_spec.specs.BlockMoves.{moved_word}
use Rattle.kc_machine_spec.specs.Machine.{scene_of, closed, broken}
use Rattle.kc_machine.specs.declared.parts.Core.{Core}
use Rattle.kc_machine_spec.specs.Board.{pins}
use Rattle.kc_machine_spec.specs.Passing.{stepped_of}
use Rattle.kc_machine.specs.Bus.{bus_meaning, held_of}
use Rattle.kc_machine.specs.Seen.{machine_of}
use Rattle.kc_machine.proofs.Finishing.{moved, move-refused}
use Rattle.kc_machine.proofs.parts.Core.move_on.Goals as goal

pub returns-in-Ok-clause-over : goal.returns-in-Ok-clause-over
returns-in-Ok-clause-over g c =
    let m = machine_of c.args.self.now in
    let s = held_of c.move_over.new.common in
    let led : run (bus_meaning g.X.Extra.further) (moved_word c.args.insn.now c.args.words m.cpu) (scene_of m) ≡ Done (c.in-Ok.after, c.move_over.new.cpu) s =
    ap (run (bus_meaning g.X.Extra.further) (moved_word c.args.insn.now c.args.words m.cpu)) (sym c.requires.last.scene) ∙ c.in-Ok.ensures.effect in
    record {
      machine =
          ap (λ (core : Core _ _). stepped_of (machine_of core) (pins m.time core.bus.edges ++ []) core.bus.reached) c.close.ensures
          ∙ ap (λ next. closed m s c.move_over.new.cpu next []) c.follow.ensures.value
          ∙ moved g.X.Extra.further c.args.insn.now c.args.words m s c.in-Ok.after c.move_over.new.cpu led;
      time = first_of (search rules, grind (arith, common_steps));
      over = first_of (search rules, grind (arith, common_steps));
      between = first_of (search rules, grind (arith, common_steps));
      printable = first_of (search rules, grind (arith, common_steps));
    }

pub returns-in-Err-clause-over : goal.returns-in-Err-clause-over
returns-in-Err-clause-over g c =
    let m = machine_of c.args.self.now in
    let s = held_of c.move_over.new.common in
    let led : run (bus_meaning g.X.Extra.further) (moved_word c.args.insn.now c.args.words m.cpu) (scene_of m) ≡ Refused c.in-Err.kind s =
    ap (run (bus_meaning g.X.Extra.further) (moved_word c.args.insn.now c.args.words m.cpu)) (sym c.requires.last.scene) ∙ c.in-Err.ensures.effect.0 in
    record {
      machine =
          c.break_off.ensures.machine
          ∙ ap (λ cpu. broken (record m { cpu = cpu }) s cpu.pc c.in-Err.kind) c.in-Err.ensures.effect.1
          ∙ move-refused g.X.Extra.further c.args.insn.now c.args.words m s c.in-Err.kind led;
      time = first_of (search rules, grind (arith, common_steps));
      over = first_of (search rules, grind (arith, common_steps));
      between = first_of (search rules, grind (arith, common_steps));
      printable = first_of (search rules, grind (arith, common_steps));
    }

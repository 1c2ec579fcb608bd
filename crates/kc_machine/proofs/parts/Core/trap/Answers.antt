use Rattle.std.proofs.Common.{◌≡◌, ◌∙◌, ◌++◌, ◌*◌, ap, sym, ◌+◌, ◌%◌, [], ◌∷◌, rules, arith}
use Rattle.std.proofs.lemmas.Grind.{common_steps}
use Rattle.kc_trace.specs.declared.record.Record.TheVariants.{Entered}
use Rattle.kc_exec_spec.specs.Effect.{Done, Refused, run}
use Rattle.kc_exec_spec.specs.Entering.{opcode_trap}
use Rattle.kc_machine_spec.specs.Machine.{scene_of, closed, broken}
use Rattle.kc_machine.specs.declared.parts.Core.{Core}
use Rattle.kc_machine_spec.specs.Board.{pins}
use Rattle.kc_machine_spec.specs.Passing.{stepped_of}
use Rattle.kc_machine.specs.Bus.{bus_meaning, held_of}
use Rattle.kc_machine.specs.Seen.{machine_of}
use Rattle.kc_machine.proofs.Finishing.{trap-made, trap-refused}
use Rattle.kc_machine.proofs.parts.Core.trap.Goals as goal

pub returns-in-Ok-clause-over : goal.returns-in-Ok-clause-over
returns-in-Ok-clause-over g c =
    let m = machine_of c.args.self.now in
    let s = held_of c.trap_over.new.common in
    let led : run (bus_meaning g.X.Extra.further) (opcode_trap m.cpu.pc) (scene_of m) ≡ Done c.trap_over.new.cpu.pc s =
    ap (run (bus_meaning g.X.Extra.further) (opcode_trap m.cpu.pc)) (sym c.requires.last.scene) ∙ c.in-Ok.ensures.effect.0 in
    record {
      machine =
          ap (λ (core : Core _ _). stepped_of (machine_of core) (pins m.time core.bus.edges ++ (Entered m.time 17 ((m.cpu.pc + 1) % 0x10000) ∷ [])) core.bus.reached) c.close.ensures
          ∙ ap (λ next. closed m s c.trap_over.new.cpu next (Entered m.time 17 ((m.cpu.pc + 1) % 0x10000) ∷ [])) c.hold.ensures
          ∙ trap-made g.X.Extra.further m s c.trap_over.new.cpu led c.in-Ok.ensures.effect.1;
      time = first_of (search rules, grind (arith, common_steps));
      over = first_of (search rules, grind (arith, common_steps));
      between = first_of (search rules, grind (arith, common_steps));
      printable = first_of (search rules, grind (arith, common_steps));
    }

pub returns-in-Err-clause-over : goal.returns-in-Err-clause-over
returns-in-Err-clause-over g c =
    let m = machine_of c.args.self.now in
    let s = held_of c.trap_over.new.common in
    let led : run (bus_meaning g.X.Extra.further) (opcode_trap m.cpu.pc) (scene_of m) ≡ Refused c.in-Err.kind s =
    ap (run (bus_meaning g.X.Extra.further) (opcode_trap m.cpu.pc)) (sym c.requires.last.scene) ∙ c.in-Err.ensures.effect.0 in
    record {
      machine =
          c.break_off.ensures.machine
          ∙ ap (λ cpu. broken (record m { cpu = cpu }) s cpu.pc c.in-Err.kind) c.in-Err.ensures.effect.1
          ∙ trap-refused g.X.Extra.further m s c.in-Err.kind led;
      time = first_of (search rules, grind (arith, common_steps));
      over = first_of (search rules, grind (arith, common_steps));
      between = first_of (search rules, grind (arith, common_steps));
      printable = first_of (search rules, grind (arith, common_steps));
    }

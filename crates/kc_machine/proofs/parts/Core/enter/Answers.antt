use Rattle.std.proofs.Common.{◌≡◌, ◌∙◌, ◌++◌, ◌*◌, ap, sym, [], ◌∷◌, rules, arith}
use Rattle.std.proofs.lemmas.Grind.{common_steps}
use Rattle.kc_trace.specs.declared.record.Record.TheVariants.{Entered}
use Rattle.kc_exec_spec.specs.Effect.{Done, Refused, run}
use Rattle.kc_exec_spec.specs.Entering.{entry, vector_at}
use Rattle.kc_machine_spec.specs.Machine.{scene_of, closed, broken, holding}
use Rattle.kc_machine.specs.declared.parts.Core.{Core}
use Rattle.kc_machine_spec.specs.Board.{pins}
use Rattle.kc_machine_spec.specs.Passing.{stepped_of}
use Rattle.kc_machine.specs.Bus.{bus_meaning, held_of}
use Rattle.kc_machine.specs.Seen.{machine_of}
use Rattle.kc_machine.proofs.Finishing.{entry-made, entry-refused}
use Rattle.kc_machine.proofs.parts.Core.enter.Goals as goal

pub returns-in-Ok-clause-over : goal.returns-in-Ok-clause-over
returns-in-Ok-clause-over g c =
    let m = machine_of c.args.self.now in
    let s = held_of c.enter_over.new.common in
    let led : run (bus_meaning g.X.Extra.further) (entry (vector_at c.args.number) m.cpu.pc) (scene_of m) ≡ Done c.enter_over.new.cpu.pc s =
    ap (run (bus_meaning g.X.Extra.further) (entry (vector_at c.args.number) m.cpu.pc)) (sym c.requires.last.scene)
    ∙ ap (λ v. run (bus_meaning g.X.Extra.further) (entry v m.cpu.pc) (held_of c.args.self.now.bus)) (sym c.vector_at.ensures)
    ∙ c.in-Ok.ensures.effect.0 in
    record {
      machine =
          ap (λ (core : Core _ _). stepped_of (machine_of core) (pins m.time core.bus.edges ++ (Entered m.time c.args.number m.cpu.pc ∷ [])) core.bus.reached) c.close.ensures
          ∙ ap (λ next. closed m (held_of c.take.new.self) c.enter_over.new.cpu next (Entered m.time c.args.number m.cpu.pc ∷ [])) c.hold.ensures
          ∙ ap (λ scene. closed m scene c.enter_over.new.cpu holding (Entered m.time c.args.number m.cpu.pc ∷ [])) c.take.ensures.scene
          ∙ entry-made g.X.Extra.further c.args.number m s c.enter_over.new.cpu led c.in-Ok.ensures.effect.1;
      time = first_of (search rules, grind (arith, common_steps));
      over = first_of (search rules, grind (arith, common_steps));
      between = first_of (search rules, grind (arith, common_steps));
      printable = first_of (search rules, grind (arith, common_steps));
    }

pub returns-in-Err-clause-over : goal.returns-in-Err-clause-over
returns-in-Err-clause-over g c =
    let m = machine_of c.args.self.now in
    let s = held_of c.enter_over.new.common in
    let led : run (bus_meaning g.X.Extra.further) (entry (vector_at c.args.number) m.cpu.pc) (scene_of m) ≡ Refused c.in-Err.kind s =
    ap (run (bus_meaning g.X.Extra.further) (entry (vector_at c.args.number) m.cpu.pc)) (sym c.requires.last.scene)
    ∙ ap (λ v. run (bus_meaning g.X.Extra.further) (entry v m.cpu.pc) (held_of c.args.self.now.bus)) (sym c.vector_at.ensures)
    ∙ c.in-Err.ensures.effect.0 in
    record {
      machine =
          c.break_off.ensures.machine
          ∙ ap (λ cpu. broken (record m { cpu = cpu }) s m.cpu.pc c.in-Err.kind) c.in-Err.ensures.effect.1
          ∙ entry-refused g.X.Extra.further c.args.number m s c.in-Err.kind led;
      time = first_of (search rules, grind (arith, common_steps));
      over = first_of (search rules, grind (arith, common_steps));
      between = first_of (search rules, grind (arith, common_steps));
      printable = first_of (search rules, grind (arith, common_steps));
    }

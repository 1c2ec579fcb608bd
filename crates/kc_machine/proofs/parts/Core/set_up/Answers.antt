use Rattle.std.proofs.Common.{◌≡◌, ◌∙◌, ◌++◌, ◌*◌, ap, sym, [], rules, arith}
use Rattle.std.proofs.lemmas.Grind.{common_steps}
use Rattle.kc_exec_spec.specs.Effect.{Done, Refused, run}
use Rattle.kc_pts.specs.Cycles.{set_up}
use Rattle.kc_machine_spec.specs.Board.{pins}
use Rattle.kc_machine_spec.specs.Machine.{scene_of, closed, broken, serving}
use Rattle.kc_machine_spec.specs.Passing.{stepped_of}
use Rattle.kc_machine.specs.declared.parts.Core.{Core}
use Rattle.kc_machine.specs.Bus.{bus_meaning, held_of}
use Rattle.kc_machine.specs.Seen.{machine_of}
use Rattle.kc_machine.proofs.Finishing.{setup-made, setup-refused}
use Rattle.kc_machine.proofs.parts.Core.set_up.Goals as goal

pub returns-in-Ok-clause-over : goal.returns-in-Ok-clause-over
returns-in-Ok-clause-over g c =
    let m = machine_of c.args.self.now in
    let s = held_of c.setup_over.new.common in
    let led : run (bus_meaning g.X.Extra.further) (set_up c.args.number) (scene_of m) ≡ Done c.in-Ok.cycle s =
    ap (run (bus_meaning g.X.Extra.further) (set_up c.args.number)) (sym c.requires.last.scene) ∙ c.in-Ok.ensures.gives in
    record {
      machine =
          ap (λ (core : Core _ _). stepped_of (machine_of core) (pins m.time core.bus.edges ++ []) core.bus.reached) c.close.ensures
          ∙ ap (λ next. closed m (held_of c.claim.new.self) m.cpu next []) c.go_on_serving.ensures
          ∙ ap (λ scene. closed m scene m.cpu (serving c.args.number c.in-Ok.cycle) []) c.claim.ensures.scene
          ∙ setup-made g.X.Extra.further c.args.number m s c.in-Ok.cycle led;
      time = first_of (search rules, grind (arith, common_steps));
      over = first_of (search rules, grind (arith, common_steps));
      between = first_of (search rules, grind (arith, common_steps));
      printable = first_of (search rules, grind (arith, common_steps));
    }

pub returns-in-Err-clause-over : goal.returns-in-Err-clause-over
returns-in-Err-clause-over g c =
    let m = machine_of c.args.self.now in
    let s = held_of c.setup_over.new.common in
    let led : run (bus_meaning g.X.Extra.further) (set_up c.args.number) (scene_of m) ≡ Refused c.in-Err.kind s =
    ap (run (bus_meaning g.X.Extra.further) (set_up c.args.number)) (sym c.requires.last.scene) ∙ c.in-Err.ensures.gives in
    record {
      machine =
          c.break_off.ensures.machine
          ∙ ap (λ addr. broken m s addr c.in-Err.kind) c.vector_of.ensures
          ∙ setup-refused g.X.Extra.further c.args.number m s c.in-Err.kind led;
      time = first_of (search rules, grind (arith, common_steps));
      over = first_of (search rules, grind (arith, common_steps));
      between = first_of (search rules, grind (arith, common_steps));
      printable = first_of (search rules, grind (arith, common_steps));
    }

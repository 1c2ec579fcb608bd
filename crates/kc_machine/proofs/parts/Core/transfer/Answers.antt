use Rattle.std.proofs.Common.{◌≡◌, ◌∙◌, ◌++◌, ◌*◌, Some, None, ap, sym, [], ◌∷◌, rules, arith}
use Rattle.std.proofs.lemmas.Grind.{common_steps}
use Rattle.kc_exec_spec.specs.Effect.{Done, Refused, run}
use Rattle.kc_pts.specs.Cycles.{served}
use Rattle.kc_trace.specs.declared.record.Record.TheVariants.{Served}
use Rattle.kc_machine_spec.specs.Board.{pins}
use Rattle.kc_machine_spec.specs.Machine.{scene_of, closed, broken, free}
use Rattle.kc_machine_spec.specs.Passing.{stepped_of}
use Rattle.kc_machine.specs.declared.parts.Core.{Core}
use Rattle.kc_machine.specs.Bus.{bus_meaning, held_of}
use Rattle.kc_machine.specs.Seen.{machine_of}
use Rattle.kc_machine.proofs.Finishing.{transfer-made, transfer-refused}
use Rattle.kc_machine.proofs.parts.Core.transfer.Goals as goal

pub returns-in-Ok-None-clause-over : goal.returns-in-Ok-None-clause-over
returns-in-Ok-None-clause-over g c =
    let m = machine_of c.args.self.now in
    let s = held_of c.serve_over.new.common in
    let led : run (bus_meaning g.X.Extra.further) (served c.args.cycle) (scene_of m) ≡ Done (c.serve_over.new.cycle, None) s =
    ap (run (bus_meaning g.X.Extra.further) (served c.args.cycle)) (sym c.requires.last.scene) ∙ c.in-Ok-None.ensures.effect ∙ ap (λ count. Done (c.serve_over.new.cycle, count) s) c.in-Ok-None.field-0-is in
    record {
      machine =
          ap (λ (core : Core _ _). stepped_of (machine_of core) (pins m.time core.bus.edges ++ []) core.bus.reached) c.close.ensures
          ∙ ap (λ next. closed m s m.cpu next []) c.go_on_serving.ensures
          ∙ transfer-made g.X.Extra.further c.args.number c.args.cycle m s c.serve_over.new.cycle None led;
      time = first_of (search rules, grind (arith, common_steps));
      over = first_of (search rules, grind (arith, common_steps));
      between = first_of (search rules, grind (arith, common_steps));
      printable = first_of (search rules, grind (arith, common_steps));
    }

pub returns-in-Ok-Some-clause-over : goal.returns-in-Ok-Some-clause-over
returns-in-Ok-Some-clause-over g c =
    let m = machine_of c.args.self.now in
    let s = held_of c.serve_over.new.common in
    let line = Served m.time c.args.number c.serve_over.new.cycle.mode c.in-Ok-Some.count in
    let led : run (bus_meaning g.X.Extra.further) (served c.args.cycle) (scene_of m) ≡ Done (c.serve_over.new.cycle, Some c.in-Ok-Some.count) s =
    ap (run (bus_meaning g.X.Extra.further) (served c.args.cycle)) (sym c.requires.last.scene) ∙ c.in-Ok-Some.ensures.effect ∙ ap (λ count. Done (c.serve_over.new.cycle, count) s) c.in-Ok-Some.field-0-is in
    record {
      machine =
          ap (λ (core : Core _ _). stepped_of (machine_of core) (pins m.time core.bus.edges ++ (line ∷ [])) core.bus.reached) c.close-in-Ok-Some.ensures
          ∙ ap (λ next. closed m (held_of c.hand.new.self) m.cpu next (line ∷ [])) c.end.ensures
          ∙ ap (λ scene. closed m scene m.cpu free (line ∷ [])) c.hand.ensures.scene
          ∙ transfer-made g.X.Extra.further c.args.number c.args.cycle m s c.serve_over.new.cycle (Some c.in-Ok-Some.count) led;
      time = first_of (search rules, grind (arith, common_steps));
      over = first_of (search rules, grind (arith, common_steps));
      between = first_of (search rules, grind (arith, common_steps));
      printable = first_of (search rules, grind (arith, common_steps));
    }

pub returns-in-Err-clause-over : goal.returns-in-Err-clause-over
returns-in-Err-clause-over g c =
    let m = machine_of c.args.self.now in
    let s = held_of c.serve_over.new.common in
    let led : run (bus_meaning g.X.Extra.further) (served c.args.cycle) (scene_of m) ≡ Refused c.in-Err.kind s =
    ap (run (bus_meaning g.X.Extra.further) (served c.args.cycle)) (sym c.requires.last.scene) ∙ c.in-Err.ensures.effect.0 in
    record {
      machine =
          c.break_off.ensures.machine
          ∙ ap (λ addr. broken m s addr c.in-Err.kind) c.vector_of.ensures
          ∙ transfer-refused g.X.Extra.further c.args.number c.args.cycle m s c.in-Err.kind led;
      time = first_of (search rules, grind (arith, common_steps));
      over = first_of (search rules, grind (arith, common_steps));
      between = first_of (search rules, grind (arith, common_steps));
      printable = first_of (search rules, grind (arith, common_steps));
    }

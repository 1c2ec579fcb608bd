use Rattle.std.proofs.Common.{◌∙◌, ◌++◌, ◌*◌, ap, [], rules, arith}
use Rattle.std.proofs.lemmas.Grind.{common_steps}
use Rattle.kc_machine_spec.specs.Machine.{closed, idling}
use Rattle.kc_machine.specs.declared.parts.Core.{Core}
use Rattle.kc_machine_spec.specs.Board.{pins}
use Rattle.kc_machine_spec.specs.Passing.{stepped_of}
use Rattle.kc_machine.specs.Bus.{held_of}
use Rattle.kc_machine.specs.Seen.{machine_of}
use Rattle.kc_machine.proofs.Finishing.{stayed}
use Rattle.kc_machine.proofs.parts.Core.stay.Goals as goal

pub returns-clause-over : goal.returns-clause-over
returns-clause-over g c =
    let m = machine_of c.args.self.now in
    record {
      machine =
          ap (λ (core : Core _ _). stepped_of (machine_of core) (pins m.time core.bus.edges ++ []) core.bus.reached) c.close.ensures
          ∙ ap (λ next. closed m (held_of c.args.self.now.bus) m.cpu next []) c.idle.ensures
          ∙ ap (λ scene. closed m scene m.cpu idling []) c.requires.scene
          ∙ stayed g.X.Extra.further m;
      time = first_of (search rules, grind (arith, common_steps));
      over = first_of (search rules, grind (arith, common_steps));
      between = first_of (search rules, grind (arith, common_steps));
      printable = first_of (search rules, grind (arith, common_steps));
    }

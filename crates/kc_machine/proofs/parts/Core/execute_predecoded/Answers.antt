use Rattle.std.proofs.Common.{◌≡◌, ◌∙◌, if◌then◌else◌, ap, sym}
use Rattle.kc_exec_spec.specs.declared.cpu.After.TheVariants.{Next, Held}
use Rattle.kc_exec_spec.specs.Effect.{Done, Refused, run}
use Rattle.kc_exec_spec.specs.Effects.{effect_of}
use Rattle.kc_machine_spec.specs.Machine.{scene_of, closed, broken, next_after}
use Rattle.kc_machine.specs.Bus.{bus_meaning, held_of}
use Rattle.kc_machine.specs.Seen.{machine_of}
use Rattle.kc_machine.proofs.Finishing.{executed, execute-refused}
use Rattle.kc_machine.proofs.Prepared.{silent, gone-on}
use Rattle.kc_machine.proofs.parts.Core.execute_predecoded.Goals as goal

pub returns-in-Ok-clause-ok : goal.returns-in-Ok-clause-ok
returns-in-Ok-clause-ok g c =
    let m = machine_of c.args.self.now in
    let i = c.args.predecoded.now.insn in
    let s = held_of c.predecoded_over.new.common in
    let after = if c.in-Ok.held then Held else Next in
    let led : run (bus_meaning g.X.Extra.further) (effect_of i m.cpu) (scene_of m) ≡ Done (if c.in-Ok.held then Held else Next, c.predecoded_over.new.cpu) s =
    ap (run (bus_meaning g.X.Extra.further) (effect_of i m.cpu)) (sym c.requires.scene) ∙ c.in-Ok.ensures.effect in
    gone-on m i s c.predecoded_over.new.cpu c.in-Ok.held c.requires.begun c.requires.alone c.requires.lives
    ∙ ap (closed m s c.predecoded_over.new.cpu (next_after i after)) (sym (silent m.time m.cpu.pc c.args.predecoded.now c.requires.predecoded c.requires.followed))
    ∙ executed g.X.Extra.further i m s after c.predecoded_over.new.cpu led

pub returns-in-Err-clause-err : goal.returns-in-Err-clause-err
returns-in-Err-clause-err g c =
    let m = machine_of c.args.self.now in
    let i = c.args.predecoded.now.insn in
    let s = held_of c.predecoded_over.new.common in
    let led : run (bus_meaning g.X.Extra.further) (effect_of i m.cpu) (scene_of m) ≡ Refused c.in-Err.kind s =
    ap (run (bus_meaning g.X.Extra.further) (effect_of i m.cpu)) (sym c.requires.scene) ∙ c.in-Err.ensures.effect.0 in
    ap (λ cpu. broken (record m { cpu = cpu }) s cpu.pc c.in-Err.kind) c.in-Err.ensures.effect.1
    ∙ execute-refused g.X.Extra.further i m s c.in-Err.kind led

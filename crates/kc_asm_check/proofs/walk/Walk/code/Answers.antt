use Rattle.kc_asm_check.specs.Walk.{stood}
use Rattle.kc_asm_check.proofs.WalkLemmas.{codes_joined}
use Rattle.kc_asm_check.proofs.walk.Walk.code.Goals as goal

pub returns : goal.returns
returns c = λ all before at.
    let w = c.args.self.now in
    codes_joined w.meanings all before (stood w.segment c.args.stmt.now c.args.location.now) w.regions.items w.sum c.args.location.now _ _ _
    at c.in_ok-own.ensures (c.public_fault-public.ensures all before at.behind) c.lesser_number.ensures

use Rattle.std.proofs.Common.{◌≡◌, ◌≤◌, [], sym, ◌∙◌, length, arith}
use Rattle.std.specs.Prelude.{None}
use Rattle.kc_asm_check.specs.Codes.{first_regions}
use Rattle.kc_asm_check.specs.Checking.{first_fault, location_list, standing}
use Rattle.kc_asm_check.specs.Putting.{stack_of}
use Rattle.kc_asm_check.proofs.CountLemmas.{standing_count}
use Rattle.kc_asm_check.proofs.SoundLemmas.{sound_statements}
use Rattle.kc_asm_check.proofs.StackLemmas.{stack_fits}
use Rattle.kc_asm_check.proofs.checking.examined.Goals as goal

pub overflow_cast-result : goal.overflow_cast-result
overflow_cast-result c =
    let stmts = c.args.stmts.now in
    let sound : first_fault stmts ≡ None = sym c.requires.found ∙ c.in-None.is in
    let count : length (standing stmts) ≡ length stmts = standing_count stmts in
    let each : length (standing stmts) ≤ length (location_list stmts) = omega (arith, count, c.requires.each) in
    let few : stack_of stmts ≤ 65535
    = stack_fits (standing stmts) first_regions 0 [] (standing stmts) (location_list stmts) (sound_statements stmts sound) each (omega arith) in
    omega (arith, c.requires.stack, few)

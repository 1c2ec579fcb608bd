-- The groups of kinds of work in which an instruction is looked for (this kit's own).
use Rattle.std.specs.Prelude.{Bool, true, false}
use Rattle.kc_exec_spec.specs.declared.plan.Plan.{Plan}
use Rattle.kc_exec_spec.specs.declared.plan.Plan.TheVariants.{Compute, Move, Jump}
use Rattle.kc_exec_spec.specs.declared.plan.Computation.TheVariants.{Operate}

abbrev pub is_operation : Plan → Bool
is_operation (Compute (Operate op byte)) = true
is_operation _ = false

abbrev pub is_other_computation : Plan → Bool
is_other_computation (Compute (Operate op byte)) = false
is_other_computation (Compute how) = true
is_other_computation _ = false

abbrev pub is_movement : Plan → Bool
is_movement (Move how) = true
is_movement _ = false

abbrev pub is_route : Plan → Bool
is_route (Jump route) = true
is_route _ = false

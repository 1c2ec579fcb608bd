use Rattle.std.proofs.Common.{ℕ, List, ◌++◌, drop}
use Rattle.std.specs.Prelude.{map}
use Rattle.kc_source.specs.declared.uses.Use.{Use}
use Rattle.kc_source.specs.Faults.{use_of}
use Rattle.kc_asm_origin.specs.Seeking.{IsSeeking}
use Rattle.kc_asm_origin.proofs.names.Search.pass_names.Given as goal

abbrev pub invariant-loop-name : goal.invariant-loop-name
invariant-loop-name l = (line code : ℕ) (all rest whole : List Use) → IsSeeking l.initial.self line code all (map (use_of l.at l.kind) l.names ++ rest) whole
    → IsSeeking l.self line code all (map (use_of l.at l.kind) (drop l.name-index l.names) ++ rest) whole

use Rattle.std.proofs.Common.{ℕ, List, drop}
use Rattle.kc_source.specs.declared.uses.Use.{Use}
use Rattle.kc_source.specs.Faults.{all_said, all_uses}
use Rattle.kc_asm_origin.specs.Seeking.{IsSeeking}
use Rattle.kc_asm_origin.proofs.names.Search.pass_lines.Given as goal

abbrev pub invariant-loop-line : goal.invariant-loop-line
invariant-loop-line l = (at code : ℕ) (all whole : List Use) → IsSeeking l.initial.self at code all (all_uses (all_said l.lines)) whole → IsSeeking l.self at code all (all_uses (all_said (drop l.line-index l.lines))) whole

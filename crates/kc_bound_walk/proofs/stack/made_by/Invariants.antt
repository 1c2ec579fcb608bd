use Rattle.std.specs.List.{All}
use Rattle.kc_bound_walk.specs.Parts.{IsPart}
use Rattle.kc_bound_walk.proofs.stack.made_by.Given as goal

abbrev pub invariant-loop-act : goal.invariant-loop-act
invariant-loop-act l = All (IsPart l.image l.notes) l.open.items × All (IsPart l.image l.notes) l.kept.items

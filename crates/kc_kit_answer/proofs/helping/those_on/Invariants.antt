use Rattle.std.proofs.Common.{◌≡◌, ◌++◌, length}
use Rattle.std.specs.Prelude.{flat_map}
use Rattle.std.specs.List.{filter}
use Rattle.std.specs.Str.{bytes_eq}
use Rattle.kc_kit_answer.proofs.helping.those_on.Given as goal

abbrev pub invariant-loop-left : goal.invariant-loop-left
invariant-loop-left l =
    l.text.items ++ flat_map (λ row. row.1.now) (filter (λ row. bytes_eq row.0.now l.verb) l.left)
    ≡ flat_map (λ row. row.1.now) (filter (λ row. bytes_eq row.0.now l.verb) l.rows)

abbrev pub decreases-loop-left : goal.decreases-loop-left
decreases-loop-left l = length l.left

use Rattle.std.proofs.Common.{◌≡◌, ℕ, List, Some, None, length}
use Rattle.std.specs.Prelude.{if◌then◌else◌}
use Rattle.std.specs.List.{list_any}
use Rattle.std.specs.Option.{option_or}
use Rattle.std.specs.Str.{bytes_eq}
use Rattle.kc_lib.specs.Givers.{found_in}
use Rattle.kc_lib.proofs.givers.Givers.note_all.Given as goal

abbrev pub invariant-loop-left : goal.invariant-loop-left
invariant-loop-left l = (q : List ℕ) → option_or (found_in l.self.numbers.entries q) (if list_any (λ g. bytes_eq g.name q) l.left then Some l.number else None)
    ≡ option_or (found_in l.initial.self.numbers.entries q) (if list_any (λ g. bytes_eq g.name q) l.fn.publics then Some l.number else None)

abbrev pub decreases-loop-left : goal.decreases-loop-left
decreases-loop-left l = length l.left

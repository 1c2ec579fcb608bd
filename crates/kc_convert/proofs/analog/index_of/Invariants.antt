use Rattle.std.proofs.Common.{◌≡◌, ◌+◌, ◌≤◌, [], length}
use Rattle.std.specs.Prelude.{fold}
use Rattle.kc_convert.specs.Parts.{samples_in, IsWhole}
use Rattle.kc_convert.specs.Reading.{first_bad, items_of, with_item}
use Rattle.kc_convert.proofs.analog.index_of.Given as goal

abbrev pub invariant-loop-rest : goal.invariant-loop-rest
invariant-loop-rest l =
    (l.lines + length l.rest ≤ length l.bytes)
    × (first_bad l.lines (samples_in l.index) (items_of l.rest) ≡ first_bad 0 [] (items_of l.bytes))
    × (fold with_item (samples_in l.index) (items_of l.rest) ≡ fold with_item [] (items_of l.bytes))
    × IsWhole l.index

abbrev pub decreases-loop-rest : goal.decreases-loop-rest
decreases-loop-rest l = length l.rest

use Rattle.std.proofs.Common.{◌≡◌, map, string_bytes, length}
use Rattle.std.specs.List.{list_all}
use Rattle.kc_kit_words.specs.Values.{is_name}
use Rattle.kc_kit_words.proofs.words.are_names.Given as goal

abbrev pub invariant-loop-left : goal.invariant-loop-left
invariant-loop-left l = list_all is_name (map string_bytes l.fn.files) ≡ list_all is_name (map string_bytes l.left)

abbrev pub decreases-loop-left : goal.decreases-loop-left
decreases-loop-left l = length l.left

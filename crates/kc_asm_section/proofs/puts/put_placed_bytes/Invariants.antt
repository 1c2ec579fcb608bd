use Rattle.std.proofs.Common.{◌≡◌, true, ltb, ◌++◌, map, length}
use Rattle.std.specs.List.{list_all}
use Rattle.kc_asm_section.specs.Order.{number_of}
use Rattle.kc_asm_section.specs.Puts.{put_of, has_start}
use Rattle.kc_asm_section.proofs.puts.put_placed_bytes.Given as goal

abbrev pub invariant-loop-left : goal.invariant-loop-left
invariant-loop-left l =
    (list_all (λ c. has_start c.relocatable_byte) l.left ≡ true)
    × (list_all (λ c. ltb c.offset l.part.length) l.left ≡ true)
    × (l.puts.items ++ map (put_of (number_of l.kept) l.piece l.part) l.left ≡ l.initial.puts.items ++ map (put_of (number_of l.kept) l.piece l.part) l.part.placed_bytes)

abbrev pub decreases-loop-left : goal.decreases-loop-left
decreases-loop-left l = length l.left

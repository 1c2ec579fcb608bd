use Rattle.std.proofs.Common.{◌≡◌, ◌+◌, ◌≤◌, length}
use Rattle.kc_asm_section.specs.Section.{laid}
use Rattle.kc_asm_section.proofs.part.Part.append.Given as goal

abbrev pub invariant-loop-left : goal.invariant-loop-left
invariant-loop-left l = (l.self.length + length l.left ≤ 65536) × (laid l.left l.self ≡ laid l.fn.relocatable_bytes l.initial.self)

abbrev pub decreases-loop-left : goal.decreases-loop-left
decreases-loop-left l = length l.left

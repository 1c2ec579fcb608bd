use Rattle.std.proofs.Common.{◌≡◌, ◌+◌, ◌≤◌, length}
use Rattle.std.specs.List.{list_all}
use Rattle.kc_asm_section.specs.Section.{is_section}
use Rattle.kc_asm_section.specs.Order.{number_of}
use Rattle.kc_asm_section.specs.ModuleContents.{added_all, AreAddable}
use Rattle.kc_asm_section.proofs.gather.Gathered.add_all.Given as goal

abbrev pub invariant-loop-left : goal.invariant-loop-left
invariant-loop-left l = (length l.self.segments + length l.left ≤ 65536) × AreAddable l.left × (list_all is_section l.left ≡ list_all is_section l.fn.parts) × (added_all (number_of l.kept) l.left l.self ≡ added_all (number_of l.kept) l.fn.parts l.initial.self)

abbrev pub decreases-loop-left : goal.decreases-loop-left
decreases-loop-left l = length l.left

use Rattle.std.proofs.Common.{◌≡◌, ◌+◌, ◌≤◌}
use Rattle.std.specs.Prelude.{replicate}
use Rattle.kc_asm_encode.specs.declared.relocatable_byte.RelocatableByte.TheVariants.{Plain}
use Rattle.kc_asm_section.specs.Section.{laid}
use Rattle.kc_asm.proofs.writing.fill.Given as goal

abbrev pub invariant-loop-left : goal.invariant-loop-left
invariant-loop-left l = record {
  few : l.part.length + l.left ≤ 65536;
  so_far : laid (replicate l.left (Plain 255)) l.part ≡ laid (replicate l.count (Plain 255)) l.fn.part;
}

abbrev pub decreases-loop-left : goal.decreases-loop-left
decreases-loop-left l = l.left

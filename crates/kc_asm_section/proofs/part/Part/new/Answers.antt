use Rattle.std.proofs.Common.{refl}
use Rattle.kc_asm_section.specs.Section.{rise}
use Rattle.kc_asm_section.proofs.part.Part.new.Goals as goal

pub invariant_of-result : goal.invariant_of-result
unfolding rise
invariant_of-result c = rw (c.new.ensures.items, c.new-2.ensures.items) refl

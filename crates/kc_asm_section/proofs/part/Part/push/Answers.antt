use Rattle.std.proofs.Common.{◌≡◌, refl, ap, arith}
use Rattle.kc_asm_section.specs.Section.{Section, placed_byte}
use Rattle.kc_asm_section.proofs.Rising.{section_put}
use Rattle.kc_asm_section.proofs.part.Part.push.Goals as goal

pub invariant_of-self-2 : goal.invariant_of-self-2
invariant_of-self-2 c =
    let size : c.self.inside.size ≡ c.args.self.now.length = ap (λ (t : Section). t.length) c.self.view_is in
    rw c.in_ok-push.ensures.items (section_put c.self.inside.size c.self.inside.placed_bytes.items c.self.inside.marks.items c.self.invariant (placed_byte c.self.inside.size c.args.relocatable_byte) (omega arith) refl)

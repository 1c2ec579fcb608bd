use Rattle.std.proofs.Common.{◌≡◌, ap, arith}
use Rattle.kc_asm_section.specs.Section.{Section}
use Rattle.kc_asm_section.proofs.Rising.{section_skipped}
use Rattle.kc_asm_section.proofs.part.Part.skip.Goals as goal

pub invariant_of-self : goal.invariant_of-self
invariant_of-self c =
    let size : c.self.inside.size ≡ c.args.self.now.length = ap (λ (t : Section). t.length) c.self.view_is in
    section_skipped c.self.inside.size c.self.inside.placed_bytes.items c.self.inside.marks.items c.self.invariant c.args.count (omega arith)

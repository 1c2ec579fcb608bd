use Rattle.std.proofs.Common.{◌≡◌, ◌+◌, ◌-◌, ℕ, ap, subst, sym, ◌∙◌}
use Rattle.kc_asm_emit.specs.Seen.{seen}
use Rattle.kc_asm_section.specs.Section.{Section}
use Rattle.kc_asm_unlinked_laws.specs.Writable.{HasRoom}
use Rattle.kc_asm.proofs.FillLemmas.{led_length}
use Rattle.kc_asm.proofs.writing.write.Goals as goal

pub put-requires : goal.put-requires
put-requires c =
    let location = c.args.location.now in
    let part = c.args.part.now in
    let gap = location.place - location.before in
    let size : c.lead.new.part.length ≡ part.length + gap
    = ap (λ (t : Section). t.length) c.in_ok-lead.ensures ∙ led_length c.args.segment.kind gap part in
    subst (λ (n : ℕ). HasRoom n (seen c.args.content.now) location.place) (sym size) c.requires.room

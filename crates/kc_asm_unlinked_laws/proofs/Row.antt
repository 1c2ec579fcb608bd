-- The worked unlinked module, computed.
use Rattle.std.proofs.Common.{◌≡◌, true, false, List, refl, ap, ◌∙◌}
use Rattle.kc_obj_module.specs.Numbers.{distance, number, first_part, second_part}
use Rattle.kc_asm_encode.specs.Filling.{fill}
use Rattle.kc_asm_encode.specs.Relocating.{depends, relocated}
use Rattle.kc_asm_section.specs.Section.{Section}
use Rattle.kc_asm_section.specs.declared.unlinked.Public.{Public}
use Rattle.kc_asm_section.specs.declared.kept.Kept.{Kept}
use Rattle.kc_asm_section.specs.Order.{is_named, kept_of}
use Rattle.kc_asm_section.specs.ModuleOf.{kept_in}
use Rattle.kc_asm_section.specs.Worked.{parts, publics}
use Rattle.kc_asm_unlinked_laws.specs.Parts.{piece_number}
use Rattle.kc_asm_unlinked_laws.specs.Worked.{WorkedUnlinked}

abbrev two_kept : Kept
two_kept = record { registers = true; code = true; ram = false }

kept_is : kept_of parts publics ≡ two_kept
unfolding kept_of is_named relocated depends
kept_is = refl

pub worked_unlinked : WorkedUnlinked
unfolding fill number distance first_part second_part
worked_unlinked d p q s bases at_code at_absolute =
    let k : kept_in d ≡ two_kept = ap (λ (l : List Section). kept_of l d.publics.items) p ∙ (ap (λ (l : List Public). kept_of parts l) q ∙ kept_is) in
    let third : piece_number d 3 ≡ 2 = rw (k, s) refl in
    record {
      code = rw k refl;
      absolute = third;
      stands = ap bases.piece third ∙ at_absolute;
      low = rw (k, at_code) refl;
      high = rw (k, at_code) refl;
      distance = refl;
    }

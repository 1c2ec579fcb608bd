-- What stands in a part.
use Rattle.std.proofs.Common.{◌≡◌, ℕ, ◌+◌, ◌/◌, ◌%◌, ◌<◌, ◌≤◌, Bool, true, false, ◌&&◌, ◌||◌, eqb, ltb, leb, if◌then◌else◌, Some, List, [], ◌∷◌, map, refl, arith}
use Rattle.std.specs.List.{list_all}
use Rattle.std.proofs.lemmas.Bool.{and_parts}
use Rattle.std.proofs.lemmas.Bool.Decides.{nat_tests}
use Rattle.kc_obj_module.specs.Fixups.{may_begin}
use Rattle.kc_obj_module.specs.Numbers.{first_part, number, reach}
use Rattle.kc_asm_encode.specs.declared.relocatable_byte.RelocatableByte.{RelocatableByte}
use Rattle.kc_asm_encode.specs.declared.relocatable_byte.RelocatableByte.TheVariants.{Plain, First, Second}
use Rattle.kc_asm_encode.specs.Filling.{address}
use Rattle.kc_asm_encode.specs.Relocating.{HasRoom, no_bases}
use Rattle.kc_asm_section.specs.declared.part.PlacedByte.{PlacedByte}
use Rattle.kc_asm_section.specs.Section.{Section, rise, placed_byte_offsets, is_section}
use Rattle.kc_asm_section.specs.Puts.{has_start}

-- ---- the start leaves room for the number

jump_room : (start n : ℕ) → (eqb start 0x20 || eqb start 0x28) ≡ true → start + n % 2048 / 256 < 256
jump_room start n h = grind (arith, nat_tests)

byte_room : (start n : ℕ) → eqb start 0 ≡ true → start + n % 256 < 256
byte_room start n h = grind (arith, nat_tests)

room_by : (is_jump : Bool) (start n : ℕ) → (if is_jump then eqb start 0x20 || eqb start 0x28 else eqb start 0) ≡ true → start + (if is_jump then n % 2048 / 256 else n % 256) < 256
room_by true start n h = jump_room start n h
room_by false start n h = byte_room start n h

part_room : (kind start n : ℕ) → may_begin kind (Some start) ≡ true → start + first_part kind n < 256
unfolding first_part
part_room kind start n h = room_by (eqb kind 3) start n h

pub room_left : (place : ℕ) (relocatable_byte : RelocatableByte) → has_start relocatable_byte ≡ true → HasRoom place relocatable_byte
room_left place (Plain b) h = tt
room_left place (First kind start v) h = part_room kind start (number kind (place + reach kind) (address no_bases v)) h
room_left place (Second kind v) h = tt

-- ---- the placed bytes stand within the length

next_below : (o to : ℕ) (b : Bool) → o + 1 ≤ to → b ≡ true → (ltb o to && b) ≡ true
next_below o to true h k = grind (arith, nat_tests)
next_below o to false h k = absurd (cc)

pub rise_end : (from : ℕ) (os : List ℕ) (to : ℕ) → rise from os to ≡ true → from ≤ to
unfolding rise
rise_end from [] to h = grind (arith, nat_tests)
rise_end from (o ∷ os) to h =
    let parts : (leb from o ≡ true) × (rise (o + 1) os to ≡ true) = and_parts (leb from o) (rise (o + 1) os to) h in
    let rest : o + 1 ≤ to = rise_end (o + 1) os to parts.1 in
    let first : leb from o ≡ true = parts.0 in
    grind (arith, nat_tests)

pub rise_below : (from : ℕ) (placed_bytes : List PlacedByte) (to : ℕ) → rise from (placed_byte_offsets placed_bytes) to ≡ true → list_all (λ c. ltb c.offset to) placed_bytes ≡ true
unfolding rise
rise_below from [] to h = refl
rise_below from (c ∷ cs) to h =
    let parts : (leb from c.offset ≡ true) × (rise (c.offset + 1) (placed_byte_offsets cs) to ≡ true) = and_parts (leb from c.offset) (rise (c.offset + 1) (placed_byte_offsets cs) to) h in
    next_below c.offset to (list_all (λ c. ltb c.offset to) cs) (rise_end (c.offset + 1) (placed_byte_offsets cs) to parts.1) (rise_below (c.offset + 1) cs to parts.1)

pub section_parts : (t : Section) → is_section t ≡ true → ((rise 0 (placed_byte_offsets t.placed_bytes) t.length ≡ true) × (rise 0 (map (λ m. m.offset) t.marks) t.length ≡ true))
section_parts t h =
    let parts = and_parts (leb t.length 65536 && rise 0 (placed_byte_offsets t.placed_bytes) t.length) (rise 0 (map (λ m. m.offset) t.marks) t.length) h in
    ((and_parts (leb t.length 65536) (rise 0 (placed_byte_offsets t.placed_bytes) t.length) parts.0).1, parts.1)

pub placed_bytes_below : (t : Section) → is_section t ≡ true → list_all (λ c. ltb c.offset t.length) t.placed_bytes ≡ true
placed_bytes_below t h = rise_below 0 t.placed_bytes t.length (section_parts t h).0

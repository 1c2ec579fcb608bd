-- Offsets that rise, and one more at the end.
use Rattle.std.proofs.Common.{◌≡◌, ℕ, ◌+◌, ◌<◌, ◌≤◌, Bool, true, false, ◌&&◌, leb, List, [], ◌∷◌, ◌++◌, map, refl, ap, arith}
use Rattle.std.proofs.lemmas.Bool.{and_parts}
use Rattle.std.proofs.lemmas.Bool.Decides.{nat_tests}
use Rattle.kc_asm_section.specs.declared.part.PlacedByte.{PlacedByte}
use Rattle.kc_asm_section.specs.declared.part.Mark.{Mark}
use Rattle.kc_asm_section.specs.Section.{rise, placed_byte_offsets, mark_offsets}

le_then : (a b c : ℕ) → leb a b ≡ true → b ≤ c → leb a c ≡ true
le_then a b c h le = grind (arith, nat_tests)

le_self : (a b : ℕ) → leb a b ≡ true → (leb a b && leb (b + 1) (b + 1)) ≡ true
le_self a b h = grind (arith, nat_tests)

both : (a b c : Bool) → (a && b) ≡ true → (b ≡ true → c ≡ true) → (a && c) ≡ true
both true b c h k = k h
both false b c h k = h

pub rise_more : (from : ℕ) (os : List ℕ) (to more : ℕ) → to ≤ more → rise from os to ≡ true → rise from os more ≡ true
unfolding rise
rise_more from [] to more le h = le_then from to more h le
rise_more from (o ∷ os) to more le h = both (leb from o) (rise (o + 1) os to) (rise (o + 1) os more) h (rise_more (o + 1) os to more le)

pub rise_push : (from : ℕ) (os : List ℕ) (to : ℕ) → rise from os to ≡ true → rise from (os ++ to ∷ []) (to + 1) ≡ true
unfolding rise
rise_push from [] to h = le_self from to h
rise_push from (o ∷ os) to h = both (leb from o) (rise (o + 1) os to) (rise (o + 1) (os ++ to ∷ []) (to + 1)) h (rise_push (o + 1) os to)

three : (a b c : Bool) → a ≡ true → b ≡ true → c ≡ true → (a && b && c) ≡ true
three a b c p q r = rw (p, q, r) refl

le_room : (a b : ℕ) → a + b ≤ 65536 → leb (a + b) 65536 ≡ true
le_room a b h = grind (arith, nat_tests)

map_push : {A B : Type 0} (f : A → B) (xs : List A) (x : A) → map f (xs ++ x ∷ []) ≡ map f xs ++ f x ∷ []
map_push f [] x = refl
map_push f (y ∷ ys) x = ap (λ zs. f y ∷ zs) (map_push f ys x)

module _ (size : ℕ) (placed_bytes : List PlacedByte) (marks : List Mark) (is : (leb size 65536 && rise 0 (placed_byte_offsets placed_bytes) size && rise 0 (mark_offsets marks) size) ≡ true) where
  abbrev prefix : Bool
  prefix = leb size 65536 && rise 0 (placed_byte_offsets placed_bytes) size

  abbrev parts : (prefix ≡ true) × (rise 0 (mark_offsets marks) size ≡ true)
  parts = and_parts prefix (rise 0 (mark_offsets marks) size) is

  abbrev rising : (rise 0 (placed_byte_offsets placed_bytes) size ≡ true) × (rise 0 (mark_offsets marks) size ≡ true)
  rising = ((and_parts (leb size 65536) (rise 0 (placed_byte_offsets placed_bytes) size) parts.0).1, parts.1)

  placed_bytes_push : (c : PlacedByte) → c.offset ≡ size → rise 0 (placed_byte_offsets (placed_bytes ++ c ∷ [])) (size + 1) ≡ true
  placed_bytes_push c e = rw (map_push (λ (x : PlacedByte). x.offset) placed_bytes c, e) (rise_push 0 (placed_byte_offsets placed_bytes) size rising.0)

  marks_push : (m : Mark) → m.offset ≡ size → rise 0 (mark_offsets (marks ++ m ∷ [])) (size + 1) ≡ true
  marks_push m e = rw (map_push (λ (x : Mark). x.offset) marks m, e) (rise_push 0 (mark_offsets marks) size rising.1)

  -- room is left
  pub section_skipped : (count : ℕ) → size + count ≤ 65536 → (leb (size + count) 65536 && rise 0 (placed_byte_offsets placed_bytes) (size + count) && rise 0 (mark_offsets marks) (size + count)) ≡ true
  section_skipped count le = three _ _ _ (le_room size count le) (rise_more 0 (placed_byte_offsets placed_bytes) size (size + count) (omega arith) rising.0) (rise_more 0 (mark_offsets marks) size (size + count) (omega arith) rising.1)

  -- one more relocatable byte
  pub section_put : (c : PlacedByte) → size < 65536 → c.offset ≡ size → (leb (size + 1) 65536 && rise 0 (placed_byte_offsets (placed_bytes ++ c ∷ [])) (size + 1) && rise 0 (mark_offsets marks) (size + 1)) ≡ true
  section_put c lt e = three _ _ _ (le_room size 1 (omega arith)) (placed_bytes_push c e) (rise_more 0 (mark_offsets marks) size (size + 1) (omega arith) rising.1)

  -- one more relocatable byte, of a new statement
  pub section_begun : (c : PlacedByte) (m : Mark) → size < 65536 → c.offset ≡ size → m.offset ≡ size → (leb (size + 1) 65536 && rise 0 (placed_byte_offsets (placed_bytes ++ c ∷ [])) (size + 1) && rise 0 (mark_offsets (marks ++ m ∷ [])) (size + 1)) ≡ true
  section_begun c m lt e d = three _ _ _ (le_room size 1 (omega arith)) (placed_bytes_push c e) (marks_push m d)

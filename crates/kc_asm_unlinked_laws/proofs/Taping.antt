-- What stays of a piece while a statement is written behind it.
use Rattle.std.proofs.Common.{◌≡◌, ℕ, zero, suc, ◌+◌, ◌-◌, ◌%◌, ◌≤◌, true, List, [], ◌∷◌, replicate, length, refl, ap, ◌∙◌, subst, arith}
use Rattle.kc_obj_module.specs.declared.parts.SegKind.{SegKind}
use Rattle.kc_obj_module.specs.declared.parts.SegKind.TheVariants.{Reg, Code, Ram, Stack}
use Rattle.kc_asm_encode.specs.declared.relocatable_byte.RelocatableByte.{RelocatableByte}
use Rattle.kc_asm_encode.specs.declared.relocatable_byte.RelocatableByte.TheVariants.{Plain}
use Rattle.kc_asm_section.specs.Section.{Section, is_section, placed_byte, mark, put, skipped, laid, begun, written}
use Rattle.kc_asm_section.proofs.Rising.{section_skipped, section_put, section_begun}
use Rattle.kc_asm_emit.specs.Content.{Content, Nothing, RelocatableBytes, Reserved, Upto, Even}
use Rattle.kc_asm_unlinked_laws.specs.Collecting.{led, put_content}
use Rattle.kc_asm_unlinked_laws.specs.Writable.{HasRoom}

-- how many bytes a content has at a place
abbrev pub size_at : ℕ → Content → ℕ
size_at place Nothing = 0
size_at place (RelocatableBytes os) = length os
size_at place (Reserved n) = n
size_at place (Upto to) = to - place
size_at place Even = place % 2

-- a piece that is longer than another one, of the same kind at the same address
pub record Extends (t : Section) (count : ℕ) (u : Section) : Type 0 where
  pub kind : u.kind ≡ t.kind
  pub at : u.at ≡ t.at
  pub size : u.length ≡ t.length + count

pub laid_extends : (os : List RelocatableByte) (t : Section) → Extends t (length os) (laid os t)
unfolding laid
laid_extends [] t = record { kind = refl; at = refl; size = omega arith }
laid_extends (o ∷ os) t =
    let rest = laid_extends os (put o t) in
    let more : (t.length + 1) + length os ≡ t.length + suc (length os) = omega arith in
    record { kind = rest.kind; at = rest.at; size = rest.size ∙ more }

pub written_extends : (line : ℕ) (os : List RelocatableByte) (t : Section) → Extends t (length os) (written line os t)
written_extends line [] t = record { kind = refl; at = refl; size = omega arith }
written_extends line (o ∷ os) t =
    let rest = laid_extends os (begun line o t) in
    let more : (t.length + 1) + length os ≡ t.length + suc (length os) = omega arith in
    record { kind = rest.kind; at = rest.at; size = rest.size ∙ more }

replicated : {A : Type 0} (n : ℕ) (x : A) → length (replicate n x) ≡ n
replicated zero x = refl
replicated (suc n) x = ap suc (replicated n x)

filled_extends : (n : ℕ) (t : Section) → Extends t n (laid (replicate n (Plain 255)) t)
filled_extends n t = subst (λ (k : ℕ). Extends t k (laid (replicate n (Plain 255)) t)) (replicated n (Plain 255)) (laid_extends (replicate n (Plain 255)) t)

pub led_extends : (kind : SegKind) (n : ℕ) (t : Section) → Extends t n (led kind n t)
led_extends Code n t = filled_extends n t
led_extends Reg n t = record { kind = refl; at = refl; size = refl }
led_extends Ram n t = record { kind = refl; at = refl; size = refl }
led_extends Stack n t = record { kind = refl; at = refl; size = refl }

pub put_extends : (line : ℕ) (kind : SegKind) (place : ℕ) (c : Content) (t : Section) → Extends t (size_at place c) (put_content line kind place c t)
put_extends line kind place Nothing t = record { kind = refl; at = refl; size = omega arith }
put_extends line kind place (RelocatableBytes os) t = written_extends line os t
put_extends line kind place (Reserved n) t = record { kind = refl; at = refl; size = refl }
put_extends line kind place (Upto to) t = record { kind = refl; at = refl; size = refl }
put_extends line kind place Even t = led_extends kind (place % 2) t

pub both_extend : (t u v : Section) (m n : ℕ) → Extends t m u → Extends u n v → Extends t (m + n) v
both_extend t u v m n a b = record { kind = b.kind ∙ a.kind; at = b.at ∙ a.at; size = b.size ∙ (let s : u.length + n ≡ t.length + (m + n) = omega (arith, a.size) in s) }

-- ---- placed bytes and marks stand within the length

pub laid_section : (os : List RelocatableByte) (t : Section) → t.length + length os ≤ 65536 → is_section t ≡ true → is_section (laid os t) ≡ true
unfolding laid
laid_section [] t room is = is
laid_section (o ∷ os) t room is =
    laid_section os (put o t) (omega (arith, room)) (section_put t.length t.placed_bytes t.marks is (placed_byte t.length o) (omega (arith, room)) refl)

pub written_section : (line : ℕ) (os : List RelocatableByte) (t : Section) → t.length + length os ≤ 65536 → is_section t ≡ true → is_section (written line os t) ≡ true
written_section line [] t room is = is
written_section line (o ∷ os) t room is =
    laid_section os (begun line o t) (omega (arith, room)) (section_begun t.length t.placed_bytes t.marks is (placed_byte t.length o) (mark t.length line) (omega (arith, room)) refl refl)

-- ---- whatever stays while bytes of filling, gaps, and relocatable bytes are written

module _ (Q : Section → Type 0) (skip : (n : ℕ) (t : Section) → Q t → Q (skipped n t)) (fill : (t : Section) → t.kind ≡ Code → is_section t ≡ true → Q t → Q (put (Plain 255) t)) where
  abbrev pub Stays : Section → Type 0
  Stays t = (is_section t ≡ true) × Q t

  skip_stays : (n : ℕ) (t : Section) → t.length + n ≤ 65536 → Stays t → Stays (skipped n t)
  skip_stays n t room h = (section_skipped t.length t.placed_bytes t.marks h.0 n room, skip n t h.1)

  fill_stays : (n : ℕ) (t : Section) → t.kind ≡ Code → t.length + n ≤ 65536 → Stays t → Stays (laid (replicate n (Plain 255)) t)
  unfolding laid
  fill_stays zero t code room h = h
  fill_stays (suc n) t code room h =
      fill_stays n (put (Plain 255) t) code (omega (arith, room)) (section_put t.length t.placed_bytes t.marks h.0 (placed_byte t.length (Plain 255)) (omega (arith, room)) refl, fill t code h.0 h.1)

  pub led_stays : (kind : SegKind) (n : ℕ) (t : Section) → t.kind ≡ kind → t.length + n ≤ 65536 → Stays t → Stays (led kind n t)
  led_stays Code n t is room h = fill_stays n t is room h
  led_stays Reg n t is room h = skip_stays n t room h
  led_stays Ram n t is room h = skip_stays n t room h
  led_stays Stack n t is room h = skip_stays n t room h

  pub put_stays : (line : ℕ) (kind : SegKind) (place : ℕ) (c : Content) (t : Section) → t.kind ≡ kind → HasRoom t.length c place
      → ((os : List RelocatableByte) → c ≡ RelocatableBytes os → Q (written line os t)) → Stays t → Stays (put_content line kind place c t)
  put_stays line kind place Nothing t is room write h = h
  put_stays line kind place (RelocatableBytes os) t is room write h = (written_section line os t room h.0, write os refl)
  put_stays line kind place (Reserved n) t is room write h = skip_stays n t room h
  put_stays line kind place (Upto to) t is room write h = skip_stays (to - place) t room.1 h
  put_stays line kind place Even t is room write h = led_stays kind (place % 2) t is room h

-- At most one image is linked: no two byte strings decode to the same instruction.
use Rattle.std.proofs.Common.{◌≡◌, ◌⊎◌, ℕ, zero, suc, ◌+◌, ◌-◌, ◌<◌, ◌≤◌, Bool, true, false, List, [], ◌∷◌, length, drop, take, refl, sym, ap, ◌∙◌, subst, length-append, arith, inl, inr}
use Rattle.std.specs.Prelude.{Option, Some, None, ◌==◌, slice_get}
use Rattle.std.proofs.lemmas.Bool.Decides.{nat_tests}
use Rattle.kc_isa.specs.declared.insn.Insn.{Insn}
use Rattle.kc_isa.specs.Formed.{length_of}
use Rattle.kc_code.specs.declared.reader.Decoded.TheVariants.{Insn as Whole}
use Rattle.kc_base.specs.Bytes.{IsBytes}
use Rattle.kc_code.specs.Reading.{decode_of}
use Rattle.kc_code.specs.Law.{OneSpelling}
use Rattle.kc_code.proofs.Beginnings.{in_front}
use Rattle.kc_source_statement.specs.Trees.{ActionTree, Define, Operation, Bare, Module, Cseg, Dseg, Rseg, Sseg, Public, Extrn, Equ, Set, Reserve, Org, Even, End}
use Rattle.kc_asm_symbols.specs.Located.{Located}
use Rattle.kc_asm_symbols.specs.Meanings.{meaning}
use Rattle.kc_obj_module.specs.Numbers.{Bases}
use Rattle.kc_branch.specs.declared.piece.Form.{Form}
use Rattle.kc_asm_encode.specs.declared.word.RelocatableInsn.{RelocatableInsn}
use Rattle.kc_asm_encode.specs.Instructions.{instructions}
use Rattle.kc_asm_encode.specs.Words.{insn_of}
use Rattle.kc_asm_encode.specs.RelocatableBytes.{insn_relocatables, all_relocatable_bytes}
use Rattle.kc_asm_encode.specs.Said.{said}
use Rattle.kc_link_place.specs.Placing.{bases_of}
use Rattle.kc_asm_unlinked_laws.specs.Parts.{part_bases}
use Rattle.kc_asm_emit.specs.Arguments.{Look, fixed_of, arguments}
use Rattle.kc_asm_emit.specs.Content.{content, reserved, upto}
use Rattle.kc_asm_check.specs.Checking.{standing}
use Rattle.kc_asm.specs.Saying.{data_of, code_of}
use Rattle.kc_asm.specs.Linked.{address_of, Decodes, Reads, size_of, Covers, OneImage}
use Rattle.kc_asm.proofs.Lengths.{insn_length, data_length}

-- ---- lists

drop_bytes : (n : ℕ) (bytes : List ℕ) → IsBytes bytes → IsBytes (drop n bytes)
drop_bytes zero bytes h = h
drop_bytes (suc n) [] h = h
drop_bytes (suc n) (b ∷ bytes) h = drop_bytes n bytes h.1

get_drop : (n k : ℕ) (xs : List ℕ) → slice_get (drop n xs) k ≡ slice_get xs (n + k)
get_drop zero k xs = let z : zero + k ≡ k = omega arith in rw z refl
get_drop (suc n) k [] = refl
get_drop (suc n) k (x ∷ xs) = let z : suc n + k ≡ suc (n + k) = omega arith in rw z (get_drop n k xs)

get_take : (n k : ℕ) (xs : List ℕ) → k < n → slice_get (take n xs) k ≡ slice_get xs k
get_take zero k xs h = absurd (omega (arith, h))
get_take (suc n) k [] h = refl
get_take (suc n) zero (x ∷ xs) h = refl
get_take (suc n) (suc k) (x ∷ xs) h = get_take n k xs (omega (arith, h))

-- ---- one statement

module _ (law : OneSpelling) (image other : List ℕ) (bi : IsBytes image) (bo : IsBytes other) where
  same_prefix : (i : Insn) (n at k : ℕ) → decode_of (drop at image) ≡ Whole i n → decode_of (drop at other) ≡ Whole i n → k < n → slice_get image (at + k) ≡ slice_get other (at + k)
  same_prefix i n at k d e h =
      let t : take n (drop at image) ≡ take n (drop at other) = law i (drop at image) (drop at other) n n (drop_bytes at image bi) (drop_bytes at other bo) d e in
      sym (get_drop at k image) ∙ (sym (get_take n k (drop at image) h) ∙ (ap (λ (l : List ℕ). slice_get l k) t ∙ (get_take n k (drop at other) h ∙ get_drop at k other)))

  same_code : (b : Bases) (ws : List RelocatableInsn) (at place k : ℕ) → Decodes image at (said b place ws) → Decodes other at (said b place ws) → k < length (all_relocatable_bytes ws)
      → slice_get image (at + k) ≡ slice_get other (at + k)
  unfolding said
  same_code b [] at place k d e h = absurd (omega (arith, h))
  same_code b (w ∷ ws) at place k d e h =
      let next : ℕ = place + length (insn_relocatables w) in
      let i : Insn = insn_of b next w in
      let prefix = in_front (drop at image) i (length_of i) (drop_bytes at image bi) d.0 in
      let n : length (insn_relocatables w) ≡ length_of i = insn_length b next w prefix.has.three in
      let whole : length (all_relocatable_bytes (w ∷ ws)) ≡ length (insn_relocatables w) + length (all_relocatable_bytes ws) = length-append (insn_relocatables w) (all_relocatable_bytes ws) in
      elim (in_or_behind (length_of i) k) [
        | inl l ↦ same_prefix i (length_of i) at k d.0 e.0 l
        | inr r ↦
            let q : (at + length_of i) + r.0 ≡ at + k = omega (arith, r.1) in
            subst (λ (x : ℕ). slice_get image x ≡ slice_get other x) q (same_code b ws (at + length_of i) next r.0 d.1 e.1 (omega (arith, h, whole, n, r.1)))
      ]
    where
      in_or_behind : (n k : ℕ) → (k < n) ⊎ ((j : ℕ) × (n + j ≡ k))
      in_or_behind zero k = inr (k, omega arith)
      in_or_behind (suc n) zero = inl (omega arith)
      in_or_behind (suc n) (suc k) = elim (in_or_behind n k) [ inl h ↦ inl (omega (arith, h)) | inr h ↦ inr (h.0, omega (arith, h.1)) ]

  same_data : (bs : List ℕ) (at k : ℕ) → Reads image at bs → Reads other at bs → k < length bs → slice_get image (at + k) ≡ slice_get other (at + k)
  same_data [] at k d e h = absurd (omega (arith, h))
  same_data (b ∷ bs) at zero d e h = let z : at + zero ≡ at = omega arith in rw z (d.0 ∙ sym e.0)
  same_data (b ∷ bs) at (suc k) d e h = let z : at + suc k ≡ (at + 1) + k = omega arith in rw z (same_data bs (at + 1) k d.1 e.1 (omega (arith, h)))

  same_statement : (b : Bases) (place at : ℕ) (look : Look) (form : Form) (l : Located) (action : ActionTree) (k : ℕ)
      → Decodes image at (code_of b place look form l action) → Decodes other at (code_of b place look form l action)
      → Reads image at (data_of b look action) → Reads other at (data_of b look action)
      → k < size_of (content look form l.here action) → slice_get image (at + k) ≡ slice_get other (at + k)
  same_statement b place at look form l (Operation word args) k d e f g h = same_code b (instructions word (arguments look args) form l.here) at place k d e h
  same_statement b place at look form l (Define size items) k d e f g h =
      same_data (data_of b look (Define size items)) at k f g (let n = data_length b look size items in omega (arith, h, n))
  same_statement b place at look form l (Reserve size count) k d e f g h = absurd (none_reserved size (fixed_of look count) h)
    where
      none_reserved : (size : ℕ) (o : Option ℕ) → k < size_of (reserved size o) → ⊥
      none_reserved size None h = omega (arith, h)
      none_reserved size (Some n) h = omega (arith, h)
  same_statement b place at look form l (Org x) k d e f g h = absurd (none_led (fixed_of look x) h)
    where
      none_led : (o : Option ℕ) → k < size_of (upto o) → ⊥
      none_led None h = omega (arith, h)
      none_led (Some n) h = omega (arith, h)
  same_statement b place at look form l Even k d e f g h = absurd (omega (arith, h))
  same_statement b place at look form l Bare k d e f g h = absurd (omega (arith, h))
  same_statement b place at look form l (Module name stack) k d e f g h = absurd (omega (arith, h))
  same_statement b place at look form l (Cseg x) k d e f g h = absurd (omega (arith, h))
  same_statement b place at look form l (Dseg x) k d e f g h = absurd (omega (arith, h))
  same_statement b place at look form l (Rseg x) k d e f g h = absurd (omega (arith, h))
  same_statement b place at look form l (Sseg x) k d e f g h = absurd (omega (arith, h))
  same_statement b place at look form l (Public names) k d e f g h = absurd (omega (arith, h))
  same_statement b place at look form l (Extrn names) k d e f g h = absurd (omega (arith, h))
  same_statement b place at look form l (Equ name x) k d e f g h = absurd (omega (arith, h))
  same_statement b place at look form l (Set name x) k d e f g h = absurd (omega (arith, h))
  same_statement b place at look form l End k d e f g h = absurd (omega (arith, h))

-- ---- the whole

pub same_or : (m n : Option ℕ) → (m ≡ n) ⊎ ((m ≡ n) → ⊥)
same_or None None = inl refl
same_or None (Some n) = inr (λ e. cc e)
same_or (Some m) None = inr (λ e. cc e)
same_or (Some m) (Some n) = by (m == n) refl
  where
    by : (t : Bool) → (m == n) ≡ t → (Some m ≡ Some n) ⊎ ((Some m ≡ Some n) → ⊥)
    by true e = let f : m ≡ n = grind (arith, nat_tests, e) in inl (ap (λ (k : ℕ). Some k) f)
    by false e = inr (λ g. let f : m ≡ n = cc g in grind (arith, nat_tests, e, f))

from_gets : (xs ys : List ℕ) → length xs ≡ length ys → ((k : ℕ) → k < length xs → slice_get xs k ≡ slice_get ys k) → xs ≡ ys
from_gets [] [] l h = refl
from_gets [] (y ∷ ys) l h = absurd (omega (arith, l))
from_gets (x ∷ xs) [] l h = absurd (omega (arith, l))
from_gets (x ∷ xs) (y ∷ ys) l h =
    let e : x ≡ y = cc (h 0 (omega arith)) in
    let f : xs ≡ ys = from_gets xs ys (omega (arith, l)) (λ k g. h (suc k) (omega (arith, g))) in
    cc (e, f)

pub one_image : OneSpelling → OneImage
one_image law sources unlinked_modules modules places image other bi bo p q = from_gets image other (p.long ∙ sym q.long) gets
  where
    covered : (place : ℕ) → Covers sources unlinked_modules modules places place → slice_get image place ≡ slice_get other place
    covered place c =
        let b : Bases = bases_of modules places c.index c.m in
        let a : ℕ = address_of b c.d c.l.segment c.s in
        let d = p.stands c.index c.stmts c.d c.m c.before c.l c.s c.source c.unlinked c.its_module c.statement in
        let e = q.stands c.index c.stmts c.d c.m c.before c.l c.s c.source c.unlinked c.its_module c.statement in
        let w : 0x2000 ≤ a = d.within (let l = c.below in omega (arith, l)) in
        let at : a + c.byte ≡ 0x2000 + place = c.at in
        let g : (a - 0x2000) + c.byte ≡ place = omega (arith, w, at) in
        subst (λ (x : ℕ). slice_get image x ≡ slice_get other x) g
        (same_statement law image other bi bo (part_bases b c.d) a (a - 0x2000) (meaning (standing c.stmts) c.before c.l) c.s.form c.l c.l.action c.byte d.code e.code d.bytes e.bytes c.below)

    gets : (k : ℕ) → k < length image → slice_get image k ≡ slice_get other k
    gets k h = elim (same_or (slice_get image k) (slice_get other k)) [
      | inl e ↦ e
      | inr n ↦
          let long = p.long in
          let l : k < 0xE000 = omega (arith, h, long) in
          p.blank k l (λ c. n (covered k c)) ∙ sym (q.blank k l (λ c. n (covered k c)))
    ]

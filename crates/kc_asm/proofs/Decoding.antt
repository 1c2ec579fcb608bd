-- An image that reads as the filled relocatable bytes of a statement has what the statement says.
use Rattle.std.proofs.Common.{◌≡◌, ℕ, zero, suc, ◌+◌, Bool, true, false, List, [], ◌∷◌, ◌++◌, length, drop, refl, sym, ap, ◌∙◌, subst, append_assoc, zero-add, arith}
use Rattle.std.specs.Prelude.{Some, slice_get, ◌==◌, if◌then◌else◌}
use Rattle.std.specs.Int.{w32, to_le_bytes}
use Rattle.std.specs.List.{flat_map}
use Rattle.std.proofs.lemmas.List.{drop-drop}
use Rattle.std.proofs.Math.Seq.{drop-append_seam}
use Rattle.kc_isa.specs.declared.insn.Insn.{Insn}
use Rattle.kc_isa.specs.Formed.{length_of}
use Rattle.kc_code.specs.declared.reader.Decoded.TheVariants.{Insn as Whole}
use Rattle.kc_code.specs.Reading.{decode_of}
use Rattle.kc_code.specs.Law.{SpelledIsDecoded}
use Rattle.kc_code.specs.Spelling.{spelling}
use Rattle.kc_code.proofs.Beginnings.{spelled_count}
use Rattle.kc_expr.specs.declared.values.Value.{Value}
use Rattle.kc_expr.specs.Tree.{Tree, Number, Chars, Name, Here, One, Two}
use Rattle.kc_source_statement.specs.Trees.{ItemTree}
use Rattle.kc_source_statement.specs.Trees as trees
use Rattle.kc_obj_module.specs.Numbers.{Bases, number, first_part, second_part}
use Rattle.kc_asm_encode.specs.declared.relocatable_byte.RelocatableByte.TheVariants.{Plain}
use Rattle.kc_asm_encode.specs.Filling.{address, fill, filled}
use Rattle.kc_asm_encode.specs.Values.{or_zero}
use Rattle.kc_asm_encode.specs.RelocatableBytes.{byte_of, word_of}
use Rattle.kc_asm_encode.specs.Said.{AreSound}
use Rattle.kc_asm_encode.specs.Suits.{AllFit}
use Rattle.kc_asm_encode.proofs.Fills.{filled-append, filled-plain, filled-bytes, fit-beginning, fit-behind}
use Rattle.kc_asm_emit.specs.Arguments.{Look, value_of}
use Rattle.kc_asm_emit.specs.Content.{long_relocatables, item_relocatables, data_relocatables}
use Rattle.kc_asm.specs.Saying.{number_of, word_bytes, long_bytes, item_bytes}
use Rattle.kc_asm.specs.Linked.{Decodes, Reads}

-- ---- instructions

pub decodes : SpelledIsDecoded → (image : List ℕ) (is : List Insn) (at : ℕ) (rest : List ℕ) → AreSound is → drop at image ≡ flat_map spelling is ++ rest → Decodes image at is
decodes law image [] at rest sound e = tt
decodes law image (i ∷ is) at rest sound e =
    let tail : List ℕ = flat_map spelling is ++ rest in
    let n : length (spelling i) ≡ length_of i = spelled_count i sound.0.has.three in
    let f : drop at image ≡ spelling i ++ tail = e ∙ append_assoc (spelling i) (flat_map spelling is) rest in
    let d : decode_of (drop at image) ≡ Whole i (length (spelling i)) = ap decode_of f ∙ law i tail sound.0.has sound.0.formed sound.0.in_range in
    let g : drop (at + length (spelling i)) image ≡ tail = sym (drop-drop (length (spelling i)) at image) ∙ (ap (drop (length (spelling i))) f ∙ drop-append_seam (spelling i) tail) in
    (d ∙ ap (λ (k : ℕ). Whole i k) n, subst (λ (k : ℕ). Decodes image (at + k) is) n (decodes law image is (at + length (spelling i)) rest sound.1 g))

-- ---- bytes

get_prefix : (image : List ℕ) (at b : ℕ) (rest : List ℕ) → drop at image ≡ b ∷ rest → (slice_get image at ≡ Some b) × (drop (at + 1) image ≡ rest)
get_prefix [] zero b rest e = absurd (cc e)
get_prefix [] (suc at) b rest e = absurd (cc e)
get_prefix (x ∷ xs) zero b rest e = (let f : x ≡ b = cc e in ap (λ (n : ℕ). Some n) f, ap (drop 1) e)
get_prefix (x ∷ xs) (suc at) b rest e =
    let r = get_prefix xs at b rest e in
    let n : suc at + 1 ≡ suc (at + 1) = omega arith in
    (r.0, ap (λ (k : ℕ). drop k (x ∷ xs)) n ∙ r.1)

pub reads : (image bs : List ℕ) (at : ℕ) (rest : List ℕ) → drop at image ≡ bs ++ rest → Reads image at bs
reads image [] at rest e = tt
reads image (b ∷ bs) at rest e = let f = get_prefix image at b (bs ++ rest) e in (f.0, reads image bs (at + 1) rest f.1)

-- ---- data

word_filled : (b : Bases) (v : Value) (a : ℕ) → filled b a (word_of 0 v) ≡ word_bytes (address b v)
unfolding filled fill first_part second_part number
word_filled b v a = rw zero-add refl

zeros_filled : (b : Bases) (a : ℕ) → filled b a (Plain 0 ∷ Plain 0 ∷ []) ≡ 0 ∷ 0 ∷ []
unfolding filled fill
zeros_filled b a = refl

four_filled : (b : Bases) (v : Value) (a : ℕ) → filled b a (word_of 0 v ++ (Plain 0 ∷ Plain 0 ∷ [])) ≡ word_bytes (address b v) ++ (0 ∷ 0 ∷ [])
four_filled b v a = filled-append b (word_of 0 v) (Plain 0 ∷ Plain 0 ∷ []) a ∙ (λ i. word_filled b v a i ++ zeros_filled b (a + length (word_of 0 v)) i)

module _ (b : Bases) (look : Look) where
  long_filled : (x : Tree) (a : ℕ) → filled b a (long_relocatables look x) ≡ long_bytes b look x
  long_filled (Number n) a = filled-plain b (to_le_bytes w32 n) a
  long_filled (Chars cs) a = four_filled b (or_zero (value_of look (Chars cs))) a
  long_filled (Name n) a = four_filled b (or_zero (value_of look (Name n))) a
  long_filled Here a = four_filled b (or_zero (value_of look Here)) a
  long_filled (One op x) a = four_filled b (or_zero (value_of look (One op x))) a
  long_filled (Two op x y) a = four_filled b (or_zero (value_of look (Two op x y))) a

  item_filled : (size : ℕ) (i : ItemTree) (a : ℕ) → AllFit b a (item_relocatables look size i) → filled b a (item_relocatables look size i) ≡ item_bytes b look size i
  item_filled size (trees.Chars cs) a h = filled-plain b cs a
  item_filled size (trees.Value x) a h = by (size == 1) (size == 2) h
    where
      by : (s t : Bool) → AllFit b a (if s then byte_of (or_zero (value_of look x)) ∷ [] else (if t then word_of 0 (or_zero (value_of look x)) else long_relocatables look x))
          → filled b a (if s then byte_of (or_zero (value_of look x)) ∷ [] else (if t then word_of 0 (or_zero (value_of look x)) else long_relocatables look x))
          ≡ (if s then number_of b look x ∷ [] else (if t then word_bytes (number_of b look x) else long_bytes b look x))
      by true t h = filled-bytes b (or_zero (value_of look x) ∷ []) a h
      by false true h = word_filled b (or_zero (value_of look x)) a
      by false false h = long_filled x a

  nothing_filled : (a : ℕ) → filled b a [] ≡ []
  unfolding filled
  nothing_filled a = refl

  pub data_filled : (size : ℕ) (items : List ItemTree) (a : ℕ) → AllFit b a (data_relocatables look size items) → filled b a (data_relocatables look size items) ≡ flat_map (item_bytes b look size) items
  data_filled size [] a h = nothing_filled a
  data_filled size (i ∷ items) a h =
      filled-append b (item_relocatables look size i) (data_relocatables look size items) a
      ∙ (λ k. item_filled size i a (fit-beginning b a (item_relocatables look size i) (data_relocatables look size items) h) k
      ++ data_filled size items (a + length (item_relocatables look size i)) (fit-behind b a (item_relocatables look size i) (data_relocatables look size items) h) k)

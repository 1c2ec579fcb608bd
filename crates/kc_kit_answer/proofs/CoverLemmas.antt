-- Instructions by rising line: what a stable sort by lines gives.
use Rattle.std.proofs.Common.{◌≡◌, ℕ, zero, suc, ◌+◌, ◌-◌, ◌<◌, Bool, true, false, not, ◌&&◌, ◌==◌, List, [], ◌∷◌, ◌++◌, Result, Ok, Err, IfOk, refl, sym, ap, subst, ◌∙◌, arith}
use Rattle.std.specs.Prelude.{nat_lt, if◌then◌else◌, flat_map}
use Rattle.std.specs.Global.{Vec}
use Rattle.std.proofs.lemmas.Bool.{and_from}
use Rattle.std.proofs.lemmas.List.{append_assoc}
use Rattle.std.specs.List.{filter}
use Rattle.std.specs.List.Sorted.{IsStableByKey, ties}
use Rattle.std.specs.Ordering.{is_lt, nat_cmp}
use Rattle.std.specs.declared.cmp.Ordering.TheVariants.{Less, Equal, Greater}
use Rattle.std.proofs.lemmas.Bool.Decides.{nat_tests}
use Rattle.kc_profile.specs.declared.source.Instruction.{Instruction}
use Rattle.kc_base.specs.declared.types.NoMemory.{NoMemory}
use Rattle.kc_isa.specs.declared.insn.Insn.{Insn}
use Rattle.kc_code.specs.declared.reader.Decoded.TheVariants as decoded
use Rattle.kc_obj_module.specs.Object.{Object}
use Rattle.kc_link_place.specs.BaseLists.{BaseLists, bases_in}
use Rattle.kc_profile.specs.Sights.{is_branch}
use Rattle.kc_asm_list.specs.declared.spot.Spot.{Spot}
use Rattle.kc_asm_list.specs.Listed.{AreInstructionsOf}
use Rattle.kc_kit_answer.specs.Cover.{code_base, decoded_at, instructions_from, instructions_of, is_in_image, is_on, with_decoded, AreByLine, AreOf}

abbrev on_line : ℕ → Instruction
on_line line = record { line = line; addr = 0; is_branch = false }

is_before : (x y : ℕ) → is_lt (nat_cmp x y) ≡ nat_lt x y
is_before x y = by (nat_lt x y) (x == y)
  where
    by : (b e : Bool) → is_lt (if b then Less else if e then Equal else Greater) ≡ b
    by true e = refl
    by false true = refl
    by false false = refl

tie : (line : ℕ) (i : Instruction) → is_on line i ≡ ties (λ (a b : Instruction). is_lt (nat_cmp a.line b.line)) (on_line line) i
tie line i =
    let tests : is_on line i ≡ not (nat_lt line i.line) && not (nat_lt i.line line) = grind (arith, nat_tests) in
    tests ∙ (λ k. not (sym (is_before line i.line) k) && not (sym (is_before i.line line) k))

pub same : (xs ys : List Instruction) → IsStableByKey (λ (i : Instruction). i.line) nat_cmp xs ys → (line : ℕ) → filter (is_on line) ys ≡ filter (is_on line) xs
same xs ys stable line = (λ k. filter (λ i. tie line i k) ys) ∙ (stable (on_line line) ∙ sym (λ k. filter (λ i. tie line i k) xs))

-- ---- one instruction of a statement, and those behind it

decoded_first : (left line : ℕ) (image : List ℕ) (at end : ℕ) (insn : Insn) (n : ℕ) → 0 < left → at < end → is_in_image at ≡ true → decoded_at image at ≡ decoded.Insn insn n →
    instructions_from left line image at end ≡ record { line = line; addr = at; is_branch = is_branch insn } ∷ instructions_from (left - 1) line image (at + n) end
unfolding instructions_from
decoded_first zero line image at end insn n few lt inside is = absurd (omega (arith, few))
decoded_first (suc more) line image at end insn n few lt inside is =
    let there : (nat_lt at end && is_in_image at) ≡ true = and_from (nat_lt at end) (is_in_image at) (grind (arith, nat_tests)) inside in
    let less : more ≡ suc more - 1 = omega arith in
    ap (λ b. if b then with_decoded line at (decoded_at image at) (λ k. instructions_from more line image (at + k) end) else []) there
    ∙ (ap (λ d. with_decoded line at d (λ k. instructions_from more line image (at + k) end)) is
    ∙ ap (λ m. record { line = line; addr = at; is_branch = is_branch insn } ∷ instructions_from m line image (at + n) end) less)

pub goes_on : (own added whole : List Instruction) (x : Instruction) (left line : ℕ) (image : List ℕ) (at step end : ℕ) (insn : Insn) (n : ℕ) → added ≡ own ++ x ∷ [] → x ≡ record { line = line; addr = at; is_branch = is_branch insn } → step ≡ n →
    0 < left → at < end → is_in_image at ≡ true → decoded_at image at ≡ decoded.Insn insn n → own ++ instructions_from left line image at end ≡ whole → added ++ instructions_from (left - 1) line image (at + step) end ≡ whole
goes_on own added whole x left line image at step end insn n pushed same length few lt inside is h =
    let rest : List Instruction = instructions_from (left - 1) line image (at + n) end in
    ap (λ k. added ++ instructions_from (left - 1) line image (at + k) end) length
    ∙ (ap (λ l. l ++ rest) pushed ∙ (append_assoc own (x ∷ []) rest ∙ (ap (λ y. own ++ y ∷ rest) same ∙ (ap (λ l. own ++ l) (sym (decoded_first left line image at end insn n few lt inside is)) ∙ h))))

-- ---- a source

pub of_spots : (r : Result (Vec Instruction) NoMemory) (own : List Instruction) (spots : List Spot) (text image : List ℕ) (m : Object) (bases : BaseLists) → AreInstructionsOf text spots →
    own ≡ flat_map (instructions_of image (code_base m.segments (bases_in bases))) spots → IfOk r (λ sorted. AreByLine own sorted.items) → IfOk r (λ sorted. AreOf text image m bases sorted.items)
of_spots (Ok v) own spots text image m bases said is by = record { spots = spots; are_own = said; by_line = subst (λ l. AreByLine l v.items) is by }
of_spots (Err e) own spots text image m bases said is by = tt

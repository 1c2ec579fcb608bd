-- The table has a row for each line that a test found.
use Rattle.std.proofs.Common.{◌≡◌, ℕ, zero, suc, ◌+◌, ◌%◌, ◌<◌, Bool, true, false, List, [], ◌∷◌, length, refl, sym, ap, ◌∙◌, subst, Option, Some, None, arith}
use Rattle.std.specs.Prelude.{◌==◌, ◌&&◌, ◌||◌, not, is_some, if◌then◌else◌}
use Rattle.std.specs.List.{list_all, list_any}
use Rattle.std.specs.Str.{bytes_eq}
use Rattle.std.specs.Option.{option_map}
use Rattle.std.proofs.lemmas.Slice.Eq.{bytes_eq-Decides}
use Rattle.kc_expr.specs.declared.values.Value.{Value}
use Rattle.kc_isa.specs.declared.table.Shape.{Shape}
use Rattle.kc_isa.specs.declared.table.Shape.TheVariants.{Nothing, One, Two, Four, FourOne, FourTwo, Exchange, CountOne, Near, Conditional, BitTest, Loop, TableJump, Far, Key}
use Rattle.kc_isa.specs.Names.{Shown, row_at}
use Rattle.kc_lex.specs.Words.{is_one_of}
use Rattle.kc_lex.specs.Takes.{is_plain, is_immediate, is_indexed}
use Rattle.kc_lex.proofs.IndexLemmas.{least-passes}
use Rattle.kc_lex.specs.Instructions.{least}
use Rattle.kc_asm_encode.specs.declared.argument.Argument.{Argument}
use Rattle.kc_asm_encode.specs.declared.argument.Argument.TheVariants.{Plain, Immediate, Indirect, Increment, Indexed}
use Rattle.kc_asm_encode.specs.declared.word.RelocatableInsn.{RelocatableInsn}
use Rattle.kc_expr.specs.Meaning.{is_fixed}
use Rattle.kc_asm_encode.specs.Values.{is_direct, value_of, bit_of}
use Rattle.kc_asm_encode.specs.Sources.{mode}
use Rattle.kc_asm_encode.specs.Takes.{notation}
use Rattle.kc_asm_encode.specs.Opcodes.{operand_count, low_bits, wanted_bits, is_row_for, is_opcode_for, opcode_of}
use Rattle.kc_asm_encode.specs.Instructions.{laid, instruction_at, signed_instruction, instruction}
use Rattle.kc_asm_encode.proofs.EncodingSearch.{opcode-passes, opcode-finds}
use Rattle.kc_asm_encode.proofs.Found.{both, same-number, test-number}
use Rattle.kc_asm_encode.proofs.Rows.{shape_number, is_row, matches, has_row, has_rows}

shape_from : ℕ → Shape
shape_from zero = Nothing
shape_from (suc zero) = One
shape_from (suc (suc zero)) = Two
shape_from (suc (suc (suc zero))) = Four
shape_from (suc (suc (suc (suc zero)))) = FourOne
shape_from (suc (suc (suc (suc (suc zero))))) = FourTwo
shape_from (suc (suc (suc (suc (suc (suc zero)))))) = Exchange
shape_from (suc (suc (suc (suc (suc (suc (suc zero))))))) = CountOne
shape_from (suc (suc (suc (suc (suc (suc (suc (suc zero)))))))) = Near
shape_from (suc (suc (suc (suc (suc (suc (suc (suc (suc zero))))))))) = Conditional
shape_from (suc (suc (suc (suc (suc (suc (suc (suc (suc (suc zero)))))))))) = BitTest
shape_from (suc (suc (suc (suc (suc (suc (suc (suc (suc (suc (suc zero))))))))))) = Loop
shape_from (suc (suc (suc (suc (suc (suc (suc (suc (suc (suc (suc (suc zero)))))))))))) = TableJump
shape_from (suc (suc (suc (suc (suc (suc (suc (suc (suc (suc (suc (suc (suc zero))))))))))))) = Far
shape_from (suc (suc (suc (suc (suc (suc (suc (suc (suc (suc (suc (suc (suc (suc n)))))))))))))) = Key

shape-back : (shape : Shape) → shape_from (shape_number shape) ≡ shape
unfolding shape_from
shape-back Nothing = refl
shape-back One = refl
shape-back Two = refl
shape-back Four = refl
shape-back FourOne = refl
shape-back FourTwo = refl
shape-back Exchange = refl
shape-back CountOne = refl
shape-back Near = refl
shape-back Conditional = refl
shape-back BitTest = refl
shape-back Loop = refl
shape-back TableJump = refl
shape-back Far = refl
shape-back Key = refl

pub same_shape : (a b : Shape) → (shape_number a == shape_number b) ≡ true → a ≡ b
same_shape a b h = sym (shape-back a) ∙ (ap shape_from (same-number (shape_number a) (shape_number b) h) ∙ shape-back b)

pub join : (a b : Bool) → a ≡ true → b ≡ true → (a && b) ≡ true
join a b h k = rw (h, k) refl

same-bytes : (a b : List ℕ) → bytes_eq a b ≡ true → a ≡ b
same-bytes a b h = (bytes_eq-Decides a b).0 h

-- ---- a search

some_from : (p : ℕ → Bool) (o : Option ℕ) → least p 256 0 ≡ o → is_some o ≡ true → (k : ℕ) × ((p k ≡ true) × (k < 256))
some_from p None e h = absurd (cc h)
some_from p (Some k) e h = let r : (p k ≡ true) × (k < 0 + 256) = least-passes p 256 0 k e in (k, (r.0, omega arith))

row-from : (word : List ℕ) (shape : Shape) (signed : Bool) (low : ℕ) → has_row word shape signed low ≡ true → (k : ℕ) × ((matches word shape low signed k ≡ true) × (k < 256))
unfolding has_row
row-from word shape signed low h = some_from (matches word shape low signed) (least (matches word shape low signed) 256 0) refl h

-- ---- from a row of the test to one of the line

row_for : (word : List ℕ) (args : List Argument) (shape : Shape) (low opcode : ℕ) (row : Shown) → is_row word shape low opcode row ≡ true → operand_count shape ≡ length args → wanted_bits shape args ≡ low →
    is_row_for word args opcode row ≡ true
row_for word args shape low opcode row h count wanted =
    let n : (bytes_eq row.name word ≡ true) × ((shape_number row.shape == shape_number shape && low_bits shape opcode == low) ≡ true) = both _ _ h in
    let m : ((shape_number row.shape == shape_number shape) ≡ true) × ((low_bits shape opcode == low) ≡ true) = both _ _ n.1 in
    let s : row.shape ≡ shape = same_shape row.shape shape m.0 in
    let bits : low_bits shape opcode ≡ wanted_bits shape args = same-number _ _ m.1 ∙ sym wanted in
    join _ _ n.0 (join _ _ (test-number (operand_count row.shape) (length args) (ap operand_count s ∙ count))
    (test-number (low_bits row.shape opcode) (wanted_bits row.shape args) (ap (λ (x : Shape). low_bits x opcode) s ∙ (bits ∙ ap (λ (x : Shape). wanted_bits x args) (sym s)))))

opcode_for : (word : List ℕ) (args : List Argument) (shape : Shape) (low : ℕ) (signed : Bool) (opcode : ℕ) (r : Option Shown) → row_at opcode signed ≡ r →
    (elim r as (λ _. Bool) [ None ↦ false | Some row ↦ is_row word shape low opcode row ]) ≡ true → operand_count shape ≡ length args → wanted_bits shape args ≡ low →
    (elim r as (λ _. Bool) [ None ↦ false | Some row ↦ is_row_for word args opcode row ]) ≡ true
opcode_for word args shape low signed opcode None e h count wanted = absurd (cc h)
opcode_for word args shape low signed opcode (Some row) e h count wanted = row_for word args shape low opcode row h count wanted

pub has_opcode : (word : List ℕ) (args : List Argument) (shape : Shape) (low : ℕ) (signed : Bool) → has_row word shape signed low ≡ true → operand_count shape ≡ length args → wanted_bits shape args ≡ low →
    (j : ℕ) × (opcode_of word args signed ≡ Some j)
has_opcode word args shape low signed h count wanted =
    let r : (k : ℕ) × ((matches word shape low signed k ≡ true) × (k < 256)) = row-from word shape signed low h in
    opcode-finds word args signed r.0 r.1.1 (opcode_for word args shape low signed r.0 (row_at r.0 signed) refl r.1.0 count wanted)

-- ---- an opcode gives an instruction

abbrev pub IsFound : List ℕ → List Argument → Type 0
IsFound word args = (w : RelocatableInsn) × (instruction word args ≡ Some w)

at_row : (word : List ℕ) (args : List Argument) (signed : Bool) (opcode : ℕ) (r : Option Shown) →
    (elim r as (λ _. Bool) [ None ↦ false | Some row ↦ is_row_for word args opcode row ]) ≡ true →
    (w : RelocatableInsn) × (option_map (λ (row : Shown). laid opcode signed args row.shape) r ≡ Some w)
at_row word args signed opcode None h = absurd (cc h)
at_row word args signed opcode (Some row) h = (laid opcode signed args row.shape, refl)

at_opcode : (word : List ℕ) (args : List Argument) (signed : Bool) (opcode : ℕ) → opcode_of word args signed ≡ Some opcode → (w : RelocatableInsn) × (instruction_at signed args opcode ≡ Some w)
at_opcode word args signed opcode e =
    let h : (is_opcode_for word args signed opcode ≡ true) × (opcode < 256) = opcode-passes word args signed opcode e in
    at_row word args signed opcode (row_at opcode signed) h.0

pub plain_is : (word : List ℕ) (args : List Argument) (j : ℕ) → opcode_of word args false ≡ Some j → instruction word args ≡ instruction_at false args j
unfolding instruction
plain_is word args j e = rw (e, instruction) refl

pub behind_plain : (word : List ℕ) (args : List Argument) → opcode_of word args false ≡ None → instruction word args ≡ signed_instruction word args
unfolding instruction
behind_plain word args e = rw (e, instruction) refl

pub signed_is : (word : List ℕ) (args : List Argument) (j : ℕ) → opcode_of word args true ≡ Some j → signed_instruction word args ≡ instruction_at true args j
signed_is word args j e = rw (e, signed_instruction) refl

from_plain : (word : List ℕ) (args : List Argument) (j : ℕ) → opcode_of word args false ≡ Some j → IsFound word args
from_plain word args j e = let r : (w : RelocatableInsn) × (instruction_at false args j ≡ Some w) = at_opcode word args false j e in (r.0, plain_is word args j e ∙ r.1)

from_signed : (word : List ℕ) (args : List Argument) (j : ℕ) (o : Option ℕ) → opcode_of word args false ≡ o → opcode_of word args true ≡ Some j → IsFound word args
from_signed word args j None e f =
    let r : (w : RelocatableInsn) × (instruction_at true args j ≡ Some w) = at_opcode word args true j f in
    (r.0, behind_plain word args e ∙ (signed_is word args j f ∙ r.1))
from_signed word args j (Some k) e f = from_plain word args k e

pub either : (a b : Bool) → (a || b) ≡ true → (P : Type 0) → (a ≡ true → P) → (b ≡ true → P) → P
either true b h P f g = f refl
either false b h P f g = g h

pub found_row : (word : List ℕ) (args : List Argument) (shape : Shape) (low : ℕ) → (has_row word shape false low || has_row word shape true low) ≡ true → operand_count shape ≡ length args → wanted_bits shape args ≡ low →
    IsFound word args
found_row word args shape low h count wanted =
    either _ _ h (IsFound word args)
    (λ p. let r : (j : ℕ) × (opcode_of word args false ≡ Some j) = has_opcode word args shape low false p count wanted in from_plain word args r.0 r.1)
    (λ s. let r : (j : ℕ) × (opcode_of word args true ≡ Some j) = has_opcode word args shape low true s count wanted in from_signed word args r.0 (opcode_of word args false) refl r.1)

-- ---- words of a list, and low bits

pub one_of : (P : List ℕ → Bool) (words : List (List ℕ)) (w : List ℕ) → list_all P words ≡ true → is_one_of words w ≡ true → P w ≡ true
one_of P [] w h k = absurd (cc k)
one_of P (v ∷ vs) w h k =
    let p : (P v ≡ true) × (list_all P vs ≡ true) = both _ _ h in
    either (bytes_eq w v) (is_one_of vs w) k (P w ≡ true) (λ e. subst (λ (u : List ℕ). P u ≡ true) (sym (same-bytes w v e)) p.0) (λ r. one_of P vs w p.1 r)

pub one_word : (P : List ℕ → Bool) (v w : List ℕ) → P v ≡ true → bytes_eq w v ≡ true → P w ≡ true
one_word P v w h e = subst (λ (u : List ℕ). P u ≡ true) (sym (same-bytes w v e)) h

pub first_low : (P : ℕ → Bool) (n : ℕ) → list_all P (n ∷ []) ≡ true → P n ≡ true
first_low P n h = (both _ _ h).0

-- the mode of an operand is among those of a list
abbrev pub is_among : List ℕ → ℕ → Bool
is_among lows n = list_any (λ low. low == n) lows

pub among : (P : ℕ → Bool) (lows : List ℕ) (n : ℕ) → list_all P lows ≡ true → is_among lows n ≡ true → P n ≡ true
among P [] n h k = absurd (cc k)
among P (l ∷ ls) n h k =
    let p : (P l ≡ true) × (list_all P ls ≡ true) = both _ _ h in
    either (l == n) (is_among ls n) k (P n ≡ true) (λ e. subst (λ (m : ℕ). P m ≡ true) (same-number l n e) p.0) (λ r. among P ls n p.1 r)

pub found_among : (word : List ℕ) (args : List Argument) (shape : Shape) (lows : List ℕ) → has_rows shape lows word ≡ true → operand_count shape ≡ length args → is_among lows (wanted_bits shape args) ≡ true → IsFound word args
found_among word args shape lows h count k =
    found_row word args shape (wanted_bits shape args) (among (λ (low : ℕ). has_row word shape false low || has_row word shape true low) lows (wanted_bits shape args) h k) count refl

plain_mode : (x : Option Value) (t : Bool) (lows : List ℕ) → is_among lows 0 ≡ true → is_among lows 3 ≡ true → is_direct x ≡ t → is_among lows (if t then 0 else 3) ≡ true
plain_mode x true lows h k e = h
plain_mode x false lows h k e = k

pub mode_among : (a : Argument) → is_among (0 ∷ 1 ∷ 2 ∷ 3 ∷ []) (mode a) ≡ true
mode_among (Plain x) = plain_mode x (is_direct x) (0 ∷ 1 ∷ 2 ∷ 3 ∷ []) refl refl refl
mode_among (Immediate x) = refl
mode_among (Indirect r) = refl
mode_among (Increment r) = refl
mode_among (Indexed x r) = refl

pub place_among : (a : Argument) → not (is_immediate (notation a)) ≡ true → is_among (0 ∷ 2 ∷ 3 ∷ []) (mode a) ≡ true
place_among (Plain x) h = plain_mode x (is_direct x) (0 ∷ 2 ∷ 3 ∷ []) refl refl refl
place_among (Immediate x) h = absurd (cc h)
place_among (Indirect r) h = refl
place_among (Increment r) h = refl
place_among (Indexed x r) h = refl

pub exchange_among : (a : Argument) → (is_plain (notation a) || is_indexed (notation a)) ≡ true → is_among (0 ∷ 3 ∷ []) (mode a) ≡ true
exchange_among (Plain x) h = plain_mode x (is_direct x) (0 ∷ 3 ∷ []) refl refl refl
exchange_among (Immediate x) h = absurd (cc h)
exchange_among (Indirect r) h = absurd (cc h)
exchange_among (Increment r) h = absurd (cc h)
exchange_among (Indexed x r) h = refl

octal : (n : ℕ) → n < 8 → is_among (0 ∷ 1 ∷ 2 ∷ 3 ∷ 4 ∷ 5 ∷ 6 ∷ 7 ∷ []) n ≡ true
octal zero h = refl
octal (suc zero) h = refl
octal (suc (suc zero)) h = refl
octal (suc (suc (suc zero))) h = refl
octal (suc (suc (suc (suc zero)))) h = refl
octal (suc (suc (suc (suc (suc zero))))) h = refl
octal (suc (suc (suc (suc (suc (suc zero)))))) h = refl
octal (suc (suc (suc (suc (suc (suc (suc zero))))))) h = refl
octal (suc (suc (suc (suc (suc (suc (suc (suc n)))))))) h = absurd (omega arith)

bit_below : (t : Bool) (n : ℕ) → (if t then n % 8 else 0) < 8
bit_below true n = omega arith
bit_below false n = omega arith

pub bit_among : (a : Argument) → is_among (0 ∷ 1 ∷ 2 ∷ 3 ∷ 4 ∷ 5 ∷ 6 ∷ 7 ∷ []) (bit_of a) ≡ true
bit_among a = octal (bit_of a) (bit_below (is_fixed (value_of a).base) (value_of a).number)

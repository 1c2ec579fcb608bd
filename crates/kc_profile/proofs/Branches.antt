-- A well-formed conditional jump has as many bytes as its opcode says.
use Rattle.std.proofs.Common.{◌≡◌, ℕ, zero, suc, ◌+◌, ◌-◌, ◌%◌, ◌<◌, ◌≤◌, ◌==◌, inl, inr, Bool, true, false, not, ◌&&◌, ◌||◌, Option, Some, None, refl, sym, ◌∙◌, ap, subst, arith}
use Rattle.std.specs.Prelude.{nat_le, if◌then◌else◌}
use Rattle.std.proofs.lemmas.Bool.{cases_lt}
use Rattle.std.proofs.lemmas.Bool.Decides.{nat_tests}
use Rattle.std.proofs.lemmas.Bool.{and_parts, eqb-true}
use Rattle.kc_isa.specs.declared.insn.Insn.{Insn}
use Rattle.kc_isa.specs.declared.insn.Operand.{Operand}
use Rattle.kc_isa.specs.declared.insn.Operand.TheVariants.{Absent, Reg, Imm, Indirect, Increment, Short, Long, Count, Disp}
use Rattle.kc_isa.specs.declared.layout.Form.{Form}
use Rattle.kc_isa.specs.declared.layout.Form.TheVariants.{Distance8}
use Rattle.kc_isa.specs.declared.layout.Layout.{Layout}
use Rattle.kc_isa.specs.Formed.{is_formed, row_fits, row_length, length_of, operand_fits, operand_length, is_byte}
use Rattle.kc_isa.specs.Layout.{layout_of}
use Rattle.kc_isa.specs.Names.{Shown, row_at}
use Rattle.kc_isa.specs.Table.{plain_entry}
use Rattle.kc_profile.specs.Sights.{BranchesPassToTheNext, branch_length, is_branch, lies_in}

-- an opcode of a conditional jump
jumps : ℕ → Bool
jumps opcode = lies_in 0x30 0x3F opcode || lies_in 0xD0 0xDF opcode || opcode == 0xE0 || opcode == 0xE1

abbrev is_distance8 : Form → Bool
is_distance8 Distance8 = true
is_distance8 _ = false

abbrev is_long : ℕ → Layout → Bool
is_long bytes l = is_distance8 l.form && (1 + l.before + 1 + l.after == bytes)

abbrev row-fits : ℕ → Bool
row-fits opcode = elim (row_at opcode false) [ None ↦ false | Some row ↦ is_long (branch_length opcode) (layout_of row.shape) ]

-- so many opcodes from one on
abbrev all-fit : ℕ → ℕ → Bool
all-fit from zero = true
all-fit from (suc n) = row-fits from && all-fit (from + 1) n

fit-registers : all-fit 0x30 16 ≡ true
unfolding row_at plain_entry
fit-registers = refl

fit-flags : all-fit 0xD0 16 ≡ true
unfolding row_at plain_entry
fit-flags = refl

fit-counts : all-fit 0xE0 2 ≡ true
unfolding row_at plain_entry
fit-counts = refl

fit-at : (from n k : ℕ) → all-fit from n ≡ true → k < n → row-fits (from + k) ≡ true
fit-at from zero k h within = absurd (omega (arith, within))
fit-at from (suc n) zero h within =
    let there : from ≡ from + zero = omega arith in
    subst (λ (i : ℕ). row-fits i ≡ true) there (and_parts _ _ h).0
fit-at from (suc n) (suc k) h within =
    let there : from + 1 + k ≡ from + suc k = omega arith in
    subst (λ (i : ℕ). row-fits i ≡ true) there (fit-at (from + 1) n k (and_parts _ _ h).1 (omega (arith, within)))

fit-from : (from n opcode : ℕ) → all-fit from n ≡ true → from ≤ opcode → opcode < from + n → row-fits opcode ≡ true
fit-from from n opcode h past below =
    let there : from + (opcode - from) ≡ opcode = omega (arith, past) in
    subst (λ (i : ℕ). row-fits i ≡ true) there (fit-at from n (opcode - from) h (omega (arith, past, below)))

from-registers : (opcode : ℕ) → jumps opcode ≡ true → opcode < 0x40 → 0x30 ≤ opcode
unfolding jumps
from-registers opcode is below = grind (arith, nat_tests)

from-flags : (opcode : ℕ) → jumps opcode ≡ true → 0x40 ≤ opcode → opcode < 0xE0 → 0xD0 ≤ opcode
unfolding jumps
from-flags opcode is past below = grind (arith, nat_tests)

to-counts : (opcode : ℕ) → jumps opcode ≡ true → 0xE0 ≤ opcode → opcode < 0xE2
unfolding jumps
to-counts opcode is past = grind (arith, nat_tests)

jump-fits : (opcode : ℕ) → jumps opcode ≡ true → row-fits opcode ≡ true
jump-fits opcode is = elim (cases_lt opcode 0x40) [
  | inl low ↦ fit-from 0x30 16 opcode fit-registers (from-registers opcode is low) low
  | inr high ↦ elim (cases_lt opcode 0xE0) [
    | inl middle ↦ fit-from 0xD0 16 opcode fit-flags (from-flags opcode is high middle) middle
    | inr top ↦ fit-from 0xE0 2 opcode fit-counts top (to-counts opcode is top)
  ]
]

one-byte : (opcode : ℕ) (byte : Bool) (o : Operand) → operand_fits Distance8 opcode byte o ≡ true → operand_length Distance8 byte o ≡ 1
one-byte opcode byte Absent h = absurd (cc h)
one-byte opcode byte (Reg r) h = refl
one-byte opcode byte (Imm n) h = absurd (cc h)
one-byte opcode byte (Indirect r) h = refl
one-byte opcode byte (Increment r) h = refl
one-byte opcode byte (Short base offset) h = absurd (cc h)
one-byte opcode byte (Long base offset) h = absurd (cc h)
one-byte opcode byte (Count n) h = refl
one-byte opcode byte (Disp d) h = refl

form-is : (form : Form) → is_distance8 form ≡ true → form ≡ Distance8
form-is Distance8 h = refl
form-is _ h = absurd (cc h)

-- of a row that fits
row-long : (insn : Insn) (row : Shown) → insn.signed ≡ false → is_long (branch_length insn.opcode) (layout_of row.shape) ≡ true → row_fits insn row ≡ true → row_length insn row ≡ branch_length insn.opcode
row-long insn row plain long fitting =
    let l : Layout = layout_of row.shape in
    let parts = and_parts _ _ long in
    let form : l.form ≡ Distance8 = form-is l.form parts.0 in
    let operand : operand_fits Distance8 insn.opcode (is_byte row.width) insn.operand ≡ true = ap (λ g. operand_fits g insn.opcode (is_byte row.width) insn.operand) (sym form) ∙ (and_parts _ _ fitting).0 in
    let one : operand_length l.form (is_byte row.width) insn.operand ≡ 1 = ap (λ g. operand_length g (is_byte row.width) insn.operand) form ∙ one-byte insn.opcode (is_byte row.width) insn.operand operand in
    let sum : 1 + l.before + 1 + l.after ≡ branch_length insn.opcode = eqb-true _ _ parts.1 in
    ap (λ b. (if b then 2 else 1) + l.before + operand_length l.form (is_byte row.width) insn.operand + l.after) plain
    ∙ ap (λ n. 1 + l.before + n + l.after) one
    ∙ sum

not-is : (b : Bool) → not b ≡ true → b ≡ false
not-is true h = sym h
not-is false h = refl

branch-long : (insn : Insn) → is_formed insn ≡ true → is_branch insn ≡ true → branch_length insn.opcode ≡ length_of insn
unfolding jumps
branch-long insn formed branch =
    let parts = and_parts _ _ branch in
    let plain : insn.signed ≡ false = not-is insn.signed parts.0 in
    by (row_at insn.opcode false) refl (ap (row_at insn.opcode) plain) plain (jump-fits insn.opcode parts.1)
  where
    by : (o : Option Shown) → row_at insn.opcode false ≡ o → row_at insn.opcode insn.signed ≡ row_at insn.opcode false → insn.signed ≡ false → row-fits insn.opcode ≡ true → branch_length insn.opcode ≡ length_of insn
    by None same row plain fitting = absurd (cc (sym (ap (λ o. elim o [ None ↦ false | Some r ↦ is_long (branch_length insn.opcode) (layout_of r.shape) ]) same) ∙ fitting))
    by (Some r) same row plain fitting =
        let long : is_long (branch_length insn.opcode) (layout_of r.shape) ≡ true = sym (ap (λ o. elim o [ None ↦ false | Some r ↦ is_long (branch_length insn.opcode) (layout_of r.shape) ]) same) ∙ fitting in
        let fit : row_fits insn r ≡ true = sym (ap (λ o. elim o [ None ↦ false | Some r ↦ row_fits insn r ]) (row ∙ same)) ∙ formed in
        sym (ap (λ o. elim o [ None ↦ 0 | Some r ↦ row_length insn r ]) (row ∙ same) ∙ row-long insn r plain long fit)

pub branches-pass : BranchesPassToTheNext
branches-pass insn pc formed branch = ap (λ n. (pc + n) % 0x10000) (branch-long insn formed branch)

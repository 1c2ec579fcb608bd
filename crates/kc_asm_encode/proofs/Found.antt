-- What the table gives for a line is an instruction of it.
use Rattle.std.proofs.Common.{◌≡◌, ℕ, ◌+◌, ◌%◌, ◌<◌, Bool, true, false, List, length, drop, refl, subst, Option, Some, None}
use Rattle.std.specs.Prelude.{◌==◌, ◌&&◌, if◌then◌else◌}
use Rattle.std.specs.Option.{option_map}
use Rattle.std.specs.Str.{bytes_eq}
use Rattle.std.proofs.lemmas.Slice.Eq.{bytes_eq-Decides}
use Rattle.std.proofs.lemmas.Bool.Decides.{Decides-eqb}
use Rattle.kc_isa.specs.declared.table.Shape.{Shape}
use Rattle.kc_isa.specs.declared.table.Shape.TheVariants as shapes
use Rattle.kc_isa.specs.Names.{Shown, row_at}
use Rattle.kc_isa.specs.Layout.{layout_of}
use Rattle.kc_expr.specs.declared.values.Value.{Value}
use Rattle.kc_asm_encode.specs.declared.argument.Argument.{Argument}
use Rattle.kc_asm_encode.specs.declared.argument.Argument.TheVariants.{Plain, Immediate, Indirect, Increment, Indexed}
use Rattle.kc_asm_encode.specs.declared.word.RelocatableInsn.{RelocatableInsn}
use Rattle.kc_asm_encode.specs.Values.{is_direct, is_short}
use Rattle.kc_asm_encode.specs.Sources.{mode, source, plain_source, indexed_source}
use Rattle.kc_asm_encode.specs.Opcodes.{operand_count, source_of, low_bits, wanted_bits, is_row_for, is_opcode_for, opcode_of}
use Rattle.kc_asm_encode.specs.Instructions.{operand_for, regs_for, no_regs, laid, instruction_at, signed_instruction, instruction}
use Rattle.kc_asm_encode.specs.Suits.{mode_suits, operand_suits, IsInstruction}
use Rattle.kc_asm_encode.proofs.EncodingSearch.{opcode-passes}

pub both : (a b : Bool) → (a && b) ≡ true → (a ≡ true) × (b ≡ true)
both true b h = (refl, h)
both false b h = absurd (cc h)

pub same-number : (a b : ℕ) → (a == b) ≡ true → a ≡ b
same-number a b h = (Decides-eqb a b).0 h

pub test-number : (a b : ℕ) → a ≡ b → (a == b) ≡ true
test-number a b h = (Decides-eqb a b).1 h

plain_suits : (x : Option Value) (m : ℕ) (t : Bool) → is_direct x ≡ t → m ≡ (if t then 0 else 3) → mode_suits m (plain_source x) ≡ true
plain_suits x m true e h = rw (e, h) refl
plain_suits x m false e h = rw (e, h) refl

indexed_suits : (x r : Option Value) (m : ℕ) (t : Bool) → is_short x ≡ t → m ≡ 3 → mode_suits m (indexed_source x r) ≡ true
indexed_suits x r m true e h = rw (e, h) refl
indexed_suits x r m false e h = rw (e, h) refl

pub source_suits : (a : Argument) (m : ℕ) → m ≡ mode a → mode_suits m (source a) ≡ true
source_suits (Plain x) m h = plain_suits x m (is_direct x) refl h
source_suits (Immediate x) m h = rw h refl
source_suits (Indirect r) m h = rw h refl
source_suits (Increment r) m h = rw h refl
source_suits (Indexed x r) m h = indexed_suits x r m (is_short x) refl h

pub suits_for : (shape : Shape) (args : List Argument) (opcode : ℕ) → low_bits shape opcode ≡ wanted_bits shape args → operand_suits (layout_of shape).form opcode (operand_for shape args) ≡ true
suits_for shapes.Nothing args opcode h = refl
suits_for shapes.One args opcode h = refl
suits_for shapes.Two args opcode h = refl
suits_for shapes.Four args opcode h = source_suits (source_of shapes.Four args) (opcode % 4) h
suits_for shapes.FourOne args opcode h = source_suits (source_of shapes.FourOne args) (opcode % 4) h
suits_for shapes.FourTwo args opcode h = source_suits (source_of shapes.FourTwo args) (opcode % 4) h
suits_for shapes.Exchange args opcode h = source_suits (source_of shapes.Exchange args) (opcode % 4) h
suits_for shapes.CountOne args opcode h = refl
suits_for shapes.Near args opcode h = test-number (opcode % 8) 0 h
suits_for shapes.Conditional args opcode h = refl
suits_for shapes.BitTest args opcode h = refl
suits_for shapes.Loop args opcode h = refl
suits_for shapes.TableJump args opcode h = refl
suits_for shapes.Far args opcode h = refl
suits_for shapes.Key args opcode h = refl

rest_for : (shape : Shape) (args : List Argument) →
    drop ((layout_of shape).before + (layout_of shape).after) (regs_for shape args) ≡ drop ((layout_of shape).before + (layout_of shape).after) no_regs
rest_for shapes.Nothing args = refl
rest_for shapes.One args = refl
rest_for shapes.Two args = refl
rest_for shapes.Four args = refl
rest_for shapes.FourOne args = refl
rest_for shapes.FourTwo args = refl
rest_for shapes.Exchange args = refl
rest_for shapes.CountOne args = refl
rest_for shapes.Near args = refl
rest_for shapes.Conditional args = refl
rest_for shapes.BitTest args = refl
rest_for shapes.Loop args = refl
rest_for shapes.TableJump args = refl
rest_for shapes.Far args = refl
rest_for shapes.Key args = refl

pub three_for : (shape : Shape) (args : List Argument) → length (regs_for shape args) ≡ 3
three_for shapes.Nothing args = refl
three_for shapes.One args = refl
three_for shapes.Two args = refl
three_for shapes.Four args = refl
three_for shapes.FourOne args = refl
three_for shapes.FourTwo args = refl
three_for shapes.Exchange args = refl
three_for shapes.CountOne args = refl
three_for shapes.Near args = refl
three_for shapes.Conditional args = refl
three_for shapes.BitTest args = refl
three_for shapes.Loop args = refl
three_for shapes.TableJump args = refl
three_for shapes.Far args = refl
three_for shapes.Key args = refl

laid_instruction : (word : List ℕ) (args : List Argument) (signed : Bool) (opcode : ℕ) (row : Shown) → row_at opcode signed ≡ Some row → is_row_for word args opcode row ≡ true → opcode < 256 →
    IsInstruction word (laid opcode signed args row.shape)
laid_instruction word args signed opcode row e h k =
    let n : (bytes_eq row.name word ≡ true) × ((operand_count row.shape == length args && low_bits row.shape opcode == wanted_bits row.shape args) ≡ true) = both _ _ h in
    let m : ((operand_count row.shape == length args) ≡ true) × ((low_bits row.shape opcode == wanted_bits row.shape args) ≡ true) = both _ _ n.1 in
    record {
      row = row;
      is = e;
      named = (bytes_eq-Decides row.name word).0 n.0;
      operand = suits_for row.shape args opcode (same-number _ _ m.1);
      rest = rest_for row.shape args;
      three = three_for row.shape args;
      opcode = k;
    }

-- how the table gives an instruction for a line
pub record IsLaid (word : List ℕ) (args : List Argument) (w : RelocatableInsn) : Type 0 where
  pub opcode : ℕ
  pub signed : Bool
  pub row : Shown
  pub at : row_at opcode signed ≡ Some row
  pub fits : is_row_for word args opcode row ≡ true
  pub below : opcode < 256
  pub is : laid opcode signed args row.shape ≡ w

found_at : (word : List ℕ) (args : List Argument) (signed : Bool) (opcode : ℕ) (r : Option Shown) → row_at opcode signed ≡ r →
    (elim r as (λ _. Bool) [ None ↦ false | Some row ↦ is_row_for word args opcode row ]) ≡ true → opcode < 256 →
    (w : RelocatableInsn) → option_map (λ (row : Shown). laid opcode signed args row.shape) r ≡ Some w → IsLaid word args w
found_at word args signed opcode None e h k w f = absurd (cc h)
found_at word args signed opcode (Some row) e h k w f = record { opcode = opcode; signed = signed; row = row; at = e; fits = h; below = k; is = cc f }

at_opcode : (word : List ℕ) (args : List Argument) (signed : Bool) (opcode : ℕ) → opcode_of word args signed ≡ Some opcode → (w : RelocatableInsn) → instruction_at signed args opcode ≡ Some w → IsLaid word args w
at_opcode word args signed opcode e w f =
    let h : (is_opcode_for word args signed opcode ≡ true) × (opcode < 256) = opcode-passes word args signed opcode e in
    found_at word args signed opcode (row_at opcode signed) refl h.0 h.1 w f

signed_found : (word : List ℕ) (args : List Argument) (o : Option ℕ) → opcode_of word args true ≡ o → (w : RelocatableInsn) →
    (elim o as (λ _. Option RelocatableInsn) [ None ↦ None | Some opcode ↦ instruction_at true args opcode ]) ≡ Some w → IsLaid word args w
signed_found word args None e w f = absurd (cc f)
signed_found word args (Some opcode) e w f = at_opcode word args true opcode e w f

plain_found : (word : List ℕ) (args : List Argument) (o : Option ℕ) → opcode_of word args false ≡ o → (w : RelocatableInsn) →
    (elim o as (λ _. Option RelocatableInsn) [ None ↦ signed_instruction word args | Some opcode ↦ instruction_at false args opcode ]) ≡ Some w → IsLaid word args w
plain_found word args None e w f = signed_found word args (opcode_of word args true) refl w f
plain_found word args (Some opcode) e w f = at_opcode word args false opcode e w f

pub instruction_laid : (word : List ℕ) (args : List Argument) (w : RelocatableInsn) → instruction word args ≡ Some w → IsLaid word args w
unfolding instruction
instruction_laid word args w f = plain_found word args (opcode_of word args false) refl w f

pub instruction_found : (word : List ℕ) (args : List Argument) (w : RelocatableInsn) → instruction word args ≡ Some w → IsInstruction word w
instruction_found word args w f =
    let l : IsLaid word args w = instruction_laid word args w f in
    subst (λ (v : RelocatableInsn). IsInstruction word v) l.is (laid_instruction word args l.signed l.opcode l.row l.at l.fits l.below)

pub laid_count : (word : List ℕ) (args : List Argument) (w : RelocatableInsn) (l : IsLaid word args w) → operand_count l.row.shape ≡ length args
laid_count word args w l = same-number _ _ (both (operand_count l.row.shape == length args) _ (both (bytes_eq l.row.name word) _ l.fits).1).0

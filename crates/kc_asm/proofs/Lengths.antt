-- How many bytes a statement has.
use Rattle.std.proofs.Common.{◌≡◌, ℕ, suc, ◌+◌, Bool, true, false, List, [], ◌∷◌, ◌++◌, length, map, refl, sym, ap, ◌∙◌, length-append, arith}
use Rattle.std.specs.Prelude.{Option, Some, None, ◌==◌, if◌then◌else◌, take, drop}
use Rattle.std.specs.Int.{w32, to_le_bytes}
use Rattle.std.specs.List.{flat_map}
use Rattle.std.proofs.lemmas.List.{length-map, take-map, drop-map}
use Rattle.kc_isa.specs.declared.layout.Form.{Form}
use Rattle.kc_isa.specs.declared.layout.Form.TheVariants.{NoOperand, Mode, ShiftCount, Distance11, Distance8, Distance16, OneByte}
use Rattle.kc_isa.specs.declared.layout.Layout.{Layout}
use Rattle.kc_isa.specs.declared.insn.Insn.{Insn}
use Rattle.kc_isa.specs.Names.{Shown, row_at}
use Rattle.kc_isa.specs.Layout.{layout_of}
use Rattle.kc_isa.specs.Formed.{is_byte, length_of}
use Rattle.kc_code.specs.Spelling.{prefix, high_bits, operand_bytes, laid_bytes, row_spelling, spelling}
use Rattle.kc_code.proofs.Beginnings.{spelled_count}
use Rattle.kc_expr.specs.declared.values.Value.{Value}
use Rattle.kc_expr.specs.Tree.{Tree, Number, Chars, Name, Here, One, Two}
use Rattle.kc_source_statement.specs.Trees.{ItemTree}
use Rattle.kc_source_statement.specs.Trees as trees
use Rattle.kc_obj_module.specs.Numbers.{Bases}
use Rattle.kc_asm_encode.specs.declared.relocatable_byte.RelocatableByte.{RelocatableByte}
use Rattle.kc_asm_encode.specs.declared.relocatable_byte.RelocatableByte.TheVariants.{Plain}
use Rattle.kc_asm_encode.specs.Filling.{address}
use Rattle.kc_asm_encode.specs.declared.word.Word.{Word}
use Rattle.kc_asm_encode.specs.declared.word.Word.TheVariants as words
use Rattle.kc_asm_encode.specs.declared.word.RelocatableInsn.{RelocatableInsn}
use Rattle.kc_asm_encode.specs.Words.{operand_of, insn_of}
use Rattle.kc_asm_encode.specs.RelocatableBytes.{byte_of, word_of, operand_relocatables, opcode_relocatable, laid_relocatables, row_relocatables, insn_relocatables}
use Rattle.kc_asm_encode.specs.Values.{or_zero}
use Rattle.kc_asm_emit.specs.Arguments.{Look, value_of}
use Rattle.kc_asm_emit.specs.Content.{item_relocatables, data_relocatables, long_relocatables}
use Rattle.kc_asm.specs.Saying.{number_of, word_bytes, long_bytes, item_bytes}

-- ---- an instruction

operand_length : (b : Bases) (next : ℕ) (form : Form) (byte : Bool) (w : Word) → length (operand_relocatables form byte w) ≡ length (operand_bytes form byte (operand_of b next w))
operand_length b next form byte words.Absent = refl
operand_length b next form byte (words.Register v) = refl
operand_length b next Mode true (words.Immediate v) = refl
operand_length b next Mode false (words.Immediate v) = refl
operand_length b next NoOperand byte (words.Immediate v) = refl
operand_length b next ShiftCount byte (words.Immediate v) = refl
operand_length b next Distance11 byte (words.Immediate v) = refl
operand_length b next Distance8 byte (words.Immediate v) = refl
operand_length b next Distance16 byte (words.Immediate v) = refl
operand_length b next OneByte byte (words.Immediate v) = refl
operand_length b next form byte (words.Indirect v) = refl
operand_length b next form byte (words.Increment v) = refl
operand_length b next form byte (words.Short base offset) = refl
operand_length b next form byte (words.Long base offset) = refl
operand_length b next form byte (words.Count v) = refl
operand_length b next NoOperand byte (words.Jump v) = refl
operand_length b next Mode byte (words.Jump v) = refl
operand_length b next ShiftCount byte (words.Jump v) = refl
operand_length b next Distance11 byte (words.Jump v) = refl
operand_length b next Distance8 byte (words.Jump v) = refl
operand_length b next Distance16 byte (words.Jump v) = refl
operand_length b next OneByte byte (words.Jump v) = refl

prefix_length : (b : Bases) (n : ℕ) (vs : List Value) → length (map byte_of (take n vs)) ≡ length (take n (map (address b) vs))
prefix_length b n vs = length-map (take n vs) byte_of ∙ (sym (length-map (take n vs) (address b)) ∙ ap (λ (l : List ℕ). length l) (sym (take-map (address b) n vs)))

back_length : (b : Bases) (m n : ℕ) (vs : List Value) → length (map byte_of (take n (drop m vs))) ≡ length (take n (drop m (map (address b) vs)))
back_length b m n vs = prefix_length b n (drop m vs) ∙ ap (λ (l : List ℕ). length (take n l)) (sym (drop-map (address b) m vs))

laid_length : (b : Bases) (next : ℕ) (l : Layout) (byte : Bool) (w : RelocatableInsn) → length (laid_relocatables l byte w) ≡ length (laid_bytes l byte (insn_of b next w))
laid_length b next l byte w =
    let i : Insn = insn_of b next w in
    let a = length-append (map byte_of (take l.before w.regs)) (operand_relocatables l.form byte w.operand ++ map byte_of (take l.after (drop l.before w.regs))) in
    let c = length-append (operand_relocatables l.form byte w.operand) (map byte_of (take l.after (drop l.before w.regs))) in
    let d = length-append (take l.before i.regs) (operand_bytes l.form byte i.operand ++ take l.after (drop l.before i.regs)) in
    let e = length-append (operand_bytes l.form byte i.operand) (take l.after (drop l.before i.regs)) in
    let f = prefix_length b l.before w.regs in
    let g = operand_length b next l.form byte w.operand in
    let h = back_length b l.before l.after w.regs in
    omega arith

row_length : (b : Bases) (next : ℕ) (w : RelocatableInsn) (row : Shown) → length (row_relocatables w row) ≡ length (row_spelling (insn_of b next w) row)
row_length b next w row = by w.signed
  where
    by : (t : Bool) → length (map Plain (prefix t) ++ (opcode_relocatable (layout_of row.shape).form w.opcode w.operand ∷ laid_relocatables (layout_of row.shape) (is_byte row.width) w))
        ≡ length (prefix t ++ (w.opcode + high_bits (layout_of row.shape).form (operand_of b next w.operand)) ∷ laid_bytes (layout_of row.shape) (is_byte row.width) (insn_of b next w))
    by true = ap (λ (n : ℕ). suc (suc n)) (laid_length b next (layout_of row.shape) (is_byte row.width) w)
    by false = ap (λ (n : ℕ). suc n) (laid_length b next (layout_of row.shape) (is_byte row.width) w)

pub insn_spelled : (b : Bases) (next : ℕ) (w : RelocatableInsn) → length (insn_relocatables w) ≡ length (spelling (insn_of b next w))
insn_spelled b next w = by (row_at w.opcode w.signed)
  where
    by : (o : Option Shown) → length (elim o as (λ _. List RelocatableByte) [ None ↦ [] | Some row ↦ row_relocatables w row ]) ≡ length (elim o as (λ _. List ℕ) [ None ↦ [] | Some row ↦ row_spelling (insn_of b next w) row ])
    by None = refl
    by (Some row) = row_length b next w row

pub insn_length : (b : Bases) (next : ℕ) (w : RelocatableInsn) → length (insn_of b next w).regs ≡ 3 → length (insn_relocatables w) ≡ length_of (insn_of b next w)
insn_length b next w three = insn_spelled b next w ∙ spelled_count (insn_of b next w) three

-- ---- data

long_length : (b : Bases) (look : Look) (x : Tree) → length (long_relocatables look x) ≡ length (long_bytes b look x)
long_length b look (Number n) = length-map (to_le_bytes w32 n) Plain
long_length b look (Chars cs) = refl
long_length b look (Name n) = refl
long_length b look Here = refl
long_length b look (One op e) = refl
long_length b look (Two op d e) = refl

item_length : (b : Bases) (look : Look) (size : ℕ) (i : ItemTree) → length (item_relocatables look size i) ≡ length (item_bytes b look size i)
item_length b look size (trees.Chars cs) = length-map cs Plain
item_length b look size (trees.Value x) = by (size == 1) (size == 2)
  where
    by : (s t : Bool) → length (if s then byte_of (or_zero (value_of look x)) ∷ [] else (if t then word_of 0 (or_zero (value_of look x)) else long_relocatables look x))
        ≡ length (if s then number_of b look x ∷ [] else (if t then word_bytes (number_of b look x) else long_bytes b look x))
    by true t = refl
    by false true = refl
    by false false = long_length b look x

pub data_length : (b : Bases) (look : Look) (size : ℕ) (items : List ItemTree) → length (data_relocatables look size items) ≡ length (flat_map (item_bytes b look size) items)
data_length b look size [] = refl
data_length b look size (i ∷ items) =
    let f = length-append (item_relocatables look size i) (data_relocatables look size items) in
    let g = length-append (item_bytes b look size i) (flat_map (item_bytes b look size) items) in
    let h = item_length b look size i in
    let k = data_length b look size items in
    omega arith

-- The bytes of statements are relocatable bytes over the bases that are known.
use Rattle.std.proofs.Common.{◌≡◌, ℕ, zero, suc, ◌<◌, ◌%◌, Bool, true, false, cond, ◌&&◌, List, [], ◌∷◌, ◌++◌, take, drop, map, refl, subst}
use Rattle.std.specs.Prelude.{◌==◌, ◌||◌, not, is_some, Option, Some, None, Ok, Err}
use Rattle.std.specs.Int.{w32, to_le_bytes}
use Rattle.std.specs.List.{list_all}
use Rattle.std.proofs.lemmas.List.Folds.{list_all-append}
use Rattle.kc_expr.specs.declared.values.Base.{Base}
use Rattle.kc_expr.specs.declared.values.Base.TheVariants as bases
use Rattle.kc_expr.specs.declared.values.Value.{Value}
use Rattle.kc_expr.specs.Tree.{Tree, Number, Chars, Name, Here, One, Two}
use Rattle.kc_expr.specs.Meaning.{Answer, answer_by, plain}
use Rattle.kc_expr.specs.Known.{is_known}
use Rattle.kc_expr.proofs.KnownLemmas.{answer_known}
use Rattle.kc_source_statement.specs.Trees.{ItemTree, ArgTree, ActionTree}
use Rattle.kc_source_statement.specs.Trees as trees
use Rattle.kc_isa.specs.declared.layout.Form.{Form as Bytes}
use Rattle.kc_isa.specs.declared.layout.Form.TheVariants.{Mode, Distance11, Distance16}
use Rattle.kc_isa.specs.declared.layout.Layout.{Layout}
use Rattle.kc_isa.specs.declared.table.Shape.{Shape}
use Rattle.kc_isa.specs.declared.table.Shape.TheVariants as shapes
use Rattle.kc_isa.specs.Names.{Shown, row_at}
use Rattle.kc_isa.specs.Table.{plain_entry}
use Rattle.kc_isa.specs.Layout.{layout_of}
use Rattle.kc_isa.specs.Formed.{is_byte}
use Rattle.kc_code.specs.Spelling.{prefix}
use Rattle.kc_lex.specs.Instructions.{least}
use Rattle.kc_asm_encode.specs.declared.relocatable_byte.RelocatableByte.{RelocatableByte}
use Rattle.kc_asm_encode.specs.declared.relocatable_byte.RelocatableByte.TheVariants as relocatable_bytes
use Rattle.kc_asm_encode.specs.declared.argument.Argument.{Argument}
use Rattle.kc_asm_encode.specs.declared.argument.Argument.TheVariants as arg
use Rattle.kc_branch.specs.declared.piece.Form.{Form}
use Rattle.kc_branch.specs.declared.piece.Form.TheVariants as forms
use Rattle.kc_branch.specs.declared.piece.BranchKind.{BranchKind}
use Rattle.kc_branch.specs.declared.piece.BranchKind.TheVariants as kinds
use Rattle.kc_asm_encode.specs.declared.word.Word.{Word}
use Rattle.kc_asm_encode.specs.declared.word.Word.TheVariants.{Absent, Register, Immediate, Indirect, Increment, Short, Long, Count, Jump}
use Rattle.kc_asm_encode.specs.declared.word.RelocatableInsn.{RelocatableInsn}
use Rattle.kc_asm_encode.specs.Values.{or_zero, moved, is_direct, is_short, argument, value_of}
use Rattle.kc_asm_encode.specs.Opcodes.{low_bits, wanted_bits}
use Rattle.kc_asm_encode.specs.Sources.{plain_source, indexed_source, source}
use Rattle.kc_asm_encode.specs.Branches.{Line, line, branch_kind, branch_lines, in_full}
use Rattle.kc_asm_encode.specs.Instructions.{operand_for, regs_for, laid, instructions}
use Rattle.kc_asm_encode.specs.RelocatableBytes.{byte_of, word_of, immediate_relocatables, jump_relocatables, operand_relocatables, opcode_relocatable, row_relocatables, insn_relocatables, all_relocatable_bytes}
use Rattle.kc_asm_encode.specs.Suits.{EachOf}
use Rattle.kc_asm_encode.proofs.Found.{IsLaid}
use Rattle.kc_asm_encode.proofs.Lengths.{not_some}
use Rattle.kc_asm_encode.proofs.Most.{is_near, near_signed, none_signed, is_high, high_is_near}
use Rattle.kc_asm_encode.proofs.Evens.{EachLine, each_line}
use Rattle.kc_asm_emit.specs.Arguments as contents
use Rattle.kc_asm_emit.specs.Content.{long_relocatables, item_relocatables, data_relocatables, reserved, upto, content}
use Rattle.kc_asm_emit.specs.Bases.{is_relocatable_byte, AreRelocatableBytes}

both : (x y : Bool) → (x && y) ≡ true → (x ≡ true) × (y ≡ true)
both true true h = (refl, refl)
both true false h = absurd cc
both false y h = absurd cc

join : (x y : Bool) → x ≡ true → y ≡ true → (x && y) ≡ true
join true true h k = refl
join true false h k = absurd cc
join false y h k = absurd cc

all-append : {X : Type 0} (p : X → Bool) (xs ys : List X) → list_all p xs ≡ true → list_all p ys ≡ true → list_all p (xs ++ ys) ≡ true
all-append p xs ys h k = rw (list_all-append p xs ys) (join (list_all p xs) (list_all p ys) h k)

all-take : {X : Type 0} (p : X → Bool) (n : ℕ) (xs : List X) → list_all p xs ≡ true → list_all p (take n xs) ≡ true
all-take p zero xs h = refl
all-take p (suc n) [] h = refl
all-take p (suc n) (x ∷ xs) h = join (p x) (list_all p (take n xs)) (both (p x) (list_all p xs) h).0 (all-take p n xs (both (p x) (list_all p xs) h).1)

all-drop : {X : Type 0} (p : X → Bool) (n : ℕ) (xs : List X) → list_all p xs ≡ true → list_all p (drop n xs) ≡ true
all-drop p zero xs h = h
all-drop p (suc n) [] h = refl
all-drop p (suc n) (x ∷ xs) h = all-drop p n xs (both (p x) (list_all p xs) h).1

-- ---- jumps of 11 bits

abbrev is_jump : ℕ → Bool
is_jump opcode = (opcode == 32) || (opcode == 40)

abbrev near_other : ℕ → Bool
near_other opcode = elim (row_at opcode false) [ None ↦ false | Some row ↦ is_near row.shape && ((opcode % 8 == 0) && not (is_jump opcode)) ]

none_other : not (is_some (least near_other 256 0)) ≡ true
unfolding least row_at plain_entry
none_other = refl

true-or-not : (t : Bool) → (t ≡ false → ⊥) → t ≡ true
true-or-not true h = refl
true-or-not false h = absurd (h refl)

near_jump : (opcode : ℕ) (signed : Bool) (row : Shown) → opcode < 256 → row_at opcode signed ≡ Some row → is_near row.shape ≡ true → (opcode % 8 == 0) ≡ true → is_jump opcode ≡ true
near_jump opcode true row b e n z =
    let p : near_signed opcode ≡ true = rw (e, near_signed) n in
    absurd (not_some near_signed opcode none_signed b p)
near_jump opcode false row b e n z =
    true-or-not (is_jump opcode) (λ f.
    (let p : near_other opcode ≡ true = rw (e, near_other) (rw (n, z, f) refl) in
    not_some near_other opcode none_other b p))

near_bits : (shape : Shape) (opcode : ℕ) (args : List Argument) → is_near shape ≡ true → (low_bits shape opcode == wanted_bits shape args) ≡ true → (opcode % 8 == 0) ≡ true
near_bits shapes.Near opcode args n h = h
near_bits shape opcode args n h = absurd (cc n)

-- ---- values

abbrev Known : (Base → Bool) → Option Value → Type 0
Known known None = Unit {0}
Known known (Some v) = known v.base ≡ true

abbrev KnownArgument : (Base → Bool) → Argument → Type 0
KnownArgument known (arg.Plain x) = Known known x
KnownArgument known (arg.Immediate x) = Known known x
KnownArgument known (arg.Indirect r) = Known known r
KnownArgument known (arg.Increment r) = Known known r
KnownArgument known (arg.Indexed x r) = Known known x × Known known r

abbrev KnownArguments : (Base → Bool) → List Argument → Type 0
KnownArguments known [] = Unit {0}
KnownArguments known (a ∷ args) = KnownArgument known a × KnownArguments known args

abbrev KnownWord : (Base → Bool) → Word → Type 0
KnownWord known Absent = Unit {0}
KnownWord known (Register v) = known v.base ≡ true
KnownWord known (Immediate v) = known v.base ≡ true
KnownWord known (Indirect v) = known v.base ≡ true
KnownWord known (Increment v) = known v.base ≡ true
KnownWord known (Short base offset) = known base.base ≡ true
KnownWord known (Long base offset) = (known base.base ≡ true) × (known offset.base ≡ true)
KnownWord known (Count v) = known v.base ≡ true
KnownWord known (Jump v) = known v.base ≡ true

module _ (known : Base → Bool) (fixed : known bases.Fixed ≡ true) where
  zero_known : (x : Option Value) → Known known x → known (or_zero x).base ≡ true
  zero_known None h = fixed
  zero_known (Some v) h = h

  argument_known : (args : List Argument) (n : ℕ) → KnownArguments known args → KnownArgument known (argument args n)
  argument_known [] n h = tt
  argument_known (a ∷ args) zero h = h.0
  argument_known (a ∷ args) (suc n) h = argument_known args n h.1

  value_known : (a : Argument) → KnownArgument known a → known (value_of a).base ≡ true
  value_known (arg.Plain x) h = zero_known x h
  value_known (arg.Immediate x) h = zero_known x h
  value_known (arg.Indirect r) h = zero_known r h
  value_known (arg.Increment r) h = zero_known r h
  value_known (arg.Indexed x r) h = zero_known x h.0

  at_known : (args : List Argument) (n : ℕ) → KnownArguments known args → known (value_of (argument args n)).base ≡ true
  at_known args n h = value_known (argument args n) (argument_known args n h)

  plain_known : (x : Option Value) (t : Bool) → is_direct x ≡ t → Known known x → KnownWord known (plain_source x)
  plain_known x true e h = rw e (zero_known x h)
  plain_known x false e h = rw e (fixed, zero_known x h)

  indexed_known : (x r : Option Value) (t : Bool) → is_short x ≡ t → Known known x → Known known r → KnownWord known (indexed_source x r)
  indexed_known x r true e h k = rw e (zero_known r k)
  indexed_known x r false e h k = rw e (zero_known r k, zero_known x h)

  source_known : (a : Argument) → KnownArgument known a → KnownWord known (source a)
  source_known (arg.Plain x) h = plain_known x (is_direct x) refl h
  source_known (arg.Immediate x) h = zero_known x h
  source_known (arg.Indirect r) h = zero_known r h
  source_known (arg.Increment r) h = zero_known r h
  source_known (arg.Indexed x r) h = indexed_known x r (is_short x) refl h.0 h.1

  operand_known : (shape : Shape) (args : List Argument) → KnownArguments known args → KnownWord known (operand_for shape args)
  operand_known shapes.Nothing args h = tt
  operand_known shapes.One args h = tt
  operand_known shapes.Two args h = tt
  operand_known shapes.Four args h = source_known (argument args 0) (argument_known args 0 h)
  operand_known shapes.FourOne args h = source_known (argument args 1) (argument_known args 1 h)
  operand_known shapes.FourTwo args h = source_known (argument args 2) (argument_known args 2 h)
  operand_known shapes.Exchange args h = source_known (argument args 1) (argument_known args 1 h)
  operand_known shapes.CountOne args h = at_known args 1 h
  operand_known shapes.Near args h = at_known args 0 h
  operand_known shapes.Conditional args h = at_known args 0 h
  operand_known shapes.BitTest args h = at_known args 2 h
  operand_known shapes.Loop args h = at_known args 1 h
  operand_known shapes.TableJump args h = tt
  operand_known shapes.Far args h = at_known args 0 h
  operand_known shapes.Key args h = at_known args 0 h

  abbrev AllKnown : List Value → Type 0
  AllKnown vs = list_all (λ v. known v.base) vs ≡ true

  three : (a b c : Value) → known a.base ≡ true → known b.base ≡ true → known c.base ≡ true → AllKnown (a ∷ b ∷ c ∷ [])
  three a b c h k l = rw (h, k, l) refl

  none_known : AllKnown (regs_for shapes.Nothing [])
  none_known = rw fixed refl

  regs_known : (shape : Shape) (args : List Argument) → KnownArguments known args → AllKnown (regs_for shape args)
  regs_known shapes.One args h = three (value_of (argument args 0)) (plain 0) (plain 0) (at_known args 0 h) fixed fixed
  regs_known shapes.Two args h = three (value_of (argument args 1)) (value_of (argument args 0)) (plain 0) (at_known args 1 h) (at_known args 0 h) fixed
  regs_known shapes.FourOne args h = three (value_of (argument args 0)) (plain 0) (plain 0) (at_known args 0 h) fixed fixed
  regs_known shapes.FourTwo args h = three (value_of (argument args 1)) (value_of (argument args 0)) (plain 0) (at_known args 1 h) (at_known args 0 h) fixed
  regs_known shapes.Exchange args h = three (value_of (argument args 0)) (plain 0) (plain 0) (at_known args 0 h) fixed fixed
  regs_known shapes.CountOne args h = three (value_of (argument args 0)) (plain 0) (plain 0) (at_known args 0 h) fixed fixed
  regs_known shapes.BitTest args h = three (value_of (argument args 0)) (plain 0) (plain 0) (at_known args 0 h) fixed fixed
  regs_known shapes.Loop args h = three (value_of (argument args 0)) (plain 0) (plain 0) (at_known args 0 h) fixed fixed
  regs_known shapes.TableJump args h = three (value_of (argument args 1)) (value_of (argument args 2)) (value_of (argument args 0)) (at_known args 1 h) (at_known args 2 h) (at_known args 0 h)
  regs_known shapes.Nothing args h = none_known
  regs_known shapes.Four args h = none_known
  regs_known shapes.Near args h = none_known
  regs_known shapes.Conditional args h = none_known
  regs_known shapes.Far args h = none_known
  regs_known shapes.Key args h = none_known

  -- ---- bytes

  abbrev Are : List RelocatableByte → Type 0
  Are os = list_all (is_relocatable_byte known) os ≡ true

  plain_are : (bs : List ℕ) → Are (map relocatable_bytes.Plain bs)
  plain_are [] = refl
  plain_are (b ∷ bs) = plain_are bs

  byte_is : (v : Value) → known v.base ≡ true → Are (byte_of v ∷ [])
  byte_is v h = rw h refl

  word_is : (v : Value) → known v.base ≡ true → Are (word_of 0 v)
  word_is v h = rw h refl

  bytes_are : (vs : List Value) → AllKnown vs → Are (map byte_of vs)
  bytes_are [] h = refl
  bytes_are (v ∷ vs) h =
      let p : (known v.base ≡ true) × AllKnown vs = both (known v.base) (list_all (λ v. known v.base) vs) h in
      join (known v.base) (list_all (is_relocatable_byte known) (map byte_of vs)) p.0 (bytes_are vs p.1)

  immediate_are : (form : Bytes) (byte : Bool) (v : Value) → known v.base ≡ true → Are (immediate_relocatables form byte v)
  immediate_are Mode true v h = byte_is v h
  immediate_are Mode false v h = word_is v h
  immediate_are form byte v h = byte_is v h

  jump_are : (form : Bytes) (v : Value) → known v.base ≡ true → Are (jump_relocatables form v)
  jump_are Distance16 v h = rw h refl
  jump_are Distance11 v h = refl
  jump_are form v h = rw h refl

  operand_are : (form : Bytes) (byte : Bool) (o : Word) → KnownWord known o → Are (operand_relocatables form byte o)
  operand_are form byte Absent h = refl
  operand_are form byte (Register v) h = byte_is v h
  operand_are form byte (Immediate v) h = immediate_are form byte v h
  operand_are form byte (Indirect v) h = byte_is v h
  operand_are form byte (Increment v) h = byte_is (moved v 1) h
  operand_are form byte (Short base offset) h = rw h refl
  operand_are form byte (Long base offset) h = join (known base.base) (list_all (is_relocatable_byte known) (word_of 0 offset)) h.0 (word_is offset h.1)
  operand_are form byte (Count v) h = byte_is v h
  operand_are form byte (Jump v) h = jump_are form v h

  opcode_is : (form : Bytes) (opcode : ℕ) (o : Word) → (is_high form ≡ true → is_jump opcode ≡ true) → KnownWord known o → is_relocatable_byte known (opcode_relocatable form opcode o) ≡ true
  opcode_is Distance11 opcode (Jump v) j h = rw (j refl, h) refl
  opcode_is Distance11 opcode o j h = refl
  opcode_is form opcode o j h = refl

  row_are : (opcode : ℕ) (signed : Bool) (args : List Argument) (row : Shown) → (is_high (layout_of row.shape).form ≡ true → is_jump opcode ≡ true) → KnownArguments known args
      → Are (row_relocatables (laid opcode signed args row.shape) row)
  row_are opcode signed args row j h =
      let l : Layout = layout_of row.shape in
      let regs : List Value = regs_for row.shape args in
      let F : List RelocatableByte = map byte_of (take l.before regs) in
      let O : List RelocatableByte = operand_relocatables l.form (is_byte row.width) (operand_for row.shape args) in
      let B : List RelocatableByte = map byte_of (take l.after (drop l.before regs)) in
      let r : AllKnown regs = regs_known row.shape args h in
      all-append (is_relocatable_byte known) (map relocatable_bytes.Plain (prefix signed)) (opcode_relocatable l.form opcode (operand_for row.shape args) ∷ (F ++ (O ++ B))) (plain_are (prefix signed))
      (join (is_relocatable_byte known (opcode_relocatable l.form opcode (operand_for row.shape args))) (list_all (is_relocatable_byte known) (F ++ (O ++ B)))
      (opcode_is l.form opcode (operand_for row.shape args) j (operand_known row.shape args h))
      (all-append (is_relocatable_byte known) F (O ++ B) (bytes_are (take l.before regs) (all-take (λ v. known v.base) l.before regs r))
      (all-append (is_relocatable_byte known) O B (operand_are l.form (is_byte row.width) (operand_for row.shape args) (operand_known row.shape args h))
      (bytes_are (take l.after (drop l.before regs)) (all-take (λ v. known v.base) l.after (drop l.before regs) (all-drop (λ v. known v.base) l.before regs r))))))

  insn_are : (word : List ℕ) (args : List Argument) (w : RelocatableInsn) → KnownArguments known args → IsLaid word args w → Are (insn_relocatables w)
  insn_are word args w h l =
      let j : is_high (layout_of l.row.shape).form ≡ true → is_jump l.opcode ≡ true = λ n.
      (let near : is_near l.row.shape ≡ true = high_is_near l.row.shape n in
      near_jump l.opcode l.signed l.row l.below l.at near (near_bits l.row.shape l.opcode args near (both _ _ (both _ _ l.fits).1).1)) in
      let p : Are (insn_relocatables (laid l.opcode l.signed args l.row.shape)) = rw (l.at, insn_relocatables) (row_are l.opcode l.signed args l.row j h) in
      subst (λ (v : RelocatableInsn). Are (insn_relocatables v)) l.is p

  -- ---- lines

  abbrev KnownLine : List ℕ → List Argument → Type 0
  KnownLine word args = KnownArguments known args

  branch_known : (kind : BranchKind) (word : List ℕ) (args : List Argument) (form : Form) (here : Value) → known here.base ≡ true → KnownArguments known args
      → EachLine KnownLine (branch_lines kind word args form here)
  branch_known kinds.Jump word args forms.First here k h = ((argument_known args 0 h, tt), tt)
  branch_known kinds.Jump word args forms.Second here k h = ((argument_known args 0 h, tt), tt)
  branch_known kinds.Jump word args forms.Third here k h = ((argument_known args 0 h, tt), tt)
  branch_known kinds.Call word args forms.First here k h = ((argument_known args 0 h, tt), tt)
  branch_known kinds.Call word args forms.Second here k h = ((argument_known args 0 h, tt), tt)
  branch_known kinds.Call word args forms.Third here k h = ((argument_known args 0 h, tt), tt)
  branch_known kinds.Conditional word args forms.First here k h = ((argument_known args 0 h, tt), tt)
  branch_known kinds.Conditional word args forms.Second here k h = ((k, tt), ((argument_known args 0 h, tt), tt))
  branch_known kinds.Conditional word args forms.Third here k h = ((k, tt), ((argument_known args 0 h, tt), tt))
  branch_known kinds.BitTest word args forms.First here k h = ((argument_known args 0 h, (argument_known args 1 h, (argument_known args 2 h, tt))), tt)
  branch_known kinds.BitTest word args forms.Second here k h = ((argument_known args 0 h, (argument_known args 1 h, (k, tt))), ((argument_known args 2 h, tt), tt))
  branch_known kinds.BitTest word args forms.Third here k h = ((argument_known args 0 h, (argument_known args 1 h, (k, tt))), ((argument_known args 2 h, tt), tt))

  full_known : (word : List ℕ) (args : List Argument) (form : Form) (here : Value) (b : Option BranchKind) → known here.base ≡ true → KnownArguments known args
      → EachLine KnownLine (elim b as (λ _. List Line) [ None ↦ line word args ∷ [] | Some kind ↦ branch_lines kind word args form here ])
  full_known word args form here None k h = (h, tt)
  full_known word args form here (Some kind) k h = branch_known kind word args form here k h

  each_are : (ws : List RelocatableInsn) → EachOf (λ w. Are (insn_relocatables w)) ws → Are (all_relocatable_bytes ws)
  each_are [] h = refl
  each_are (w ∷ ws) h = all-append (is_relocatable_byte known) (insn_relocatables w) (all_relocatable_bytes ws) h.0 (each_are ws h.1)

  operation_are : (word : List ℕ) (args : List Argument) (form : Form) (here : Value) → known here.base ≡ true → KnownArguments known args → Are (all_relocatable_bytes (instructions word args form here))
  unfolding instructions
  operation_are word args form here k h =
      each_are (instructions word args form here)
      (each_line (λ (w : RelocatableInsn). Are (insn_relocatables w)) KnownLine insn_are (in_full word args form here) (full_known word args form here (branch_kind word args) k h))

-- ---- statements

module _ (known : Base → Bool) (fixed : known bases.Fixed ≡ true) (absolute : known bases.Absolute ≡ true) (look : contents.Look) (names : (name : List ℕ) → is_known known (look name) ≡ true) where
  in_known : (a : Answer) → is_known known a ≡ true → Known known (contents.value_in a)
  in_known (Ok v) h = h
  in_known (Err fault) h = tt

  of_known : (x : Tree) → Known known (contents.value_of look x)
  of_known x = in_known (answer_by look x) (answer_known known fixed absolute look names x)

  given_known : (a : ArgTree) → KnownArgument known (contents.argument look a)
  given_known (trees.Plain x) = of_known x
  given_known (trees.Immediate x) = of_known x
  given_known (trees.Indirect r) = of_known r
  given_known (trees.Increment r) = of_known r
  given_known (trees.Indexed x r) = (of_known x, of_known r)

  arguments_known : (args : List ArgTree) → KnownArguments known (contents.arguments look args)
  arguments_known [] = tt
  arguments_known (a ∷ args) = (given_known a, arguments_known args)

  or_known : (x : Tree) → known (or_zero (contents.value_of look x)).base ≡ true
  or_known x = zero_known known fixed (contents.value_of look x) (of_known x)

  wide_is : (v : Value) → known v.base ≡ true → list_all (is_relocatable_byte known) (word_of 0 v ++ (relocatable_bytes.Plain 0 ∷ relocatable_bytes.Plain 0 ∷ [])) ≡ true
  wide_is v h = rw h refl

  long_are : (x : Tree) → list_all (is_relocatable_byte known) (long_relocatables look x) ≡ true
  long_are (Number n) = plain_are known fixed (to_le_bytes w32 n)
  long_are (Chars cs) = wide_is (or_zero (contents.value_of look (Chars cs))) (or_known (Chars cs))
  long_are (Name n) = wide_is (or_zero (contents.value_of look (Name n))) (or_known (Name n))
  long_are Here = wide_is (or_zero (contents.value_of look Here)) (or_known Here)
  long_are (One op e) = wide_is (or_zero (contents.value_of look (One op e))) (or_known (One op e))
  long_are (Two op a b) = wide_is (or_zero (contents.value_of look (Two op a b))) (or_known (Two op a b))

  chosen_are : (byte word : Bool) (a b c : List RelocatableByte) → list_all (is_relocatable_byte known) a ≡ true → list_all (is_relocatable_byte known) b ≡ true → list_all (is_relocatable_byte known) c ≡ true
      → list_all (is_relocatable_byte known) (cond byte a (cond word b c)) ≡ true
  chosen_are true word a b c first second third = first
  chosen_are false true a b c first second third = second
  chosen_are false false a b c first second third = third

  item_are : (size : ℕ) (item : ItemTree) → list_all (is_relocatable_byte known) (item_relocatables look size item) ≡ true
  item_are size (trees.Chars cs) = plain_are known fixed cs
  item_are size (trees.Value x) =
      let v = or_zero (contents.value_of look x) in
      chosen_are (size == 1) (size == 2) (byte_of v ∷ []) (word_of 0 v) (long_relocatables look x) (byte_is known fixed v (or_known x)) (word_is known fixed v (or_known x)) (long_are x)

  data_are : (size : ℕ) (items : List ItemTree) → list_all (is_relocatable_byte known) (data_relocatables look size items) ≡ true
  data_are size [] = refl
  data_are size (i ∷ is) = all-append (is_relocatable_byte known) (item_relocatables look size i) (data_relocatables look size is) (item_are size i) (data_are size is)

  reserved_are : (size : ℕ) (count : Option ℕ) → AreRelocatableBytes known (reserved size count)
  reserved_are size None = tt
  reserved_are size (Some n) = tt

  upto_are : (place : Option ℕ) → AreRelocatableBytes known (upto place)
  upto_are None = tt
  upto_are (Some n) = tt

  pub content_are : (form : Form) (place : Value) → known place.base ≡ true → (action : ActionTree) → AreRelocatableBytes known (content look form place action)
  content_are form place k (trees.Define size items) = data_are size items
  content_are form place k (trees.Reserve size count) = reserved_are size (contents.fixed_of look count)
  content_are form place k (trees.Org x) = upto_are (contents.fixed_of look x)
  content_are form place k trees.Even = tt
  content_are form place k (trees.Operation word args) = operation_are known fixed word (contents.arguments look args) form place k (arguments_known args)
  content_are form place k trees.Bare = tt
  content_are form place k (trees.Module name stack) = tt
  content_are form place k (trees.Cseg at) = tt
  content_are form place k (trees.Dseg at) = tt
  content_are form place k (trees.Rseg at) = tt
  content_are form place k (trees.Sseg size) = tt
  content_are form place k (trees.Public names) = tt
  content_are form place k (trees.Extrn names) = tt
  content_are form place k (trees.Equ name x) = tt
  content_are form place k (trees.Set name x) = tt
  content_are form place k trees.End = tt

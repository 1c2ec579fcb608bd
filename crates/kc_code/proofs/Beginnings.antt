-- Which bytes are the beginning of an instruction, and that nothing behind one matters.
use Rattle.std.proofs.Common.{◌≡◌, ℕ, ◌+◌, ◌-◌, ◌*◌, ◌%◌, ◌≤◌, Bool, true, false, List, [], ◌∷◌, ◌++◌, Option, Some, None, refl, sym, ◌∙◌, ap, subst, arith, ◌⊎◌, inl, inr, length, take, drop, append_assoc, length-append, lit≤, lit<, ◌↔◌}
use Rattle.std.specs.Prelude.{◌==◌, if◌then◌else◌, ◌&&◌, ◌||◌, not}
use Rattle.std.specs.Int.{w8, w16, cast_signed}
use Rattle.std.proofs.lemmas.List.{append-nil, length-take-le, length-drop}
use Rattle.std.proofs.lemmas.Grind.{common_steps}
use Rattle.kc_isa.specs.declared.layout.Form.{Form}
use Rattle.kc_isa.specs.declared.layout.Form.TheVariants.{NoOperand, Mode, ShiftCount, Distance11, Distance8, Distance16, OneByte}
use Rattle.kc_isa.specs.declared.layout.Layout.{Layout}
use Rattle.kc_isa.specs.declared.insn.Operand.{Operand}
use Rattle.kc_isa.specs.declared.insn.Operand.TheVariants.{Absent, Reg, Imm, Indirect, Increment, Short, Long, Count, Disp}
use Rattle.kc_isa.specs.declared.insn.Insn.{Insn}
use Rattle.kc_isa.specs.Formed.{is_even, is_byte, is_formed, operand_length, length_of, row_length}
use Rattle.kc_isa.specs.declared.table.Shape.{Shape}
use Rattle.kc_isa.specs.declared.table.Shape.TheVariants.{Nothing, One, Two, Four, FourOne, FourTwo, Exchange, CountOne, Near, Conditional, BitTest, Loop, TableJump, Far, Key}
use Rattle.kc_isa.specs.Names.{Shown, row_at}
use Rattle.kc_isa.specs.Table.{plain_entry}
use Rattle.kc_isa.specs.Layout.{layout_of}
use Rattle.kc_code.specs.Spelling.{operand_bytes, high_bits, laid_bytes, prefix, row_spelling, spelling, is_in_range}
use Rattle.kc_code.specs.Reading.{◌>>=◌, regs_at, distance11, indirect_at, indexed_at, mode_at, operand_at, base_opcode, joined, laid_at, body_at, finished, no_row, with_row, behind_prefix, decode_of}
use Rattle.kc_code.specs.declared.reader.Decoded.{Decoded}
use Rattle.kc_code.specs.declared.reader.Decoded.TheVariants.{Insn as Whole, Unimplemented, Undefined, Short as Cut}
use Rattle.kc_base.specs.Bytes.{IsBytes}
use Rattle.kc_code.specs.Ranges.{InsnHas}
use Rattle.kc_code.specs.Beginning.{IsInFront, IsProperBeginning, is_gap, is_gap_behind, is_undefined, is_unimplemented, RestDoesNotMatter}
use Rattle.kc_code.proofs.Takes.{Read, read_is, taken}
use Rattle.kc_code.proofs.Again.{spelled_again}

-- the length of a spelling

operand_count : (form : Form) (byte : Bool) (o : Operand) → length (operand_bytes form byte o) ≡ operand_length form byte o
operand_count form byte Absent = refl
operand_count form byte (Reg r) = refl
operand_count NoOperand byte (Imm n) = refl
operand_count Mode true (Imm n) = refl
operand_count Mode false (Imm n) = refl
operand_count ShiftCount byte (Imm n) = refl
operand_count Distance11 byte (Imm n) = refl
operand_count Distance8 byte (Imm n) = refl
operand_count Distance16 byte (Imm n) = refl
operand_count OneByte byte (Imm n) = refl
operand_count form byte (Indirect r) = refl
operand_count form byte (Increment r) = refl
operand_count form byte (Short base offset) = refl
operand_count form byte (Long base offset) = refl
operand_count form byte (Count n) = refl
operand_count NoOperand byte (Disp d) = refl
operand_count Mode byte (Disp d) = refl
operand_count ShiftCount byte (Disp d) = refl
operand_count Distance11 byte (Disp d) = refl
operand_count Distance8 byte (Disp d) = refl
operand_count Distance16 byte (Disp d) = refl
operand_count OneByte byte (Disp d) = refl

few_registers : (s : Shape) → (layout_of s).before + (layout_of s).after ≤ 3
few_registers Nothing = lit≤ tt
few_registers One = lit≤ tt
few_registers Two = lit≤ tt
few_registers Four = lit≤ tt
few_registers FourOne = lit≤ tt
few_registers FourTwo = lit≤ tt
few_registers Exchange = lit≤ tt
few_registers CountOne = lit≤ tt
few_registers Near = lit≤ tt
few_registers Conditional = lit≤ tt
few_registers BitTest = lit≤ tt
few_registers Loop = lit≤ tt
few_registers TableJump = lit≤ tt
few_registers Far = lit≤ tt
few_registers Key = lit≤ tt

laid_count : (l : Layout) (byte : Bool) (i : Insn) → length i.regs ≡ 3 → l.before + l.after ≤ 3
    → length (laid_bytes l byte i) ≡ l.before + operand_length l.form byte i.operand + l.after
laid_count l byte i three few =
    let beginning : length (take l.before i.regs) ≡ l.before = length-take-le l.before i.regs (omega arith) in
    let left : length (drop l.before i.regs) ≡ length i.regs - l.before = length-drop l.before i.regs in
    let back : length (take l.after (drop l.before i.regs)) ≡ l.after = length-take-le l.after (drop l.before i.regs) (omega arith) in
    let first = length-append (take l.before i.regs) (operand_bytes l.form byte i.operand ++ take l.after (drop l.before i.regs)) in
    let second = length-append (operand_bytes l.form byte i.operand) (take l.after (drop l.before i.regs)) in
    let middle = operand_count l.form byte i.operand in
    omega arith

row_count : (i : Insn) (row : Shown) → length i.regs ≡ 3 → length (row_spelling i row) ≡ row_length i row
row_count i row three = at_prefix i.signed
  where
    laid : length (laid_bytes (layout_of row.shape) (is_byte row.width) i) ≡ (layout_of row.shape).before + operand_length (layout_of row.shape).form (is_byte row.width) i.operand + (layout_of row.shape).after
    laid = laid_count (layout_of row.shape) (is_byte row.width) i three (few_registers row.shape)

    at_prefix : (t : Bool) → length (prefix t ++ ((i.opcode + high_bits (layout_of row.shape).form i.operand) ∷ laid_bytes (layout_of row.shape) (is_byte row.width) i))
        ≡ (if t then 2 else 1) + (layout_of row.shape).before + operand_length (layout_of row.shape).form (is_byte row.width) i.operand + (layout_of row.shape).after
    at_prefix true = omega (arith, laid)
    at_prefix false = omega (arith, laid)

pub spelled_count : (i : Insn) → length i.regs ≡ 3 → length (spelling i) ≡ length_of i
spelled_count i three = at_row (row_at i.opcode i.signed)
  where
    at_row : (o : Option Shown) → (let text : List ℕ = elim o [ None ↦ [] | Some row ↦ row_spelling i row ] in length text) ≡ (elim o [ None ↦ 0 | Some row ↦ row_length i row ])
    at_row None = refl
    at_row (Some row) = row_count i row three

pub in_front : (bytes : List ℕ) (i : Insn) (n : ℕ) → IsBytes bytes → decode_of bytes ≡ Whole i n → IsInFront bytes i n
in_front bytes i n b h =
    let r = read_is bytes i n b h in
    let whole : length bytes ≡ length (spelling i) + length r.rest = ap length r.whole ∙ length-append (spelling i) r.rest in
    let count : length (spelling i) ≡ length_of i = spelled_count i r.has.three in
    let length_is : n ≡ length bytes - length r.rest = r.length_is in
    record {
      formed = r.formed;
      in_range = r.in_range;
      has = r.has;
      reported = omega arith;
      within = omega arith;
      spelled = taken bytes i n r;
    }

-- nothing behind an instruction matters

bare_row : (o : Option Shown) (bytes more : List ℕ) (opcode : ℕ) (signed : Bool) (rest rest2 : List ℕ) (d : Decoded) → (d ≡ Unimplemented) ⊎ (d ≡ Undefined)
    → with_row bytes opcode signed o rest ≡ d → with_row more opcode signed o rest2 ≡ d
bare_row None bytes more opcode signed rest rest2 d bare h = h
bare_row (Some row) bytes more opcode signed rest rest2 d bare h = absurd (never (body_at opcode signed row rest) h bare)
  where
    never : (q : Option (Insn × List ℕ)) → finished bytes q ≡ d → (d ≡ Unimplemented) ⊎ (d ≡ Undefined) → ⊥
    never None e (inl u) = cc (e, u)
    never None e (inr u) = cc (e, u)
    never (Some p) e (inl u) = cc (e, u)
    never (Some p) e (inr u) = cc (e, u)

bare_again : (bytes rest : List ℕ) (d : Decoded) → (d ≡ Unimplemented) ⊎ (d ≡ Undefined) → decode_of bytes ≡ d → decode_of (bytes ++ rest) ≡ d
bare_again [] rest d (inl u) h = absurd (cc (h, u))
bare_again [] rest d (inr u) h = absurd (cc (h, u))
bare_again (x ∷ xs) rest d bare h = at_test (x == 0xFE) h
  where
    behind : (ys : List ℕ) → behind_prefix (x ∷ xs) ys ≡ d → behind_prefix (x ∷ (xs ++ rest)) (ys ++ rest) ≡ d
    behind [] e = absurd (cut bare)
      where
        cut : (d ≡ Unimplemented) ⊎ (d ≡ Undefined) → ⊥
        cut (inl u) = cc (e, u)
        cut (inr u) = cc (e, u)
    behind (y ∷ ys) e = bare_row (row_at y true) (x ∷ xs) (x ∷ (xs ++ rest)) y true ys (ys ++ rest) d bare e

    at_test : (t : Bool) → (if t then behind_prefix (x ∷ xs) xs else with_row (x ∷ xs) x false (row_at x false) xs) ≡ d
        → (if t then behind_prefix (x ∷ (xs ++ rest)) (xs ++ rest) else with_row (x ∷ (xs ++ rest)) x false (row_at x false) (xs ++ rest)) ≡ d
    at_test true e = behind xs e
    at_test false e = bare_row (row_at x false) (x ∷ xs) (x ∷ (xs ++ rest)) x false xs (xs ++ rest) d bare e

whole_again : (bytes rest : List ℕ) (i : Insn) (n : ℕ) → IsBytes bytes → decode_of bytes ≡ Whole i n → decode_of (bytes ++ rest) ≡ Whole i n
whole_again bytes rest i n b h =
    let r = read_is bytes i n b h in
    let whole : length bytes ≡ length (spelling i) + length r.rest = ap length r.whole ∙ length-append (spelling i) r.rest in
    let length_is : n ≡ length bytes - length r.rest = r.length_is in
    let count : length (spelling i) ≡ n = omega arith in
    ap (λ t. decode_of (t ++ rest)) r.whole ∙ ap decode_of (append_assoc (spelling i) r.rest rest) ∙ spelled_again i (r.rest ++ rest) r.has r.formed r.in_range ∙ ap (Whole i) count

pub rest_is_free : RestDoesNotMatter
rest_is_free bytes rest b some = at_answer (decode_of bytes) refl
  where
    at_answer : (d : Decoded) → decode_of bytes ≡ d → decode_of (bytes ++ rest) ≡ decode_of bytes
    at_answer (Whole i n) h = whole_again bytes rest i n b h ∙ sym h
    at_answer Unimplemented h = bare_again bytes rest Unimplemented (inl refl) h ∙ sym h
    at_answer Undefined h = bare_again bytes rest Undefined (inr refl) h ∙ sym h
    at_answer Cut h = absurd (some h)

-- with enough bytes each part is read

record Got {A : Type 0} (o : Option (A × List ℕ)) (bytes : List ℕ) (n : ℕ) : Type 0 where
  pub part : A × List ℕ
  pub is : o ≡ Some part
  pub left : length bytes ≤ length part.1 + n

either : {A : Type 0} (t : Bool) (a b : Option (A × List ℕ)) (bytes : List ℕ) (n : ℕ) → Got a bytes n → Got b bytes n → Got (if t then a else b) bytes n
either true a b bytes n g h = g
either false a b bytes n g h = h

operand_enough : (form : Form) (opcode : ℕ) (byte : Bool) (x y z : ℕ) (rest : List ℕ) → Got (operand_at form opcode byte (x ∷ y ∷ z ∷ rest)) (x ∷ y ∷ z ∷ rest) 3
unfolding operand_at mode_at indirect_at indexed_at
operand_enough NoOperand opcode byte x y z rest = record { part = (Absent, x ∷ y ∷ z ∷ rest); is = refl; left = omega arith }
operand_enough Mode opcode byte x y z rest =
    either (opcode % 4 == 0) _ _ _ 3 (record { part = (Reg x, y ∷ z ∷ rest); is = refl; left = omega arith })
    (either (opcode % 4 == 1) _ _ _ 3
    (either byte _ _ _ 3 (record { part = (Imm x, y ∷ z ∷ rest); is = refl; left = omega arith }) (record { part = (Imm (x + 256 * y), z ∷ rest); is = refl; left = omega arith }))
    (either (opcode % 4 == 2) _ _ _ 3 (record { part = ((if is_even x then Indirect x else Increment (x - 1)), y ∷ z ∷ rest); is = refl; left = omega arith })
    (either (is_even x) _ _ _ 3 (record { part = (Short x (cast_signed w8 y), z ∷ rest); is = refl; left = omega arith }) (record { part = (Long (x - 1) (y + 256 * z), rest); is = refl; left = omega arith }))))
operand_enough ShiftCount opcode byte x y z rest = record { part = (Count x, y ∷ z ∷ rest); is = refl; left = omega arith }
operand_enough Distance11 opcode byte x y z rest = record { part = (Disp (distance11 (256 * (opcode % 8) + x)), y ∷ z ∷ rest); is = refl; left = omega arith }
operand_enough Distance8 opcode byte x y z rest = record { part = (Disp (cast_signed w8 x), y ∷ z ∷ rest); is = refl; left = omega arith }
operand_enough Distance16 opcode byte x y z rest = record { part = (Disp (cast_signed w16 (x + 256 * y)), z ∷ rest); is = refl; left = omega arith }
operand_enough OneByte opcode byte x y z rest = record { part = (Imm x, y ∷ z ∷ rest); is = refl; left = omega arith }

operand_got : (form : Form) (opcode : ℕ) (byte : Bool) (bytes : List ℕ) → 3 ≤ length bytes → Got (operand_at form opcode byte bytes) bytes 3
operand_got form opcode byte [] h = absurd (omega arith)
operand_got form opcode byte (x ∷ []) h = absurd (omega arith)
operand_got form opcode byte (x ∷ y ∷ []) h = absurd (omega arith)
operand_got form opcode byte (x ∷ y ∷ z ∷ rest) h = operand_enough form opcode byte x y z rest

abbrev GotRegs : ℕ → Type 0
GotRegs k = (bytes : List ℕ) → k ≤ length bytes → Got (regs_at k bytes) bytes k

got_0 : GotRegs 0
unfolding regs_at
got_0 bytes h = record { part = (0 ∷ 0 ∷ 0 ∷ [], bytes); is = refl; left = omega arith }

got_1 : GotRegs 1
unfolding regs_at
got_1 [] h = absurd (omega arith)
got_1 (x ∷ rest) h = record { part = (x ∷ 0 ∷ 0 ∷ [], rest); is = refl; left = omega arith }

got_2 : GotRegs 2
unfolding regs_at
got_2 [] h = absurd (omega arith)
got_2 (x ∷ []) h = absurd (omega arith)
got_2 (x ∷ y ∷ rest) h = record { part = (x ∷ y ∷ 0 ∷ [], rest); is = refl; left = omega arith }

got_3 : GotRegs 3
unfolding regs_at
got_3 [] h = absurd (omega arith)
got_3 (x ∷ []) h = absurd (omega arith)
got_3 (x ∷ y ∷ []) h = absurd (omega arith)
got_3 (x ∷ y ∷ z ∷ rest) h = record { part = (x ∷ y ∷ z ∷ [], rest); is = refl; left = omega arith }

abbrev layout_with : ℕ → Form → ℕ → Layout
layout_with before form after = record { before = before; form = form; after = after }

-- some instruction is read in the layout
abbrev LaidSome : Layout → Type 0
LaidSome l = (byte : Bool) (opcode : ℕ) (signed : Bool) (bytes : List ℕ) → 6 ≤ length bytes → (p : Insn × List ℕ) × (laid_at l byte opcode signed bytes ≡ Some p)

laid_some : (before : ℕ) (form : Form) (after : ℕ) → before + after ≤ 3 → GotRegs before → GotRegs after → LaidSome (layout_with before form after)
unfolding laid_at
laid_some before form after few gets_beginning gets_back byte opcode signed bytes h =
    let beginning = gets_beginning bytes (omega arith) in
    let beginning_left : length bytes ≤ length beginning.part.1 + before = beginning.left in
    let operand = operand_got form opcode byte beginning.part.1 (omega arith) in
    let operand_left : length beginning.part.1 ≤ length operand.part.1 + 3 = operand.left in
    let back = gets_back operand.part.1 (omega arith) in
    (_, ap (λ o. o >>= after_beginning) beginning.is ∙ ap (λ o. o >>= after_operand beginning.part) operand.is ∙ ap (λ o. o >>= after_back beginning.part operand.part) back.is)
  where
    after_back : List ℕ × List ℕ → Operand × List ℕ → List ℕ × List ℕ → Option (Insn × List ℕ)
    after_back f o b = Some (record { opcode = base_opcode form opcode; signed = signed; operand = o.0; regs = joined before f.0 b.0 }, b.1)

    after_operand : List ℕ × List ℕ → Operand × List ℕ → Option (Insn × List ℕ)
    after_operand f o = regs_at after o.1 >>= after_back f o

    after_beginning : List ℕ × List ℕ → Option (Insn × List ℕ)
    after_beginning f = operand_at form opcode byte f.1 >>= after_operand f

shape_some : (s : Shape) → LaidSome (layout_of s)
shape_some Nothing = laid_some 0 NoOperand 0 (lit≤ tt) got_0 got_0
shape_some One = laid_some 0 NoOperand 1 (lit≤ tt) got_0 got_1
shape_some Two = laid_some 0 NoOperand 2 (lit≤ tt) got_0 got_2
shape_some Four = laid_some 0 Mode 0 (lit≤ tt) got_0 got_0
shape_some FourOne = laid_some 0 Mode 1 (lit≤ tt) got_0 got_1
shape_some FourTwo = laid_some 0 Mode 2 (lit≤ tt) got_0 got_2
shape_some Exchange = laid_some 0 Mode 1 (lit≤ tt) got_0 got_1
shape_some CountOne = laid_some 0 ShiftCount 1 (lit≤ tt) got_0 got_1
shape_some Near = laid_some 0 Distance11 0 (lit≤ tt) got_0 got_0
shape_some Conditional = laid_some 0 Distance8 0 (lit≤ tt) got_0 got_0
shape_some BitTest = laid_some 1 Distance8 0 (lit≤ tt) got_1 got_0
shape_some Loop = laid_some 1 Distance8 0 (lit≤ tt) got_1 got_0
shape_some TableJump = laid_some 0 NoOperand 3 (lit≤ tt) got_0 got_3
shape_some Far = laid_some 0 Distance16 0 (lit≤ tt) got_0 got_0
shape_some Key = laid_some 0 OneByte 0 (lit≤ tt) got_0 got_0

-- proper beginnings

-- one of two beginnings of a list goes on with the other
compared : (a b c d : List ℕ) → a ++ b ≡ c ++ d → ((r : List ℕ) × (a ≡ c ++ r)) ⊎ ((x : ℕ) × ((r : List ℕ) × ((c ≡ a ++ (x ∷ r)) × (b ≡ (x ∷ r) ++ d))))
compared a b [] d h = inl (a, refl)
compared [] b (x ∷ c) d h = inr (x, (c, (refl, h)))
compared (y ∷ a) b (x ∷ c) d h = go (compared a b c d tails)
  where
    heads : y ≡ x
    heads = cc h

    tails : a ++ b ≡ c ++ d
    tails = cc h

    go : ((r : List ℕ) × (a ≡ c ++ r)) ⊎ ((z : ℕ) × ((r : List ℕ) × ((c ≡ a ++ (z ∷ r)) × (b ≡ (z ∷ r) ++ d))))
        → ((r : List ℕ) × ((y ∷ a) ≡ (x ∷ c) ++ r)) ⊎ ((z : ℕ) × ((r : List ℕ) × (((x ∷ c) ≡ (y ∷ a) ++ (z ∷ r)) × (b ≡ (z ∷ r) ++ d))))
    go (inl p) = let e = p.1 in inl (p.0, cc)
    go (inr p) = let e = p.1.1.0 in inr (p.0, (p.1.0, (cc, p.1.1.1)))

bytes_beginning : (a b : List ℕ) → IsBytes (a ++ b) → IsBytes a
bytes_beginning [] b h = tt
bytes_beginning (x ∷ a) b h = (h.0, bytes_beginning a b h.1)

bytes_joined : (a b : List ℕ) → IsBytes a → IsBytes b → IsBytes (a ++ b)
bytes_joined [] b g h = h
bytes_joined (x ∷ a) b g h = (g.0, bytes_joined a b g.1 h)

zeros : List ℕ
zeros = 0 ∷ 0 ∷ 0 ∷ 0 ∷ 0 ∷ 0 ∷ []

zeros_bytes : IsBytes zeros
unfolding zeros
zeros_bytes = (lit< tt, (lit< tt, (lit< tt, (lit< tt, (lit< tt, (lit< tt, tt))))))

zeros_count : length zeros ≡ 6
unfolding zeros
zeros_count = refl

-- with six zeros behind it a row's instruction is whole
filled_beginning : (bytes : List ℕ) (opcode : ℕ) (signed : Bool) (row : Shown) (rest : List ℕ) → IsBytes bytes → decode_of bytes ≡ Cut
    → decode_of (bytes ++ zeros) ≡ finished (bytes ++ zeros) (body_at opcode signed row (rest ++ zeros)) → IsProperBeginning bytes
filled_beginning bytes opcode signed row rest b cut h =
    let enough : 6 ≤ length (rest ++ zeros) = omega (arith, length-append rest zeros, zeros_count) in
    let p = shape_some row.shape (is_byte row.width) opcode signed (rest ++ zeros) enough in
    from p.0.0 (length (bytes ++ zeros) - length p.0.1) (h ∙ ap (finished (bytes ++ zeros)) p.1)
  where
    from : (i : Insn) (n : ℕ) → decode_of (bytes ++ zeros) ≡ Whole i n → IsProperBeginning bytes
    from i n e = go (compared bytes zeros (spelling i) r.rest r.whole)
      where
        r : Read (bytes ++ zeros) i n
        r = read_is (bytes ++ zeros) i n (bytes_joined bytes zeros b zeros_bytes) e

        go : ((t : List ℕ) × (bytes ≡ spelling i ++ t)) ⊎ ((x : ℕ) × ((t : List ℕ) × ((spelling i ≡ bytes ++ (x ∷ t)) × (zeros ≡ (x ∷ t) ++ r.rest)))) → IsProperBeginning bytes
        go (inl q) = absurd (cc (cut, ap decode_of q.1 ∙ spelled_again i q.0 r.has r.formed r.in_range))
        go (inr q) = record {
          insn = i;
          next = q.0;
          rest = q.1.0;
          are_bytes = bytes_beginning (q.0 ∷ q.1.0) r.rest (subst (λ (t : List ℕ). IsBytes t) q.1.1.1 zeros_bytes);
          whole = ap decode_of (sym q.1.1.0 ∙ sym (append-nil (spelling i))) ∙ spelled_again i [] r.has r.formed r.in_range ∙ ap (λ t. Whole i (length t)) q.1.1.0;
        }

test_true : (a b : ℕ) → (a == b) ≡ true → a ≡ b
test_true a b h = grind (arith, common_steps)

nothing_is_beginning : IsProperBeginning []
unfolding row_at plain_entry laid_at regs_at operand_at
nothing_is_beginning = record {
  insn = record { opcode = 0xFD; signed = false; operand = Absent; regs = 0 ∷ 0 ∷ 0 ∷ [] };
  next = 0xFD;
  rest = [];
  are_bytes = (lit< tt, tt);
  whole = refl;
}

prefix_is_front : IsProperBeginning (0xFE ∷ [])
unfolding row_at laid_at regs_at operand_at mode_at
prefix_is_front = record {
  insn = record { opcode = 0x4C; signed = true; operand = Reg 0; regs = 0 ∷ 0 ∷ 0 ∷ [] };
  next = 0x4C;
  rest = 0 ∷ 0 ∷ 0 ∷ [];
  are_bytes = (lit< tt, (lit< tt, (lit< tt, (lit< tt, tt))));
  whole = refl;
}

decode_behind : (x y : ℕ) (ys : List ℕ) → (x == 0xFE) ≡ true → decode_of (x ∷ y ∷ ys) ≡ with_row (x ∷ y ∷ ys) y true (row_at y true) ys
decode_behind x y ys e = ap (λ (t : Bool). if t then behind_prefix (x ∷ y ∷ ys) (y ∷ ys) else with_row (x ∷ y ∷ ys) x false (row_at x false) (y ∷ ys)) e

decode_plain : (x : ℕ) (xs : List ℕ) → (x == 0xFE) ≡ false → decode_of (x ∷ xs) ≡ with_row (x ∷ xs) x false (row_at x false) xs
decode_plain x xs e = ap (λ (t : Bool). if t then behind_prefix (x ∷ xs) xs else with_row (x ∷ xs) x false (row_at x false) xs) e

no_row_is_whole : (opcode : ℕ) (signed : Bool) → no_row opcode signed ≡ Cut → ⊥
no_row_is_whole opcode true h = cc h
no_row_is_whole opcode false h = at_test (opcode == 0xEE) h
  where
    at_test : (t : Bool) → (if t then Undefined else Unimplemented) ≡ Cut → ⊥
    at_test true e = cc e
    at_test false e = cc e

pub cut_is_beginning : (bytes : List ℕ) → IsBytes bytes → decode_of bytes ≡ Cut → IsProperBeginning bytes
cut_is_beginning [] b h = nothing_is_beginning
cut_is_beginning (x ∷ xs) b h = at_test (x == 0xFE) refl
  where
    behind : (ys : List ℕ) → xs ≡ ys → (x == 0xFE) ≡ true → IsProperBeginning (x ∷ xs)
    behind [] e t = subst (λ (l : List ℕ). IsProperBeginning l) (sym (ap (λ k. k ∷ xs) (test_true x 0xFE t) ∙ ap (λ l. 0xFE ∷ l) e)) prefix_is_front
    behind (y ∷ ys) e t = at_row (row_at y true) refl
      where
        at_row : (o : Option Shown) → row_at y true ≡ o → IsProperBeginning (x ∷ xs)
        at_row None r = absurd (no_row_is_whole y true (sym (ap (λ l. decode_of (x ∷ l)) e ∙ decode_behind x y ys t ∙ ap (λ o. with_row (x ∷ y ∷ ys) y true o ys) r) ∙ h))
        at_row (Some row) r = filled_beginning (x ∷ xs) y true row ys b h
            (ap (λ l. decode_of (x ∷ (l ++ zeros))) e ∙ decode_behind x y (ys ++ zeros) t ∙ ap (λ o. with_row (x ∷ y ∷ (ys ++ zeros)) y true o (ys ++ zeros)) r
            ∙ ap (λ l. finished (x ∷ (l ++ zeros)) (body_at y true row (ys ++ zeros))) (sym e))

    at_test : (t : Bool) → (x == 0xFE) ≡ t → IsProperBeginning (x ∷ xs)
    at_test true t = behind xs refl t
    at_test false t = at_row (row_at x false) refl
      where
        at_row : (o : Option Shown) → row_at x false ≡ o → IsProperBeginning (x ∷ xs)
        at_row None r = absurd (no_row_is_whole x false (sym (decode_plain x xs t ∙ ap (λ o. with_row (x ∷ xs) x false o xs) r) ∙ h))
        at_row (Some row) r = filled_beginning (x ∷ xs) x false row xs b h (decode_plain x (xs ++ zeros) t ∙ ap (λ o. with_row (x ∷ (xs ++ zeros)) x false o (xs ++ zeros)) r)

pub beginning_is_cut : (bytes : List ℕ) → IsBytes bytes → IsProperBeginning bytes → decode_of bytes ≡ Cut
beginning_is_cut bytes b f = at_answer (decode_of bytes) refl
  where
    at_answer : (d : Decoded) → decode_of bytes ≡ d → d ≡ Cut
    at_answer (Whole i n) h =
        let within : n ≤ length bytes = (in_front bytes i n b h).within in
        let both : Whole i n ≡ Whole f.insn (length (bytes ++ (f.next ∷ f.rest))) = sym (whole_again bytes (f.next ∷ f.rest) i n b h) ∙ f.whole in
        let count : n ≡ length (bytes ++ (f.next ∷ f.rest)) = cc both in
        absurd (omega (arith, length-append bytes (f.next ∷ f.rest)))
    at_answer Unimplemented h = absurd (cc (bare_again bytes (f.next ∷ f.rest) Unimplemented (inl refl) h, f.whole))
    at_answer Undefined h = absurd (cc (bare_again bytes (f.next ∷ f.rest) Undefined (inr refl) h, f.whole))
    at_answer Cut h = refl

-- opcodes without a row

says_undefined : Decoded → Bool
says_undefined Undefined = true
says_undefined _ = false

says_unimplemented : Decoded → Bool
says_unimplemented Unimplemented = true
says_unimplemented _ = false

finished_says_no : (bytes : List ℕ) (q : Option (Insn × List ℕ)) → (says_undefined (finished bytes q) ≡ false) × (says_unimplemented (finished bytes q) ≡ false)
unfolding says_undefined says_unimplemented
finished_says_no bytes None = (refl, refl)
finished_says_no bytes (Some p) = (refl, refl)

other_has_none : (row : Shown) → row_at 0xEE false ≡ Some row → ⊥
unfolding row_at plain_entry
other_has_none row h = cc h

row_says : (bytes : List ℕ) (opcode : ℕ) (rest : List ℕ) (o : Option Shown) → row_at opcode false ≡ o
    → (says_undefined (with_row bytes opcode false o rest) ≡ (opcode == 0xEE)) × (says_unimplemented (with_row bytes opcode false o rest) ≡ (not (opcode == 0xEE) && is_gap o))
unfolding says_undefined says_unimplemented
row_says bytes opcode rest None r = at_test (opcode == 0xEE)
  where
    at_test : (t : Bool) → (says_undefined (if t then Undefined else Unimplemented) ≡ t) × (says_unimplemented (if t then Undefined else Unimplemented) ≡ (not t && true))
    at_test true = (refl, refl)
    at_test false = (refl, refl)
row_says bytes opcode rest (Some row) r =
    let n = finished_says_no bytes (body_at opcode false row rest) in
    at_test (opcode == 0xEE) refl n.0 n.1
  where
    at_test : (t : Bool) → (opcode == 0xEE) ≡ t → says_undefined (finished bytes (body_at opcode false row rest)) ≡ false → says_unimplemented (finished bytes (body_at opcode false row rest)) ≡ false
        → (says_undefined (finished bytes (body_at opcode false row rest)) ≡ t) × (says_unimplemented (finished bytes (body_at opcode false row rest)) ≡ (not t && false))
    at_test true e u v = absurd (other_has_none row (ap (λ n. row_at n false) (sym (test_true opcode 0xEE e)) ∙ r))
    at_test false e u v = (u, v)

behind_says : (bytes : List ℕ) (opcode : ℕ) (rest : List ℕ) (o : Option Shown)
    → (says_undefined (with_row bytes opcode true o rest) ≡ is_gap o) × (says_unimplemented (with_row bytes opcode true o rest) ≡ false)
unfolding says_undefined says_unimplemented
behind_says bytes opcode rest None = (refl, refl)
behind_says bytes opcode rest (Some row) = finished_says_no bytes (body_at opcode true row rest)

says : (bytes : List ℕ) → (says_undefined (decode_of bytes) ≡ is_undefined bytes) × (says_unimplemented (decode_of bytes) ≡ is_unimplemented bytes)
unfolding says_undefined says_unimplemented
says [] = (refl, refl)
says (x ∷ xs) = at_test (x == 0xFE) refl
  where
    and_false : (t : Bool) → (t && false) ≡ false
    and_false true = refl
    and_false false = refl

    or_false : (t : Bool) → (t || false) ≡ t
    or_false true = refl
    or_false false = refl

    not_other : (x == 0xFE) ≡ true → (x == 0xEE) ≡ false
    not_other e = ap (λ n. n == 0xEE) (test_true x 0xFE e)

    behind : (ys : List ℕ) → (x == 0xEE) ≡ false → (says_undefined (behind_prefix (x ∷ xs) ys) ≡ ((x == 0xEE) || is_gap_behind ys)) × (says_unimplemented (behind_prefix (x ∷ xs) ys) ≡ false)
    behind [] e = (ap (λ t. false) e ∙ sym (ap (λ t. t || false) e), refl)
    behind (y ∷ ys) e = let s = behind_says (x ∷ xs) y ys (row_at y true) in (s.0 ∙ sym (ap (λ t. t || is_gap (row_at y true)) e), s.1)

    at_test : (t : Bool) → (x == 0xFE) ≡ t
        → (says_undefined (if t then behind_prefix (x ∷ xs) xs else with_row (x ∷ xs) x false (row_at x false) xs) ≡ ((x == 0xEE) || (t && is_gap_behind xs)))
        × (says_unimplemented (if t then behind_prefix (x ∷ xs) xs else with_row (x ∷ xs) x false (row_at x false) xs) ≡ (not (x == 0xEE) && (not t && is_gap (row_at x false))))
    at_test true e = let s = behind xs (not_other e) in (s.0, s.1 ∙ sym (and_false (not (x == 0xEE))))
    at_test false e = let s = row_says (x ∷ xs) x xs (row_at x false) refl in (s.0 ∙ sym (or_false (x == 0xEE)), s.1)

pub undefined_is : (bytes : List ℕ) → (decode_of bytes ≡ Undefined) ↔ (is_undefined bytes ≡ true)
unfolding says_undefined
undefined_is bytes = (λ h. sym (says bytes).0 ∙ ap says_undefined h, λ h. back (decode_of bytes) ((says bytes).0 ∙ h))
  where
    back : (d : Decoded) → says_undefined d ≡ true → d ≡ Undefined
    back (Whole i n) e = absurd (cc e)
    back Unimplemented e = absurd (cc e)
    back Undefined e = refl
    back Cut e = absurd (cc e)

pub unimplemented_is : (bytes : List ℕ) → (decode_of bytes ≡ Unimplemented) ↔ (is_unimplemented bytes ≡ true)
unfolding says_unimplemented
unimplemented_is bytes = (λ h. sym (says bytes).1 ∙ ap says_unimplemented h, λ h. back (decode_of bytes) ((says bytes).1 ∙ h))
  where
    back : (d : Decoded) → says_unimplemented d ≡ true → d ≡ Unimplemented
    back (Whole i n) e = absurd (cc e)
    back Unimplemented e = refl
    back Undefined e = absurd (cc e)
    back Cut e = absurd (cc e)

-- a spelling alone decodes to its instruction, with its length
pub spelling_decodes : (i : Insn) → InsnHas i → is_formed i ≡ true → is_in_range i ≡ true → decode_of (spelling i) ≡ Whole i (length_of i)
spelling_decodes i has formed range = ap decode_of (sym (append-nil (spelling i))) ∙ spelled_again i [] has formed range ∙ ap (Whole i) (spelled_count i has.three)

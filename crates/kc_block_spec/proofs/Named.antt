-- Proofs of what the register tables come to.
use Rattle.std.proofs.Common.{◌≡◌, ℕ, ◌+◌, ◌*◌, ◌/◌, ◌%◌, ◌==◌, Bool, true, false, ◌&&◌, ◌||◌, refl, sym, ◌∙◌, ap, subst, arith, Option, Some, None, Result, Ok, Err, []}
use Rattle.std.specs.Prelude.{is_some, not, IfOk, if◌then◌else◌}
use Rattle.std.specs.List.{All, list_all}
use Rattle.std.proofs.lemmas.Bool.{false≢true, eqb-true}
use Rattle.kc_base.specs.Bits.{bit}
use Rattle.kc_base.specs.declared.types.Kind.{Kind}
use Rattle.kc_base.specs.declared.types.Kind.TheVariants.{OddWord, NoRegister, ByteAccess, FastTimer2, BadWindow}
use Rattle.kc_exec_spec.specs.Window.{is_wsr}
use Rattle.kc_hso.specs.Cam as cam
use Rattle.kc_hso.specs.Cam.{has_timer2_of, load_refusal, with_load}
use Rattle.kc_extra.specs.Further.{Further}
use Rattle.kc_block_spec.specs.declared.registers.Window.{Window}
use Rattle.kc_block_spec.specs.declared.registers.Window.TheVariants.{Window0, Window1, Window15}
use Rattle.kc_block_spec.specs.declared.registers.ReadableByte.{ReadableByte}
use Rattle.kc_block_spec.specs.declared.registers.ReadableByte.TheVariants as reads
use Rattle.kc_block_spec.specs.declared.registers.WritableByte.{WritableByte}
use Rattle.kc_block_spec.specs.declared.registers.WritableByte.TheVariants as writes
use Rattle.kc_block_spec.specs.declared.registers.ReadableWord.{ReadableWord}
use Rattle.kc_block_spec.specs.declared.registers.ReadableWord.TheVariants as reads_word
use Rattle.kc_block_spec.specs.declared.registers.WritableWord.{WritableWord}
use Rattle.kc_block_spec.specs.declared.registers.WritableWord.TheVariants as writes_word
use Rattle.kc_block_spec.specs.Units.{Units}
use Rattle.kc_block_spec.specs.Levels.{printed, edges_between}
use Rattle.kc_block_spec.specs.Registers.{registers, window_number, bytes_read, bytes_written, words_read, words_written, row_at, is_half}
use Rattle.kc_block_spec.specs.Reading.{byte_value, word_value, after_byte, after_word}
use Rattle.kc_block_spec.specs.Writing.{with_byte, with_word, loaded_unless}
use Rattle.kc_block_spec.specs.Accesses.{◌>>=◌, or_no_register, latch_edges, other_read, other_written, byte_read, after_byte_read, byte_read_as, after_byte_read_as, byte_written_as, byte_written, word_read, even_word_read, after_word_read, after_even_word_read, after_word_read_as, word_read_as, word_written, even_word_written, word_written_as}
use Rattle.kc_block_spec.specs.RegisterLaws.{AnswersWhereReadable, Names, NamedRegistersAnswer, UnnamedReads, UnnamedWrites, refusal, first_refusal, OddWordsAreRefused, BothBytesReadAreAsked, BothBytesWrittenAreAsked, AreReadAlike, IsMildRead, ReadsAreMild, WritesKeepProfile, shows_pins, moves_pins, OtherWritesMoveNoPin}
use Rattle.kc_block_spec.proofs.Quiet.{edges_none}
use Rattle.kc_block_spec.proofs.Tables.{none_row, row_law, AreEven, half_found, half_none, stand_apart, each_found, all_when, all_even}

-- word registers stand at even addresses
pub even_reads : (w : Window) → AreEven (words_read w)
unfolding words_read registers
even_reads w = all_even (words_read w) (by w)
  where
    by : (w : Window) → list_all (λ row. row.0 % 2 == 0) (words_read w) ≡ true
    by Window0 = refl
    by Window1 = refl
    by Window15 = refl

pub even_writes : (w : Window) → AreEven (words_written w)
unfolding words_written registers
even_writes w = all_even (words_written w) (by w)
  where
    by : (w : Window) → list_all (λ row. row.0 % 2 == 0) (words_written w) ≡ true
    by Window0 = refl
    by Window1 = refl
    by Window15 = refl

-- no two registers of a window stand at the same address
apart_bytes_read : (w : Window) → stand_apart (bytes_read w) ≡ true
unfolding bytes_read registers
apart_bytes_read Window0 = refl
apart_bytes_read Window1 = refl
apart_bytes_read Window15 = refl

apart_bytes_written : (w : Window) → stand_apart (bytes_written w) ≡ true
unfolding bytes_written registers
apart_bytes_written Window0 = refl
apart_bytes_written Window1 = refl
apart_bytes_written Window15 = refl

apart_words_read : (w : Window) → stand_apart (words_read w) ≡ true
unfolding words_read registers
apart_words_read Window0 = refl
apart_words_read Window1 = refl
apart_words_read Window15 = refl

apart_words_written : (w : Window) → stand_apart (words_written w) ≡ true
unfolding words_written registers
apart_words_written Window0 = refl
apart_words_written Window1 = refl
apart_words_written Window15 = refl

-- a word is refused at an odd address, and is what stands there at an even one
at_odd : {A : Type 0} (addr : ℕ) (x y : A) → addr % 2 ≡ 1 → (if addr % 2 == 1 then x else y) ≡ x
at_odd addr x y odd = rw odd refl

at_even : {A : Type 0} (addr : ℕ) (x y : A) → addr % 2 ≡ 0 → (if addr % 2 == 1 then x else y) ≡ y
at_even addr x y even = rw even refl

-- each row answers at its address
pub named_registers_answer : {X : Type 0} → NamedRegistersAnswer X
named_registers_answer f t w u = record {
  reads = each_found (λ a r. byte_read f t w u a ≡ Ok (byte_value u r)) (bytes_read w) (apart_bytes_read w) (λ a r e. ap (byte_read_as f t w u a) e);
  after_reads = each_found (λ a r. after_byte_read f t w u a ≡ after_byte u r) (bytes_read w) (apart_bytes_read w) (λ a r e. ap (after_byte_read_as f t w u a) e);
  writes = each_found (λ a r. (n : ℕ) → byte_written f t w u a n ≡ with_byte u r n) (bytes_written w) (apart_bytes_written w) (λ a r e n. ap (byte_written_as f t w u a n) e);
  reads_of_words = each_found (λ a r. word_read f t w u a ≡ Ok (word_value t u r)) (words_read w) (apart_words_read w)
      (λ a r e. at_even a (Err OddWord) (even_word_read f t w u a) (row_law (λ a r. a % 2 ≡ 0) (words_read w) a r (even_reads w) e) ∙ ap (word_read_as f t w u a) e);
  after_reads_of_words = each_found (λ a r. after_word_read f t w u a ≡ after_word u r) (words_read w) (apart_words_read w)
      (λ a r e. at_even a u (after_even_word_read f t w u a) (row_law (λ a r. a % 2 ≡ 0) (words_read w) a r (even_reads w) e) ∙ ap (after_word_read_as f t w u a) e);
  writes_of_words = each_found (λ a r. (n : ℕ) → word_written f t w u a n ≡ with_word u r n) (words_written w) (apart_words_written w)
      (λ a r e n. at_even a (Err OddWord) (even_word_written f t w u a n) (row_law (λ a r. a % 2 ≡ 0) (words_written w) a r (even_writes w) e) ∙ ap (word_written_as f t w u a n) e);
}

is_answered : (answer : Option ℕ) → is_some answer ≡ true → (n : ℕ) × (answer ≡ Some n) × (or_no_register answer ≡ Ok n)
is_answered None there = absurd (false≢true there)
is_answered (Some n) there = (n, refl, refl)

is_unanswered : (answer : Option ℕ) → is_some answer ≡ false → or_no_register answer ≡ Err NoRegister
is_unanswered None none = refl
is_unanswered (Some n) none = absurd (false≢true (sym none))

pub unnamed_reads : {X : Type 0} → UnnamedReads X
unnamed_reads f answers t w u addr unnamed =
    let row : row_at (bytes_read w) addr ≡ None = none_row (bytes_read w) addr unnamed in
    let as_other : byte_read f t w u addr ≡ other_read f t w u addr = ap (byte_read_as f t w u addr) row in
    record {
      half = λ half.
          let is : is_half (words_read w) addr ≡ true = half_found (words_read w) addr (even_reads w) half in
          as_other ∙ rw is refl;
      further = λ whole readable.
          let is : is_half (words_read w) addr ≡ false = half_none (words_read w) addr whole in
          let found = is_answered (f.answer (window_number w) addr t u.further) (answers (window_number w) addr t u.further ∙ readable) in
          (found.0, found.1, as_other ∙ rw is found.2);
      none = λ whole unreadable.
          let is : is_half (words_read w) addr ≡ false = half_none (words_read w) addr whole in
          as_other ∙ rw is (is_unanswered (f.answer (window_number w) addr t u.further) (answers (window_number w) addr t u.further ∙ unreadable));
    }

pub unnamed_writes : {X : Type 0} → UnnamedWrites X
unnamed_writes f t w u addr n unnamed =
    let row : row_at (bytes_written w) addr ≡ None = none_row (bytes_written w) addr unnamed in
    let as_other : byte_written f t w u addr n ≡ other_written f t w u addr n = ap (byte_written_as f t w u addr n) row in
    record {
      half = λ half.
          let is : is_half (words_written w) addr ≡ true = half_found (words_written w) addr (even_writes w) half in
          as_other ∙ rw is refl;
      further = λ whole writable.
          let is : is_half (words_written w) addr ≡ false = half_none (words_written w) addr whole in
          as_other ∙ rw (is, writable) refl;
      none = λ whole unwritable.
          let is : is_half (words_written w) addr ≡ false = half_none (words_written w) addr whole in
          as_other ∙ rw (is, unwritable) refl;
    }

-- whether a byte read is refused does not depend on the units
refusal_unanswered : (a b : Option ℕ) → is_some a ≡ is_some b → refusal (or_no_register a) ≡ refusal (or_no_register b)
refusal_unanswered None None same = refl
refusal_unanswered None (Some n) same = absurd (false≢true same)
refusal_unanswered (Some n) None same = absurd (false≢true (sym same))
refusal_unanswered (Some m) (Some n) same = refl

pub read_refusal_same : {X : Type 0} (f : Further X) → AnswersWhereReadable f → (t : ℕ) (w : Window) (u v : Units X) (addr : ℕ) →
    refusal (byte_read f t w u addr) ≡ refusal (byte_read f t w v addr)
read_refusal_same f answers t w u v addr = by (row_at (bytes_read w) addr)
  where
    half : (b : Bool) → refusal (if b then Err ByteAccess else or_no_register (f.answer (window_number w) addr t u.further))
        ≡ refusal (if b then Err ByteAccess else or_no_register (f.answer (window_number w) addr t v.further))
    half true = refl
    half false =
        refusal_unanswered (f.answer (window_number w) addr t u.further) (f.answer (window_number w) addr t v.further)
        (answers (window_number w) addr t u.further ∙ sym (answers (window_number w) addr t v.further))

    by : (row : Option ReadableByte) → refusal (byte_read_as f t w u addr row) ≡ refusal (byte_read_as f t w v addr row)
    by (Some r) = refl
    by None = half (is_half (words_read w) addr)

bound_ok : {A B : Type 0} (r : Result A Kind) (g : A → B) → refusal (r >>= λ a. Ok (g a)) ≡ refusal r
bound_ok (Ok a) g = refl
bound_ok (Err kind) g = refl

pub odd_words_are_refused : {X : Type 0} → OddWordsAreRefused X
odd_words_are_refused f t w u addr n odd = record {
  read = at_odd addr _ _ odd;
  after_read = at_odd addr _ _ odd;
  written = at_odd addr _ _ odd;
}

pub even_bytes_read_are_asked : {X : Type 0} (f : Further X) → AnswersWhereReadable f → (t : ℕ) (w : Window) (u : Units X) (addr : ℕ) → (Names (words_read w) addr → ⊥) →
    refusal (even_word_read f t w u addr) ≡ first_refusal (refusal (byte_read f t w u addr)) (refusal (byte_read f t w u (addr + 1)))
even_bytes_read_are_asked f answers t w u addr unnamed =
    let row : row_at (words_read w) addr ≡ None = none_row (words_read w) addr unnamed in
    ap (λ r. refusal (word_read_as f t w u addr r)) row ∙ by (byte_read f t w u addr)
  where
    by : (low : Result ℕ Kind) →
        refusal (low >>= λ l. byte_read f t w (after_byte_read f t w u addr) (addr + 1) >>= λ h. Ok (l + 256 * h))
        ≡ first_refusal (refusal low) (refusal (byte_read f t w u (addr + 1)))
    by (Err kind) = refl
    by (Ok l) =
        bound_ok (byte_read f t w (after_byte_read f t w u addr) (addr + 1)) (λ h. l + 256 * h)
        ∙ read_refusal_same f answers t w (after_byte_read f t w u addr) u (addr + 1)

-- whether a byte write is refused depends on the units only at IOC2, by the entries of HSO on Timer 2
is_ioc2 : WritableByte → Bool
is_ioc2 writes.Ioc2 = true
is_ioc2 _ = false

with_refusal_same : {X : Type 0} (u v : Units X) (r : WritableByte) (n : ℕ) → (is_ioc2 r ≡ true → has_timer2_of u.hso ≡ has_timer2_of v.hso) →
    refusal (with_byte u r n) ≡ refusal (with_byte v r n)
unfolding is_ioc2
with_refusal_same u v writes.Zeros n same = refl
with_refusal_same u v writes.IntMask n same = refl
with_refusal_same u v writes.IntMask1 n same = refl
with_refusal_same u v writes.IntPend n same = refl
with_refusal_same u v writes.IntPend1 n same = refl
with_refusal_same u v writes.Wsr n same = either _ _ (is_wsr n)
  where
    either : {A B : Type 0} (a : A) (b : B) (c : Bool) → refusal (if c then Ok a else Err BadWindow) ≡ refusal (if c then Ok b else Err BadWindow)
    either a b true = refl
    either a b false = refl
with_refusal_same u v writes.HsiMode n same = refl
with_refusal_same u v writes.HsoCommand n same = refl
with_refusal_same u v writes.Port1 n same = refl
with_refusal_same u v writes.Port2 n same = refl
with_refusal_same u v writes.Ioc0 n same = refl
with_refusal_same u v writes.Ioc1 n same = refl
with_refusal_same u v writes.Ioc2 n same = either _ _ (bit n 0 && has_timer2_of u.hso) (bit n 0 && has_timer2_of v.hso) (ap (λ b. bit n 0 && b) (same refl))
  where
    either : {A B : Type 0} (a : A) (b : B) (c d : Bool) → c ≡ d → refusal (if c then Err FastTimer2 else Ok a) ≡ refusal (if d then Err FastTimer2 else Ok b)
    either a b true true e = refl
    either a b true false e = absurd (false≢true (sym e))
    either a b false true e = absurd (false≢true e)
    either a b false false e = refl
with_refusal_same u v writes.Ioc3 n same = refl

-- IOC2 stands in window 0 alone, at the high byte of a word whose low byte is no register of the board
is_first : Window → Bool
is_first Window0 = true
is_first _ = false

ioc2_at : (w : Window) → All (λ row. is_ioc2 row.1 ≡ true → (w ≡ Window0) × (row.0 ≡ 11)) (bytes_written w)
unfolding bytes_written registers is_ioc2 is_first
ioc2_at w = all_when (λ row. is_ioc2 row.1) (λ row. is_first w && (row.0 == 11)) (λ row. (w ≡ Window0) × (row.0 ≡ 11)) (bytes_written w) (by w) (λ row. place w row.0)
  where
    by : (w : Window) → list_all (λ row. not (is_ioc2 row.1) || (is_first w && (row.0 == 11))) (bytes_written w) ≡ true
    by Window0 = refl
    by Window1 = refl
    by Window15 = refl

    place : (w : Window) (addr : ℕ) → (is_first w && (addr == 11)) ≡ true → (w ≡ Window0) × (addr ≡ 11)
    place Window0 addr h = (refl, eqb-true addr 11 h)
    place Window1 addr h = absurd (false≢true h)
    place Window15 addr h = absurd (false≢true h)

low_keeps_entries : {X : Type 0} (f : Further X) (t : ℕ) (u mid : Units X) (low : ℕ) → byte_written f t Window0 u 10 low ≡ Ok mid →
    has_timer2_of mid.hso ≡ has_timer2_of u.hso
unfolding bytes_written words_written registers
low_keeps_entries {X = X} f t u mid low e = by (f.writable 0 10) e
  where
    by : (c : Bool) → ◌≡◌ {A = Result (Units X) Kind} (if c then Ok (record u { further = f.after_write 0 10 low t u.further }) else Err NoRegister) (Ok mid) →
        has_timer2_of mid.hso ≡ has_timer2_of u.hso
    by true e = let same : record u { further = f.after_write 0 10 low t u.further } ≡ mid = cc in ap (λ v. has_timer2_of v.hso) (sym same)
    by false e = cc

other_refusal_same : {X : Type 0} (f : Further X) (t : ℕ) (w : Window) (u v : Units X) (addr n : ℕ) → refusal (other_written f t w u addr n) ≡ refusal (other_written f t w v addr n)
other_refusal_same f t w u v addr n = by _ _ (is_half (words_written w) addr) (f.writable (window_number w) addr)
  where
    by : {A : Type 0} (x y : A) (half writable : Bool) →
        refusal (if half then Err ByteAccess else if writable then Ok x else Err NoRegister) ≡ refusal (if half then Err ByteAccess else if writable then Ok y else Err NoRegister)
    by x y true writable = refl
    by x y false true = refl
    by x y false false = refl

-- a write of the low byte of a word does not change whether the high one is refused
pub high_refusal_same : {X : Type 0} (f : Further X) (t : ℕ) (w : Window) (u mid : Units X) (addr low high : ℕ) → byte_written f t w u addr low ≡ Ok mid →
    refusal (byte_written f t w mid (addr + 1) high) ≡ refusal (byte_written f t w u (addr + 1) high)
high_refusal_same f t w u mid addr low high e = by (row_at (bytes_written w) (addr + 1)) refl
  where
    by : (row : Option WritableByte) → row_at (bytes_written w) (addr + 1) ≡ row →
        refusal (byte_written_as f t w mid (addr + 1) high row) ≡ refusal (byte_written_as f t w u (addr + 1) high row)
    by None row = other_refusal_same f t w mid u (addr + 1) high
    by (Some r) row = with_refusal_same mid u r high (λ ioc2.
        let at = row_law (λ a r. is_ioc2 r ≡ true → (w ≡ Window0) × (a ≡ 11)) (bytes_written w) (addr + 1) r (ioc2_at w) row ioc2 in
        let address : addr ≡ 10 = omega (arith, at.1) in
        low_keeps_entries f t u mid low (subst (λ a. byte_written f t Window0 u a low ≡ Ok mid) address (subst (λ w. byte_written f t w u addr low ≡ Ok mid) at.0 e)))

pub even_bytes_written_are_asked : {X : Type 0} (f : Further X) (t : ℕ) (w : Window) (u : Units X) (addr n : ℕ) → (Names (words_written w) addr → ⊥) →
    refusal (even_word_written f t w u addr n)
    ≡ first_refusal (refusal (byte_written f t w u addr (n % 256))) (refusal (byte_written f t w u (addr + 1) (n / 256)))
even_bytes_written_are_asked f t w u addr n unnamed =
    let row : row_at (words_written w) addr ≡ None = none_row (words_written w) addr unnamed in
    ap (λ r. refusal (word_written_as f t w u addr n r)) row ∙ by (byte_written f t w u addr (n % 256)) refl
  where
    by : (low : Result (Units _) Kind) → byte_written f t w u addr (n % 256) ≡ low →
        refusal (low >>= λ mid. byte_written f t w mid (addr + 1) (n / 256))
        ≡ first_refusal (refusal low) (refusal (byte_written f t w u (addr + 1) (n / 256)))
    by (Err kind) e = refl
    by (Ok mid) e = high_refusal_same f t w u mid addr (n % 256) (n / 256) e

pub both_bytes_read_are_asked : {X : Type 0} → BothBytesReadAreAsked X
both_bytes_read_are_asked f answers t w u addr even unnamed =
    ap refusal (at_even addr (Err OddWord) (even_word_read f t w u addr) even) ∙ even_bytes_read_are_asked f answers t w u addr unnamed

pub both_bytes_written_are_asked : {X : Type 0} → BothBytesWrittenAreAsked X
both_bytes_written_are_asked f t w u addr n even unnamed =
    ap refusal (at_even addr (Err OddWord) (even_word_written f t w u addr n) even) ∙ even_bytes_written_are_asked f t w u addr n unnamed

-- a read changes little
alike_then : {X : Type 0} (u v x : Units X) → AreReadAlike u v → AreReadAlike v x → AreReadAlike u x
alike_then {X = X} u v x first second = second ∙ ap {A = Units X} {B = Units X} (λ y. record y {
  board_registers = record y.board_registers { ios1 = x.board_registers.ios1; ios2 = x.board_registers.ios2 };
  overflowed = x.overflowed;
  hsi = record y.hsi { loaded = x.hsi.loaded };
  further = x.further;
}) first

mild : {X : Type 0} (u v : Units X) → AreReadAlike u v → IsMildRead u v
mild u v alike = record {
  alike = alike;
  edges = ap (λ y. latch_edges u y) alike ∙ edges_none (printed u.board_registers u.hso) 18;
  wsr = ap (λ y. y.board_registers.wsr) alike;
}

byte_alike : {X : Type 0} (u : Units X) (r : ReadableByte) → AreReadAlike u (after_byte u r)
byte_alike u reads.Ios1 = refl
byte_alike u reads.Ios2 = refl
byte_alike u _ = refl

word_alike : {X : Type 0} (u : Units X) (r : ReadableWord) → AreReadAlike u (after_word u r)
word_alike u reads_word.HsiTime = refl
word_alike u _ = refl

read_alike : {X : Type 0} (f : Further X) (t : ℕ) (w : Window) (u : Units X) (addr : ℕ) → AreReadAlike u (after_byte_read f t w u addr)
read_alike {X = X} f t w u addr = by (row_at (bytes_read w) addr)
  where
    half : (b : Bool) (d : X) → AreReadAlike u (if b then u else record u { further = d })
    half true d = refl
    half false d = refl

    by : (row : Option ReadableByte) → AreReadAlike u (after_byte_read_as f t w u addr row)
    by (Some r) = byte_alike u r
    by None = half (is_half (words_read w) addr) (f.after_read (window_number w) addr t u.further)

pub even_reads_are_mild : {X : Type 0} (f : Further X) (t : ℕ) (w : Window) (u : Units X) (addr : ℕ) → IsMildRead u (after_even_word_read f t w u addr)
even_reads_are_mild f t w u addr = mild u _ (by (row_at (words_read w) addr))
  where
    by : (row : Option ReadableWord) → AreReadAlike u (after_word_read_as f t w u addr row)
    by (Some r) = word_alike u r
    by None =
        alike_then u (after_byte_read f t w u addr) (after_byte_read f t w (after_byte_read f t w u addr) (addr + 1))
        (read_alike f t w u addr) (read_alike f t w (after_byte_read f t w u addr) (addr + 1))

pub reads_are_mild : {X : Type 0} → ReadsAreMild X
reads_are_mild f t w u addr = (mild u _ (read_alike f t w u addr), either (addr % 2 == 1))
  where
    either : (odd : Bool) → IsMildRead u (if odd then u else after_even_word_read f t w u addr)
    either true = mild u u refl
    either false = even_reads_are_mild f t w u addr

-- a fact of what a choice between an answer and a refusal leaves
pub if_ok : {A : Type 0} (P : A → Type 0) (c : Bool) (a : A) (kind : Kind) → (c ≡ true → P a) → IfOk (if c then Ok a else Err kind) P
if_ok P true a kind holds = holds refl
if_ok P false a kind holds = tt

if_not_ok : {A : Type 0} (P : A → Type 0) (c : Bool) (a : A) (kind : Kind) → P a → IfOk (if c then Err kind else Ok a) P
if_not_ok P true a kind holds = tt
if_not_ok P false a kind holds = holds

unless_refused : {A : Type 0} (P : A → Type 0) (c : Bool) (kind : Kind) (r : Result A Kind) → IfOk r P → IfOk (if c then Err kind else r) P
unless_refused P true kind r holds = tt
unless_refused P false kind r holds = holds

pub if_ok_then : {A : Type 0} (P : A → Type 0) (r : Result A Kind) (next : A → Result A Kind) → IfOk r (λ a. IfOk (next a) P) → IfOk (r >>= next) P
if_ok_then P (Ok a) next holds = holds
if_ok_then P (Err kind) next holds = tt

pub if_ok_weaker : {A : Type 0} (P Q : A → Type 0) (r : Result A Kind) → ((a : A) → P a → Q a) → IfOk r P → IfOk r Q
if_ok_weaker P Q (Ok a) weaker holds = weaker a holds
if_ok_weaker P Q (Err kind) weaker holds = tt

-- a fact of the units after a write, from its registers and from what the further unit does
module _ {X : Type 0} (f : Further X) (t : ℕ) (w : Window) (P : Units X → Type 0) where
  byte_holds : (u : Units X) (addr n : ℕ) → ((r : WritableByte) → row_at (bytes_written w) addr ≡ Some r → IfOk (with_byte u r n) P) →
      ((d : X) → P (record u { further = d })) → IfOk (byte_written f t w u addr n) P
  byte_holds u addr n named other = by (row_at (bytes_written w) addr) refl
    where
      either : (half writable : Bool) (d : X) → IfOk (if half then Err ByteAccess else if writable then Ok (record u { further = d }) else Err NoRegister) P
      either true writable d = tt
      either false true d = other d
      either false false d = tt

      by : (row : Option WritableByte) → row_at (bytes_written w) addr ≡ row → IfOk (byte_written_as f t w u addr n row) P
      by (Some r) e = named r e
      by None e = either (is_half (words_written w) addr) (f.writable (window_number w) addr) (f.after_write (window_number w) addr n t u.further)

  word_holds : (u : Units X) (addr n : ℕ) → ((r : WritableWord) → IfOk (with_word u r n) P) →
      IfOk (byte_written f t w u addr (n % 256)) (λ mid. IfOk (byte_written f t w mid (addr + 1) (n / 256)) P) → IfOk (even_word_written f t w u addr n) P
  word_holds u addr n named two = by (row_at (words_written w) addr)
    where
      by : (row : Option WritableWord) → IfOk (word_written_as f t w u addr n row) P
      by (Some r) = named r
      by None = if_ok_then P (byte_written f t w u addr (n % 256)) (λ mid. byte_written f t w mid (addr + 1) (n / 256)) two

  load_holds : (u : Units X) (n : ℕ) (refused : Option Kind) → P (record u { hso = with_load n u.hso }) → IfOk (loaded_unless u n refused) P
  load_holds u n (Some kind) holds = tt
  load_holds u n None holds = holds

-- WSR after a write
abbrev HasProfile : {X : Type 0} → Units X → Type 0
HasProfile u = is_wsr u.board_registers.wsr ≡ true

byte_keeps_wsr : {X : Type 0} (u : Units X) (r : WritableByte) (n : ℕ) → HasProfile u → IfOk (with_byte u r n) HasProfile
byte_keeps_wsr u writes.Zeros n is = is
byte_keeps_wsr u writes.IntMask n is = is
byte_keeps_wsr u writes.IntMask1 n is = is
byte_keeps_wsr u writes.IntPend n is = is
byte_keeps_wsr u writes.IntPend1 n is = is
byte_keeps_wsr u writes.Wsr n is = if_ok HasProfile (is_wsr n) _ _ (λ same. same)
byte_keeps_wsr u writes.HsiMode n is = is
byte_keeps_wsr u writes.HsoCommand n is = is
byte_keeps_wsr u writes.Port1 n is = is
byte_keeps_wsr u writes.Port2 n is = is
byte_keeps_wsr u writes.Ioc0 n is = is
byte_keeps_wsr u writes.Ioc1 n is = is
byte_keeps_wsr u writes.Ioc2 n is = if_not_ok HasProfile (bit n 0 && has_timer2_of u.hso) _ _ is
byte_keeps_wsr u writes.Ioc3 n is = is

word_keeps_wsr : {X : Type 0} (f : Further X) (t : ℕ) (w : Window) (u : Units X) (r : WritableWord) (n : ℕ) → HasProfile u → IfOk (with_word u r n) HasProfile
word_keeps_wsr f t w u writes_word.HsoTime n is = load_holds f t w HasProfile u n (load_refusal u.hso (bit u.board_registers.ioc2 0)) is
word_keeps_wsr f t w u writes_word.Timer2 n is = is
word_keeps_wsr f t w u writes_word.PtsSelect n is = is
word_keeps_wsr f t w u writes_word.PtsService n is = is

byte_keeps_profile : {X : Type 0} (f : Further X) (t : ℕ) (w : Window) (u : Units X) (addr n : ℕ) → HasProfile u → IfOk (byte_written f t w u addr n) HasProfile
byte_keeps_profile f t w u addr n is = byte_holds f t w HasProfile u addr n (λ r e. byte_keeps_wsr u r n is) (λ d. is)

pub even_writes_keep_profile : {X : Type 0} (f : Further X) (t : ℕ) (w : Window) (u : Units X) (addr n : ℕ) → is_wsr u.board_registers.wsr ≡ true →
    IfOk (even_word_written f t w u addr n) (λ new. is_wsr new.board_registers.wsr ≡ true)
even_writes_keep_profile f t w u addr n is =
    word_holds f t w HasProfile u addr n (λ r. word_keeps_wsr f t w u r n is)
    (if_ok_weaker HasProfile _ (byte_written f t w u addr (n % 256)) (λ mid holds. byte_keeps_profile f t w mid (addr + 1) (n / 256) holds) (byte_keeps_profile f t w u addr (n % 256) is))

pub writes_keep_profile : {X : Type 0} → WritesKeepProfile X
writes_keep_profile f t w u addr n is = (
  byte_keeps_profile f t w u addr n is,
  unless_refused HasProfile (addr % 2 == 1) OddWord (even_word_written f t w u addr n) (even_writes_keep_profile f t w u addr n is),
)

-- the printed pins after a write
abbrev AreShownAlike : {X : Type 0} → Units X → Units X → Type 0
AreShownAlike u new = printed new.board_registers new.hso ≡ printed u.board_registers u.hso

byte_shows_alike : {X : Type 0} (u : Units X) (r : WritableByte) (n : ℕ) → shows_pins (Some r) ≡ false → IfOk (with_byte u r n) (AreShownAlike u)
byte_shows_alike u writes.Zeros n e = refl
byte_shows_alike u writes.IntMask n e = refl
byte_shows_alike u writes.IntMask1 n e = refl
byte_shows_alike u writes.IntPend n e = refl
byte_shows_alike u writes.IntPend1 n e = refl
byte_shows_alike u writes.Wsr n e = if_ok (AreShownAlike u) (is_wsr n) _ _ (λ same. refl)
byte_shows_alike u writes.HsiMode n e = refl
byte_shows_alike u writes.HsoCommand n e = refl
byte_shows_alike u writes.Port1 n e = absurd (false≢true (sym e))
byte_shows_alike u writes.Port2 n e = absurd (false≢true (sym e))
byte_shows_alike u writes.Ioc0 n e = refl
byte_shows_alike u writes.Ioc1 n e = absurd (false≢true (sym e))
byte_shows_alike u writes.Ioc2 n e = if_not_ok (AreShownAlike u) (bit n 0 && has_timer2_of u.hso) _ _ (emptied (bit n 7))
  where
    emptied : (b : Bool) → ◌≡◌ {A = ℕ} (printed u.board_registers (if b then cam.emptied u.hso else u.hso)) (printed u.board_registers u.hso)
    emptied true = refl
    emptied false = refl
byte_shows_alike u writes.Ioc3 n e = refl

word_shows_alike : {X : Type 0} (f : Further X) (t : ℕ) (w : Window) (u : Units X) (r : WritableWord) (n : ℕ) → IfOk (with_word u r n) (AreShownAlike u)
word_shows_alike f t w u writes_word.HsoTime n = load_holds f t w (AreShownAlike u) u n (load_refusal u.hso (bit u.board_registers.ioc2 0)) refl
word_shows_alike f t w u writes_word.Timer2 n = refl
word_shows_alike f t w u writes_word.PtsSelect n = refl
word_shows_alike f t w u writes_word.PtsService n = refl

pub other_writes_move_no_pin : {X : Type 0} → OtherWritesMoveNoPin X
other_writes_move_no_pin {X = X} f t w u addr n low = (
  if_ok_weaker (AreShownAlike u) _ (byte_written f t w u addr n) no_edge (byte u addr n low),
  λ high. if_ok_weaker (AreShownAlike u) _ (word_written f t w u addr n) no_edge
      (unless_refused (AreShownAlike u) (addr % 2 == 1) OddWord (even_word_written f t w u addr n)
      (word_holds f t w (AreShownAlike u) u addr n (λ r. word_shows_alike f t w u r n)
      (if_ok_weaker (AreShownAlike u) _ (byte_written f t w u addr (n % 256))
      (λ mid alike. if_ok_weaker (AreShownAlike mid) (AreShownAlike u) (byte_written f t w mid (addr + 1) (n / 256)) (λ new again. again ∙ alike) (byte mid (addr + 1) (n / 256) high))
      (byte u addr (n % 256) low)))),
)
  where
    no_edge : (new : Units X) → AreShownAlike u new → latch_edges u new ≡ []
    no_edge new alike = ap (edges_between (printed u.board_registers u.hso)) alike ∙ edges_none (printed u.board_registers u.hso) 18

    byte : (u : Units X) (addr n : ℕ) → moves_pins w addr ≡ false → IfOk (byte_written f t w u addr n) (AreShownAlike u)
    byte u addr n unmoved =
        byte_holds f t w (AreShownAlike u) u addr n
        (λ r e. byte_shows_alike u r n (ap shows_pins (sym e) ∙ unmoved))
        (λ d. refl)

-- What the register tables come to (80C196KC User's Manual, "Special Function Registers"; the orders of asking are this
-- kit's own).
use Rattle.std.specs.Prelude.{◌≡◌, ◌⊎◌, ℕ, ◌+◌, ◌-◌, ◌/◌, ◌%◌, Bool, true, false, is_some, Option, Some, None, Result, Ok, Err, IfOk, List, [], All, bit_or}
use Rattle.std.specs.List.{Contains}
use Rattle.kc_base.specs.declared.types.Kind.{Kind}
use Rattle.kc_base.specs.declared.types.Kind.TheVariants.{OddWord, NoRegister, ByteAccess}
use Rattle.kc_exec_spec.specs.Window.{is_wsr}
use Rattle.kc_stim.specs.Drives.{IsStill}
use Rattle.kc_extra.specs.Further.{Further}
use Rattle.kc_block_spec.specs.declared.registers.Window.{Window}
use Rattle.kc_block_spec.specs.declared.registers.WritableByte.{WritableByte}
use Rattle.kc_block_spec.specs.declared.registers.WritableByte.TheVariants.{Port1, Port2, Ioc1}
use Rattle.kc_block_spec.specs.Units.{Units}
use Rattle.kc_block_spec.specs.Levels.{stimulated_before, wired}
use Rattle.kc_block_spec.specs.Registers.{window_number, bytes_read, bytes_written, words_read, words_written, row_at}
use Rattle.kc_block_spec.specs.Reading.{byte_value, word_value, after_byte, after_word}
use Rattle.kc_block_spec.specs.Writing.{with_byte, with_word}
use Rattle.kc_block_spec.specs.Accesses.{latch_edges, byte_read, after_byte_read, byte_written, word_read, after_word_read, word_written}
use Rattle.kc_block_spec.specs.Looking.{half_at, levels_shown, looked}

-- a table names a register at an address
abbrev pub Names : {R : Type 0} → List (ℕ × R) → ℕ → Type 0
Names {R = R} rows addr = (r : R) × Contains rows (addr, r)

-- an address is the low or the high byte of a word register of a table
abbrev pub NamesHalf : {R : Type 0} → List (ℕ × R) → ℕ → Type 0
NamesHalf words addr = Names words addr ⊎ ((low : ℕ) × (addr ≡ low + 1) × Names words low)

-- exactly a register that the further unit has answers
abbrev pub AnswersWhereReadable : {X : Type 0} → Further X → Type 0
AnswersWhereReadable {X = X} f = (w s t : ℕ) (d : X) → is_some (f.answer w s t d) ≡ f.readable w s

-- each row of the tables is the register that answers at its address; none hides another
pub record RowsAnswer {X : Type 0} (f : Further X) (t : ℕ) (w : Window) (u : Units X) : Type 0 where
  pub reads : All (λ row. byte_read f t w u row.0 ≡ Ok (byte_value u row.1)) (bytes_read w)
  pub after_reads : All (λ row. after_byte_read f t w u row.0 ≡ after_byte u row.1) (bytes_read w)
  pub writes : All (λ row. (n : ℕ) → byte_written f t w u row.0 n ≡ with_byte u row.1 n) (bytes_written w)
  pub reads_of_words : All (λ row. word_read f t w u row.0 ≡ Ok (word_value t u row.1)) (words_read w)
  pub after_reads_of_words : All (λ row. after_word_read f t w u row.0 ≡ after_word u row.1) (words_read w)
  pub writes_of_words : All (λ row. (n : ℕ) → word_written f t w u row.0 n ≡ with_word u row.1 n) (words_written w)

abbrev pub NamedRegistersAnswer : Type 0 → Type 0
NamedRegistersAnswer X = (f : Further X) (t : ℕ) (w : Window) (u : Units X) → RowsAnswer f t w u

-- A byte that no row names: a half of a word register is refused as that, whatever the further unit has; else the further
-- unit's register answers; else there is none.
pub record UnnamedByteRead {X : Type 0} (f : Further X) (t : ℕ) (w : Window) (u : Units X) (addr : ℕ) : Type 0 where
  pub half : NamesHalf (words_read w) addr → byte_read f t w u addr ≡ Err ByteAccess
  pub further : (NamesHalf (words_read w) addr → ⊥) → f.readable (window_number w) addr ≡ true →
      (n : ℕ) × (f.answer (window_number w) addr t u.further ≡ Some n) × (byte_read f t w u addr ≡ Ok n)
  pub none : (NamesHalf (words_read w) addr → ⊥) → f.readable (window_number w) addr ≡ false → byte_read f t w u addr ≡ Err NoRegister

pub record UnnamedByteWritten {X : Type 0} (f : Further X) (t : ℕ) (w : Window) (u : Units X) (addr n : ℕ) : Type 0 where
  pub half : NamesHalf (words_written w) addr → byte_written f t w u addr n ≡ Err ByteAccess
  pub further : (NamesHalf (words_written w) addr → ⊥) → f.writable (window_number w) addr ≡ true →
      byte_written f t w u addr n ≡ Ok (record u { further = f.after_write (window_number w) addr n t u.further })
  pub none : (NamesHalf (words_written w) addr → ⊥) → f.writable (window_number w) addr ≡ false → byte_written f t w u addr n ≡ Err NoRegister

abbrev pub UnnamedReads : Type 0 → Type 0
UnnamedReads X = (f : Further X) → AnswersWhereReadable f → (t : ℕ) (w : Window) (u : Units X) (addr : ℕ) →
    (Names (bytes_read w) addr → ⊥) → UnnamedByteRead f t w u addr

abbrev pub UnnamedWrites : Type 0 → Type 0
UnnamedWrites X = (f : Further X) (t : ℕ) (w : Window) (u : Units X) (addr n : ℕ) →
    (Names (bytes_written w) addr → ⊥) → UnnamedByteWritten f t w u addr n

-- why an access is refused, if it is
abbrev pub refusal : {A : Type 0} → Result A Kind → Option Kind
refusal (Ok a) = None
refusal (Err kind) = Some kind

abbrev pub first_refusal : Option Kind → Option Kind → Option Kind
first_refusal (Some kind) other = Some kind
first_refusal None other = other

-- a word at an odd address is refused, whatever stands there, and changes nothing
pub record IsOddWord {X : Type 0} (f : Further X) (t : ℕ) (w : Window) (u : Units X) (addr n : ℕ) : Type 0 where
  pub read : word_read f t w u addr ≡ Err OddWord
  pub after_read : after_word_read f t w u addr ≡ u
  pub written : word_written f t w u addr n ≡ Err OddWord

abbrev pub OddWordsAreRefused : Type 0 → Type 0
OddWordsAreRefused X = (f : Further X) (t : ℕ) (w : Window) (u : Units X) (addr n : ℕ) → addr % 2 ≡ 1 → IsOddWord f t w u addr n

-- A word at an even address that is no word register asks both its bytes before either acts: it is refused as its low byte is,
-- else as its high byte is, both as the units stand when it begins.
abbrev pub BothBytesReadAreAsked : Type 0 → Type 0
BothBytesReadAreAsked X = (f : Further X) → AnswersWhereReadable f → (t : ℕ) (w : Window) (u : Units X) (addr : ℕ) → addr % 2 ≡ 0 →
    (Names (words_read w) addr → ⊥) →
    refusal (word_read f t w u addr) ≡ first_refusal (refusal (byte_read f t w u addr)) (refusal (byte_read f t w u (addr + 1)))

abbrev pub BothBytesWrittenAreAsked : Type 0 → Type 0
BothBytesWrittenAreAsked X = (f : Further X) (t : ℕ) (w : Window) (u : Units X) (addr n : ℕ) → addr % 2 ≡ 0 →
    (Names (words_written w) addr → ⊥) →
    refusal (word_written f t w u addr n)
    ≡ first_refusal (refusal (byte_written f t w u addr (n % 256))) (refusal (byte_written f t w u (addr + 1) (n / 256)))

-- a read changes the status bits, the loaded mark of HSI and the further unit at most
abbrev pub AreReadAlike : {X : Type 0} → Units X → Units X → Type 0
AreReadAlike old new = new ≡ record old {
  board_registers = record old.board_registers { ios1 = new.board_registers.ios1; ios2 = new.board_registers.ios2 };
  overflowed = new.overflowed;
  hsi = record old.hsi { loaded = new.hsi.loaded };
  further = new.further;
}

-- so it gives no edge and leaves WSR
pub record IsMildRead {X : Type 0} (old new : Units X) : Type 0 where
  pub alike : AreReadAlike old new
  pub edges : latch_edges old new ≡ []
  pub wsr : new.board_registers.wsr ≡ old.board_registers.wsr

abbrev pub ReadsAreMild : Type 0 → Type 0
ReadsAreMild X = (f : Further X) (t : ℕ) (w : Window) (u : Units X) (addr : ℕ) →
    IsMildRead u (after_byte_read f t w u addr) × IsMildRead u (after_word_read f t w u addr)

-- a write leaves WSR in the profile
abbrev pub WritesKeepProfile : Type 0 → Type 0
WritesKeepProfile X = (f : Further X) (t : ℕ) (w : Window) (u : Units X) (addr n : ℕ) → is_wsr u.board_registers.wsr ≡ true →
    IfOk (byte_written f t w u addr n) (λ new. is_wsr new.board_registers.wsr ≡ true) × IfOk (word_written f t w u addr n) (λ new. is_wsr new.board_registers.wsr ≡ true)

-- port 1, port 2 and IOC1
abbrev pub shows_pins : Option WritableByte → Bool
shows_pins (Some Port1) = true
shows_pins (Some Port2) = true
shows_pins (Some Ioc1) = true
shows_pins _ = false

abbrev pub moves_pins : Window → ℕ → Bool
moves_pins w addr = shows_pins (row_at (bytes_written w) addr)

-- a write of any other byte gives no edge, and so a word write of two others
abbrev pub OtherWritesMoveNoPin : Type 0 → Type 0
OtherWritesMoveNoPin X = (f : Further X) (t : ℕ) (w : Window) (u : Units X) (addr n : ℕ) → moves_pins w addr ≡ false →
    IfOk (byte_written f t w u addr n) (λ new. latch_edges u new ≡ [])
    × (moves_pins w (addr + 1) ≡ false → IfOk (word_written f t w u addr n) (λ new. latch_edges u new ≡ []))

-- A look shows what a read would answer where the inputs show the levels of the state before; each half of a word register;
-- and 0 where there is no register.
pub record IsLook {X : Type 0} (f : Further X) (t : ℕ) (w : Window) (u : Units X) (addr : ℕ) : Type 0 where
  pub byte : (n : ℕ) → byte_read f t w u addr ≡ Ok n → looked f t w u addr ≡ n
  pub half : (n : ℕ) → byte_read f t w u addr ≡ Err ByteAccess → word_read f t w u (addr - addr % 2) ≡ Ok n → looked f t w u addr ≡ half_at addr n
  pub none : byte_read f t w u addr ≡ Err NoRegister → looked f t w u addr ≡ 0

abbrev pub LooksAreReads : Type 0 → Type 0
LooksAreReads X = (f : Further X) (t : ℕ) (w : Window) (u : Units X) (addr : ℕ) → levels_shown t u ≡ u.board_registers.levels → IsLook f t w u addr

-- the inputs show the levels of the state before where no stimulus changes one
abbrev pub LevelsShownStay : Type 0 → Type 0
LevelsShownStay X = (t outs : ℕ) (u : Units X) → u.board_registers.levels ≡ bit_or (stimulated_before u.drives t) (wired u.drives outs) →
    IsStill u.drives.stimuli t → levels_shown t u ≡ u.board_registers.levels

-- An access below 0018H in state t, after the Tick of that state: its answer or refusal, and what it leaves (80C196KC User's
-- Manual, "Special Function Registers"; the order in which registers, halves of words and the further unit are asked is this
-- kit's own).
use Rattle.std.specs.Prelude.{ℕ, ◌+◌, ◌*◌, ◌/◌, ◌%◌, ◌==◌, Option, Some, None, Result, Ok, Err, List, if◌then◌else◌}
use Rattle.kc_base.specs.declared.types.Edge.{Edge}
use Rattle.kc_base.specs.declared.types.Kind.{Kind}
use Rattle.kc_base.specs.declared.types.Kind.TheVariants.{OddWord, NoRegister, ByteAccess}
use Rattle.kc_extra.specs.Further.{Further}
use Rattle.kc_block_spec.specs.declared.registers.Window.{Window}
use Rattle.kc_block_spec.specs.declared.registers.ReadableByte.{ReadableByte}
use Rattle.kc_block_spec.specs.declared.registers.WritableByte.{WritableByte}
use Rattle.kc_block_spec.specs.declared.registers.ReadableWord.{ReadableWord}
use Rattle.kc_block_spec.specs.declared.registers.WritableWord.{WritableWord}
use Rattle.kc_block_spec.specs.Units.{Units}
use Rattle.kc_block_spec.specs.Levels.{printed, edges_between}
use Rattle.kc_block_spec.specs.Registers.{window_number, bytes_read, bytes_written, words_read, words_written, row_at, is_half}
use Rattle.kc_block_spec.specs.Reading.{byte_value, word_value, after_byte, after_word}
use Rattle.kc_block_spec.specs.Writing.{with_byte, with_word}

infixl 10 ◌>>=◌
abbrev pub ◌>>=◌ : {A B : Type 0} → Result A Kind → (A → Result B Kind) → Result B Kind
(Ok a) >>= f = f a
(Err k) >>= f = Err k

abbrev pub or_no_register : Option ℕ → Result ℕ Kind
or_no_register (Some n) = Ok n
or_no_register None = Err NoRegister

-- the edges of printed pins where an access has changed a latch
abbrev pub latch_edges : {X : Type 0} → Units X → Units X → List Edge
latch_edges old new = edges_between (printed old.board_registers old.hso) (printed new.board_registers new.hso)

module _ {X : Type 0} (f : Further X) where
  -- what no register of the board answers: a half of a word register, a register of the further unit, or nothing
  abbrev pub other_read : ℕ → Window → Units X → ℕ → Result ℕ Kind
  other_read t w u addr =
      if is_half (words_read w) addr then Err ByteAccess
      else or_no_register (f.answer (window_number w) addr t u.further)

  abbrev pub after_other_read : ℕ → Window → Units X → ℕ → Units X
  after_other_read t w u addr =
      if is_half (words_read w) addr then u
      else record u { further = f.after_read (window_number w) addr t u.further }

  abbrev pub other_written : ℕ → Window → Units X → ℕ → ℕ → Result (Units X) Kind
  other_written t w u addr n =
      if is_half (words_written w) addr then Err ByteAccess
      else if f.writable (window_number w) addr then Ok (record u { further = f.after_write (window_number w) addr n t u.further })
      else Err NoRegister

  abbrev pub byte_read_as : ℕ → Window → Units X → ℕ → Option ReadableByte → Result ℕ Kind
  byte_read_as t w u addr (Some r) = Ok (byte_value u r)
  byte_read_as t w u addr None = other_read t w u addr

  abbrev pub after_byte_read_as : ℕ → Window → Units X → ℕ → Option ReadableByte → Units X
  after_byte_read_as t w u addr (Some r) = after_byte u r
  after_byte_read_as t w u addr None = after_other_read t w u addr

  abbrev pub byte_written_as : ℕ → Window → Units X → ℕ → ℕ → Option WritableByte → Result (Units X) Kind
  byte_written_as t w u addr n (Some r) = with_byte u r n
  byte_written_as t w u addr n None = other_written t w u addr n

  -- a byte read: its answer, and the units after it
  abbrev pub byte_read : ℕ → Window → Units X → ℕ → Result ℕ Kind
  byte_read t w u addr = byte_read_as t w u addr (row_at (bytes_read w) addr)

  abbrev pub after_byte_read : ℕ → Window → Units X → ℕ → Units X
  after_byte_read t w u addr = after_byte_read_as t w u addr (row_at (bytes_read w) addr)

  -- the units after a byte write, or its refusal
  abbrev pub byte_written : ℕ → Window → Units X → ℕ → ℕ → Result (Units X) Kind
  byte_written t w u addr n = byte_written_as t w u addr n (row_at (bytes_written w) addr)

  -- A word that is no word register is two bytes, the low one first, both in the window in which the access began.
  abbrev pub two_bytes_read : ℕ → Window → Units X → ℕ → Result ℕ Kind
  two_bytes_read t w u addr =
      byte_read t w u addr >>= λ low. byte_read t w (after_byte_read t w u addr) (addr + 1) >>= λ high. Ok (low + 256 * high)

  abbrev pub word_read_as : ℕ → Window → Units X → ℕ → Option ReadableWord → Result ℕ Kind
  word_read_as t w u addr (Some r) = Ok (word_value t u r)
  word_read_as t w u addr None = two_bytes_read t w u addr

  abbrev pub even_word_read : ℕ → Window → Units X → ℕ → Result ℕ Kind
  even_word_read t w u addr = word_read_as t w u addr (row_at (words_read w) addr)

  -- a word stands at an even address: at an odd one an access is refused, and changes nothing
  abbrev pub word_read : ℕ → Window → Units X → ℕ → Result ℕ Kind
  word_read t w u addr = if addr % 2 == 1 then Err OddWord else even_word_read t w u addr

  abbrev pub after_word_read_as : ℕ → Window → Units X → ℕ → Option ReadableWord → Units X
  after_word_read_as t w u addr (Some r) = after_word u r
  after_word_read_as t w u addr None = after_byte_read t w (after_byte_read t w u addr) (addr + 1)

  abbrev pub after_even_word_read : ℕ → Window → Units X → ℕ → Units X
  after_even_word_read t w u addr = after_word_read_as t w u addr (row_at (words_read w) addr)

  abbrev pub after_word_read : ℕ → Window → Units X → ℕ → Units X
  after_word_read t w u addr = if addr % 2 == 1 then u else after_even_word_read t w u addr

  abbrev pub word_written_as : ℕ → Window → Units X → ℕ → ℕ → Option WritableWord → Result (Units X) Kind
  word_written_as t w u addr n (Some r) = with_word u r n
  word_written_as t w u addr n None = byte_written t w u addr (n % 256) >>= λ mid. byte_written t w mid (addr + 1) (n / 256)

  abbrev pub even_word_written : ℕ → Window → Units X → ℕ → ℕ → Result (Units X) Kind
  even_word_written t w u addr n = word_written_as t w u addr n (row_at (words_written w) addr)

  abbrev pub word_written : ℕ → Window → Units X → ℕ → ℕ → Result (Units X) Kind
  word_written t w u addr n = if addr % 2 == 1 then Err OddWord else even_word_written t w u addr n

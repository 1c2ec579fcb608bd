-- What a special function register shows at the start of state t, without the effect of a read (this kit's own).
use Rattle.std.specs.Prelude.{ℕ, ◌-◌, ◌/◌, ◌%◌, ◌==◌, is_some, Option, Some, None, if◌then◌else◌, bit_and, bit_or}
use Rattle.std.specs.Option.{unwrap_or}
use Rattle.kc_base.specs.Pins.{pin_count}
use Rattle.kc_stim.specs.Drives.{Drives, wire_to}
use Rattle.kc_extra.specs.Further.{Further}
use Rattle.kc_block_spec.specs.declared.registers.Window.{Window}
use Rattle.kc_block_spec.specs.declared.registers.ReadableByte.{ReadableByte}
use Rattle.kc_block_spec.specs.declared.registers.ReadableWord.{ReadableWord}
use Rattle.kc_block_spec.specs.Units.{Units}
use Rattle.kc_block_spec.specs.Levels.{mask_of, stimulated}
use Rattle.kc_block_spec.specs.Registers.{window_number, bytes_read, words_read, row_at}
use Rattle.kc_block_spec.specs.Reading.{byte_value, word_value}

-- the inputs that have a wire
abbrev pub wired_inputs : Drives → ℕ
wired_inputs drives = mask_of (λ pin. is_some (wire_to drives.wires pin)) pin_count

-- an input has the level of its stimuli in state t, a wired one that of the state before
abbrev pub levels_shown : {X : Type 0} → ℕ → Units X → ℕ
levels_shown t u = bit_or (stimulated u.drives t) (bit_and u.board_registers.levels (wired_inputs u.drives))

abbrev pub with_levels : {X : Type 0} → Units X → ℕ → Units X
with_levels u levels = record u { board_registers = record u.board_registers { levels = levels } }

-- the byte of a word that stands at an address
abbrev pub half_at : ℕ → ℕ → ℕ
half_at addr n = if addr % 2 == 0 then n % 256 else n / 256

module _ {X : Type 0} (f : Further X) where
  abbrev pub look_word : ℕ → Window → Units X → ℕ → Option ReadableWord → ℕ
  look_word t w u addr (Some r) = half_at addr (word_value t u r)
  look_word t w u addr None = unwrap_or (f.answer (window_number w) addr t u.further) 0

  abbrev pub look_byte : ℕ → Window → Units X → ℕ → Option ReadableByte → ℕ
  look_byte t w u addr (Some r) = byte_value u r
  look_byte t w u addr None = look_word t w u addr (row_at (words_read w) (addr - addr % 2))

  -- what a read would give, each half of a word register, and 0 where a read is undefined
  abbrev pub looked : ℕ → Window → Units X → ℕ → ℕ
  looked t w u addr = look_byte t w (with_levels u (levels_shown t u)) addr (row_at (bytes_read w) addr)

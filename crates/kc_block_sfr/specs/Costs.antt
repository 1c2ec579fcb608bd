-- How many calls of units an access makes at most (this kit's own).
use Rattle.std.specs.Prelude.{ℕ, ◌+◌, Bool, true, false, is_some, if◌then◌else◌}
use Rattle.kc_block_spec.specs.declared.registers.WritableByte.{WritableByte}
use Rattle.kc_block_spec.specs.declared.registers.WritableByte.TheVariants.{HsiMode, HsoCommand, Ioc0, Ioc1, Ioc2, Ioc3}
use Rattle.kc_block_spec.specs.Registers.{bytes_read_everywhere, bytes_written_everywhere, row_at}

-- none for what is no unit's, else four: two units are caught up and asked
abbrev pub calls_unless : Bool → ℕ
calls_unless free = if free then 0 else 4

-- a byte register that every window has is no unit's
abbrev pub read_calls : ℕ → ℕ
read_calls sfr = calls_unless (is_some (row_at bytes_read_everywhere sfr))

abbrev pub write_calls : ℕ → ℕ
write_calls sfr = calls_unless (is_some (row_at bytes_written_everywhere sfr))

-- and for the two bytes of a word
abbrev pub word_read_calls : ℕ → ℕ
word_read_calls sfr = read_calls sfr + read_calls (sfr + 1)

abbrev pub word_write_calls : ℕ → ℕ
word_write_calls sfr = write_calls sfr + write_calls (sfr + 1)

-- the registers of which no unit, output or deferred unit's rule reads anything
abbrev pub is_plain : WritableByte → Bool
is_plain HsiMode = false
is_plain HsoCommand = false
is_plain Ioc0 = false
is_plain Ioc1 = false
is_plain Ioc2 = false
is_plain Ioc3 = false
is_plain _ = true

-- and by the register that is written: those that no unit holds need none
abbrev pub named_calls : WritableByte → ℕ
named_calls r = calls_unless (is_plain r)

-- Limits that hold in every part of the kit (this kit's own), and the memory map (80C196KC User's Manual, "Memory Map").
use Rattle.std.specs.Prelude.{ℕ, ◌^◌}

-- the most state times that a run may have, and the greatest state time that a text may name
abbrev pub max_states : ℕ
max_states = 10 ^ 15

-- the most bytes that a file may have
abbrev pub file_limit : ℕ
file_limit = 1048576

-- the requests that a processor may enter: the sixteen, TRAP, and the opcode that no instruction has; and those that the transfer
-- server may serve (80C196KC User's Manual, "Interrupts" and "Peripheral Transaction Server")
abbrev pub entry_count : ℕ
entry_count = 18

abbrev pub transfer_count : ℕ
transfer_count = 15

-- the memory map: the first address behind the register file, that of the hole where nothing answers, that of an image with
-- its ROM, and the first behind the ROM (the hole and the ROM's end are this kit's own)
abbrev pub register_file_end : ℕ
register_file_end = 0x200

abbrev pub hole_start : ℕ
hole_start = 0x1FFE

abbrev pub image_start : ℕ
image_start = 0x2000

abbrev pub rom_end : ℕ
rom_end = 0x6000

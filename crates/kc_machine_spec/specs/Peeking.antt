-- What stands at an address, seen and changed without an access (this kit's own).
use Rattle.std.specs.Prelude.{ℕ, nat_lt, if◌then◌else◌, slice_index, slice_set}
use Rattle.kc_exec_spec.specs.declared.access.Master.TheVariants.{Cpu}
use Rattle.kc_exec_spec.specs.Memory.{is_hole}
use Rattle.kc_extra.specs.Further.{Further}
use Rattle.kc_block_spec.specs.Registers.{window_seen}
use Rattle.kc_block_spec.specs.Looking.{looked}
use Rattle.kc_machine_spec.specs.Machine.{Machine}

-- the byte at an address, in the window that the processor sees
abbrev pub peeked : {X : Type 0} → Further X → Machine X → ℕ → ℕ
peeked f m addr =
    if nat_lt addr 24 then looked f m.time (window_seen Cpu m.board.units.board_registers.wsr) m.board.units addr
    else if is_hole addr then 0
    else slice_index m.board.memory addr

-- another byte at an address
abbrev pub poked : {X : Type 0} → Machine X → ℕ → ℕ → Machine X
poked m addr n = record m { board = record m.board { memory = slice_set m.board.memory addr n } }

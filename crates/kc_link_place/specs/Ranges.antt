-- Where relocatable pieces may stand (80C196KC User's Manual, "Memory Map", for the regions; the bounds are this kit's own).
use Rattle.std.specs.Prelude.{ℕ, Bool, ◌-◌, ◌&&◌, ◌||◌, nat_le, None}
use Rattle.kc_base.specs.Limits.{register_file_end, hole_start, image_start, rom_end}
use Rattle.kc_obj_module.specs.declared.parts.SegKind.{SegKind}
use Rattle.kc_obj_module.specs.declared.parts.SegKind.TheVariants.{Reg, Code}
use Rattle.kc_link_place.specs.declared.ranges.Ranges.{Ranges}

-- from the first to the last address, within bounds
abbrev pub lies_within : ℕ → ℕ → ℕ × ℕ → Bool
lies_within low high range = nat_le low range.0 && nat_le range.0 range.1 && nat_le range.1 high

-- registers above the special function registers, program memory, data memory of the chip or beside it
abbrev pub are_in_bounds : Ranges → Bool
are_in_bounds r = lies_within 0x1A (register_file_end - 1) r.reg && lies_within image_start 0xFFFF r.code && (lies_within register_file_end (hole_start - 1) r.ram || lies_within rom_end 0xFFFF r.ram)

-- where they stand unless it is said otherwise; the stack is that of all stack pieces
abbrev pub default_ranges : Ranges
default_ranges = record { reg = (0x1A, 0xFF); code = (0x2080, rom_end - 1); ram = (register_file_end, hole_start - 1); stack = None }

-- the stack stands in the range of data
abbrev pub range_of : Ranges → SegKind → ℕ × ℕ
range_of r Reg = (r.reg.0, r.reg.1)
range_of r Code = (r.code.0, r.code.1)
range_of r _ = (r.ram.0, r.ram.1)

-- long registers are divisible by 4, words by 2
abbrev pub step_of : SegKind → ℕ
step_of Reg = 4
step_of _ = 2

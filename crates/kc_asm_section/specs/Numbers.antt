-- The number of a piece is where it stands, and the own number of an absolute part does not matter.
use Rattle.std.specs.Prelude.{◌≡◌, ℕ, true, ◌<◌, ◌≤◌, Some, length, slice_get}
use Rattle.kc_asm_encode.specs.declared.relocatable_byte.RelocatableByte.{RelocatableByte}
use Rattle.kc_asm_encode.specs.Relocating.{shown, relocated}
use Rattle.kc_asm_section.specs.declared.unlinked.UnlinkedModule.{UnlinkedModule}
use Rattle.kc_asm_section.specs.Order.{is_named, number_of}
use Rattle.kc_asm_section.specs.ModuleOf.{kept_in, pieces_in}

-- a relocatable part that something names is the piece with its number
abbrev pub NumbersStand : Type 0
NumbersStand =
    (d : UnlinkedModule) → 3 ≤ length d.parts.items → (part : ℕ) → part < 3
    → is_named d.parts.items d.publics.items part ≡ true
    → slice_get (pieces_in d) (number_of (kept_in d) part) ≡ slice_get d.parts.items part

abbrev pub AbsoluteAlike : Type 0
AbsoluteAlike =
    (at own other place : ℕ) (relocatable_byte : RelocatableByte)
    → (shown (Some at) own place relocatable_byte ≡ shown (Some at) other place relocatable_byte)
    × (relocated (Some at) own relocatable_byte ≡ relocated (Some at) other relocatable_byte)

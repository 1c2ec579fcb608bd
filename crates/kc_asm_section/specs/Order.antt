-- Which parts of an unlinked module are pieces of its module, in which order (this kit's own).
use Rattle.std.specs.Prelude.{ℕ, Bool, true, false, ◌+◌, ◌==◌, ◌||◌, nat_lt, if◌then◌else◌, Option, Some, None, List, [], ◌∷◌, ◌++◌, drop, slice_get}
use Rattle.std.specs.List.{list_any}
use Rattle.kc_expr.specs.declared.values.Value.{Value}
use Rattle.kc_obj_module.specs.declared.parts.SegKind.TheVariants.{Stack}
use Rattle.kc_obj_module.specs.declared.parts.Segment.{Segment}
use Rattle.kc_obj_module.specs.Pieces.{kind_number}
use Rattle.kc_asm_encode.specs.declared.relocatable_byte.RelocatableByte.{RelocatableByte}
use Rattle.kc_asm_encode.specs.Relocating.{is_piece, relocated}
use Rattle.kc_asm_section.specs.declared.unlinked.Public.{Public}
use Rattle.kc_asm_section.specs.Section.{Section, section_of}
use Rattle.kc_asm_section.specs.declared.kept.Kept.{Kept}

-- where a part begins, as far as it is known
abbrev pub start_of : Option ℕ → ℕ
start_of None = 0
start_of (Some base) = base

-- the number that a relocation at a relocatable byte of a part fills in: its kind and its value. The own number of a relocatable part
-- is that of its kind; for an absolute part it does not matter
abbrev pub relocation : Section → RelocatableByte → Option (ℕ × Value)
relocation t relocatable_byte = relocated t.at (kind_number t.kind) relocatable_byte

abbrev pub aims_at : ℕ → Option (ℕ × Value) → Bool
aims_at part None = false
aims_at part (Some r) = is_piece part r.1.base

-- a public or the target of a relocation names the relocatable part with this number
unfoldable pub is_named : List Section → List Public → ℕ → Bool
is_named parts publics n =
    list_any (λ p. is_piece n p.value.base) publics
    || list_any (λ t. list_any (λ c. aims_at n (relocation t c.relocatable_byte)) t.placed_bytes) parts

-- a relocatable part is a piece where it is nonempty or named
abbrev pub stays : List Section → List Public → Section → ℕ → Bool
stays parts publics t n = nat_lt 0 t.length || is_named parts publics n

abbrev pub stays_in : List Section → List Public → ℕ → Option Section → Bool
stays_in parts publics n None = false
stays_in parts publics n (Some t) = stays parts publics t n

unfoldable pub kept_of : List Section → List Public → Kept
kept_of parts publics = record {
  registers = stays_in parts publics 0 (slice_get parts 0);
  code = stays_in parts publics 1 (slice_get parts 1);
  ram = stays_in parts publics 2 (slice_get parts 2);
}

abbrev pub count_of : Bool → ℕ
count_of b = if b then 1 else 0

-- the number of the piece that a relocatable part is: how many pieces stand before it
abbrev pub number_of : Kept → ℕ → ℕ
number_of kept part =
    if part == 0 then 0
    else if part == 1 then count_of kept.registers
    else count_of kept.registers + count_of kept.code

abbrev pub kept_if : Bool → Option Section → List Section
kept_if true (Some t) = t ∷ []
kept_if true None = []
kept_if false t = []

abbrev pub stack_section : ℕ → Section
stack_section bytes = section_of Stack None bytes [] []

-- the stack is a piece where it has bytes
abbrev pub stack_pieces : ℕ → List Section
stack_pieces bytes = if bytes == 0 then [] else stack_section bytes ∷ []

-- relocatable parts by kind, the stack, absolute parts in their order
abbrev pub in_order : Kept → Option Section → Option Section → Option Section → ℕ → List Section → List Section
in_order kept registers code ram stack absolute =
    kept_if kept.registers registers
    ++ (kept_if kept.code code ++ (kept_if kept.ram ram ++ (stack_pieces stack ++ absolute)))

-- the pieces of the module
abbrev pub pieces_of : Kept → List Section → ℕ → List Section
pieces_of kept parts stack = in_order kept (slice_get parts 0) (slice_get parts 1) (slice_get parts 2) stack (drop 3 parts)

abbrev pub segment_of : Section → Segment
segment_of t = record { kind = t.kind; at = t.at; length = t.length }

-- Where all pieces stand, or the first of the rules on names, overlaps and room that is broken (after RL96 of the MCS-96
-- utilities, in outline; the order of the rules is this kit's own).
use Rattle.std.specs.Prelude.{◌≡◌, ℕ, Bool, ◌+◌, ◌*◌, ◌/◌, ◌%◌, ◌==◌, ◌&&◌, nat_le, if◌then◌else◌, Option, Some, None, Result, Ok, Err, List, [], ◌∷◌, ◌++◌, length, map, slice_get}
use Rattle.std.specs.Option.{option_map}
use Rattle.kc_obj_module.specs.declared.parts.SegKind.TheVariants.{Stack}
use Rattle.kc_obj_module.specs.declared.parts.Segment.{Segment}
use Rattle.kc_obj_module.specs.Object.{Object}
use Rattle.kc_obj_module.specs.Names.{is_stack_name}
use Rattle.kc_obj_module.specs.Numbers.{Bases}
use Rattle.kc_link_place.specs.BaseLists.{BaseLists, bases_in, or_0}
use Rattle.kc_link_place.specs.declared.ranges.Ranges.{Ranges}
use Rattle.kc_link_place.specs.declared.ranges.LinkFault.{LinkFault}
use Rattle.kc_link_place.specs.declared.ranges.LinkFault.TheVariants.{Unresolved, OverlapName, OverlapPlace, Capacity, NoMemory}
use Rattle.kc_link_place.specs.declared.pieces.Piece.{Piece}
use Rattle.kc_link_place.specs.declared.pieces.Stand.{Stand}
use Rattle.kc_link_place.specs.declared.names.DefiningModule.{DefiningModule}
use Rattle.kc_link_place.specs.declared.gaps.Gap.{Gap}
use Rattle.kc_link_place.specs.declared.putting.NoPlace.{NoPlace}
use Rattle.kc_link_place.specs.declared.putting.NoPlace.TheVariants.{NoRoom, NoMemoryLeft}
use Rattle.kc_link_place.specs.Gaps.{Represents}
use Rattle.std.specs.Global.{Vec}
use Rattle.kc_link_place.specs.Ranges.{range_of, step_of}
use Rattle.kc_link_place.specs.Stands.{how_many, least, least_free, stand_at, same_kind, fixed_from, wanted}
use Rattle.kc_link_place.specs.Names.{defining_of, unresolved, doubled}

-- ---- overlaps: the least address above the special function registers that two absolute pieces have

unfoldable pub overlap : List Stand → Option ℕ
overlap stands = least (λ a. nat_le 2 (how_many stands a)) 0xFFE6 0x1A

-- ---- relocatable pieces: each at the least free address of its range, in order; or the first one without room

unfoldable pub put_all : Ranges → List Stand → List Stand → List Piece → Result (List Stand) Piece
put_all ranges fixed puts [] = Ok puts
put_all ranges fixed puts (p ∷ ps) = elim (least_free (fixed ++ puts) (range_of ranges p.kind) (step_of p.kind) p.size) [
  | None ↦ Err p
  | Some a ↦ put_all ranges fixed (puts ++ stand_at p a ∷ []) ps
]

abbrev pub is_at : Stand → ℕ → ℕ → Bool
is_at s index number = (s.piece.index == index) && (s.piece.number == number)

unfoldable pub put_at : List Stand → ℕ → ℕ → ℕ
put_at [] index number = 0
put_at (s ∷ ss) index number = if is_at s index number then s.at else put_at ss index number

-- ---- the stack: one piece of the length of all stack pieces or of the length that is asked for, rounded up to even, behind all others

abbrev pub stack_part : Segment → ℕ
stack_part s = if same_kind Stack s.kind then s.length else 0

abbrev pub stack_in : List Segment → ℕ
stack_in [] = 0
stack_in (s ∷ ss) = stack_part s + stack_in ss

unfoldable pub stack_sum : List Object → ℕ
stack_sum [] = 0
stack_sum (m ∷ ms) = stack_in m.segments + stack_sum ms

abbrev pub or_asked : Option ℕ → ℕ → ℕ
or_asked None sum = sum
or_asked (Some n) sum = n

unfoldable pub stack_size : Ranges → List Object → ℕ
stack_size ranges ms = (or_asked ranges.stack (stack_sum ms) + 1) / 2 * 2

-- ---- the places

-- the address of each piece of each module, and the address after the stack
pub record Places : Type 0 where
  pub pieces : List (List ℕ)
  pub after_stack : ℕ

abbrev pub place_of : List Stand → ℕ → ℕ → ℕ → Segment → ℕ
place_of puts stack index number s = elim s.at [
  | Some a ↦ a
  | None ↦ if same_kind Stack s.kind then stack else put_at puts index number
]

unfoldable pub places_in : List Stand → ℕ → ℕ → ℕ → List Segment → List ℕ
places_in puts stack index number [] = []
places_in puts stack index number (s ∷ ss) = place_of puts stack index number s ∷ places_in puts stack index (number + 1) ss

unfoldable pub places_from : List Stand → ℕ → ℕ → List Object → List (List ℕ)
places_from puts stack index [] = []
places_from puts stack index (m ∷ ms) = places_in puts stack index 0 m.segments ∷ places_from puts stack (index + 1) ms

abbrev pub places_with : List Object → List Stand → ℕ → ℕ → Places
places_with ms puts size stack = record { pieces = places_from puts stack 0 ms; after_stack = (stack + size) % 65536 }

-- an empty stack needs no room
abbrev pub stack_at : ℕ → Option ℕ → Option ℕ
stack_at size (Some at) = Some at
stack_at size None = if size == 0 then Some 0 else None

abbrev pub with_stack : List Object → List Stand → ℕ → Option ℕ → Result Places LinkFault
with_stack ms puts size (Some stack) = Ok (places_with ms puts size stack)
with_stack ms puts size None = Err (Capacity Stack (length ms))

abbrev pub with_puts : List Object → Ranges → Result (List Stand) Piece → Result Places LinkFault
with_puts ms ranges (Err p) = Err (Capacity p.kind p.index)
with_puts ms ranges (Ok puts) =
    with_stack ms puts (stack_size ranges ms) (stack_at (stack_size ranges ms) (least_free (fixed_from 0 ms ++ puts) (range_of ranges Stack) 2 (stack_size ranges ms)))

abbrev pub unless : Option LinkFault → Result Places LinkFault → Result Places LinkFault
unless None result = result
unless (Some fault) result = Err fault

-- the places of all pieces, or the first broken rule
unfoldable pub located : List Object → Ranges → Result Places LinkFault
located ms ranges =
    unless (option_map Unresolved (unresolved ms (stack_size ranges ms) ms))
    (unless (option_map OverlapName (doubled ms 0 ms))
    (unless (option_map OverlapPlace (overlap (fixed_from 0 ms)))
    (with_puts ms ranges (put_all ranges (fixed_from 0 ms) [] (wanted ms)))))

-- ---- what the numbers of a module count from

abbrev pub list_at : List (List ℕ) → ℕ → List ℕ
list_at lists index = elim (slice_get lists index) [ None ↦ [] | Some l ↦ l ]

-- the address of a piece of a module
unfoldable pub base_at : List (List ℕ) → ℕ → ℕ → ℕ
base_at pieces index number = or_0 (slice_get (list_at pieces index) number)

abbrev pub defining_number : List (List ℕ) → Option DefiningModule → ℕ
defining_number pieces None = 0
defining_number pieces (Some h) = elim h.piece [ None ↦ h.value | Some p ↦ (base_at pieces h.index p + h.value) % 65536 ]

-- the number of a name: the address after the stack, or what the first module that gives the name makes of it
abbrev pub name_number : List Object → Places → List ℕ → ℕ
name_number ms places name = if is_stack_name name then places.after_stack else defining_number places.pieces (defining_of ms name)

unfoldable pub base_lists : List Object → Places → ℕ → Object → BaseLists
base_lists ms places index m = record { pieces = list_at places.pieces index; externals = map (λ t. name_number ms places t.name) m.externals }

abbrev pub bases_of : List Object → Places → ℕ → Object → Bases
bases_of ms places index m = bases_in (base_lists ms places index m)

unfoldable pub bases_from : List Object → Places → ℕ → List Object → List BaseLists
bases_from all places index [] = []
bases_from all places index (m ∷ ms) = base_lists all places index m ∷ bases_from all places (index + 1) ms

-- ---- what a call of placing answers

-- out of memory has no cause here
abbrev pub IsCause : LinkFault → Type 0 → Type 0
IsCause NoMemory P = Unit {0}
IsCause _ P = P

-- the places, or the fault
abbrev pub ArePlaced : Result Places LinkFault → Result Places LinkFault → Type 0
ArePlaced located (Ok places) = located ≡ Ok places
ArePlaced located (Err fault) = IsCause fault (located ≡ Err fault)

-- a rule is kept, or broken with this fault
abbrev pub IsKept : {A : Type 0} → Option LinkFault → Result A LinkFault → Type 0
IsKept broken (Ok x) = broken ≡ None
IsKept broken (Err fault) = IsCause fault (broken ≡ Some fault)

abbrev pub fault_of : NoPlace → LinkFault
fault_of (NoRoom p) = Capacity p.kind p.index
fault_of NoMemoryLeft = NoMemory

-- one piece is put
abbrev pub IsPut : Ranges → List Stand → Piece → List Gap → Result Stand NoPlace → Type 0
IsPut ranges taken p gaps (Ok s) = (least_free taken (range_of ranges p.kind) (step_of p.kind) p.size ≡ Some s.at) × ((s ≡ stand_at p s.at) × Represents gaps (taken ++ s ∷ []))
IsPut ranges taken p gaps (Err (NoRoom q)) = (least_free taken (range_of ranges p.kind) (step_of p.kind) p.size ≡ None) × (q ≡ p)
IsPut ranges taken p gaps (Err NoMemoryLeft) = Unit {0}

-- all of them are put
abbrev pub ArePut : Ranges → List Stand → List Piece → List Gap → Result (Vec Stand) NoPlace → Type 0
ArePut ranges fixed ps gaps (Ok puts) = (put_all ranges fixed [] ps ≡ Ok puts.items) × Represents gaps (fixed ++ puts.items)
ArePut ranges fixed ps gaps (Err (NoRoom p)) = put_all ranges fixed [] ps ≡ Err p
ArePut ranges fixed ps gaps (Err NoMemoryLeft) = Unit {0}

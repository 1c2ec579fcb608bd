-- The faults of one statement, where it stands: those of its values; 24 for a generic branch whose target counts from no
-- label, no external and not from `$`; 12 and 19 for numbers that do not fit where they depend on no base; 17 for ORG
-- backwards, a place past the end of memory, or a stack past 65,535 bytes; 22 outside the regions of absolute pieces; 20 for
-- a public name that counts from an external (after the MCS-96 Macro Assembler User's Guide, "Assembler Directives"; regions and
-- codes are this kit's own).
use Rattle.std.specs.Prelude.{ℕ, ◌+◌, ◌-◌, Bool, true, false, not, ◌&&◌, ◌==◌, nat_lt, nat_le, if◌then◌else◌, List, [], ◌∷◌, ◌++◌, Option, Some, None, unwrap_or, Ok, Err, slice_get, is_some, is_none}
use Rattle.std.specs.List.{flat_map}
use Rattle.std.specs.Option.{option_to_list}
use Rattle.kc_lex.specs.Codes.{past_the_end, out_of_reach, not_public, outside_region, no_label}
use Rattle.kc_obj_module.specs.declared.parts.SegKind.{SegKind}
use Rattle.kc_obj_module.specs.declared.parts.SegKind.TheVariants.{Reg, Code, Ram}
use Rattle.kc_obj_module.specs.Pieces.{in_region}
use Rattle.kc_expr.specs.Tree.{Tree}
use Rattle.kc_expr.specs.Meaning.{Answer}
use Rattle.kc_source_statement.specs.Trees.{ArgTree, ActionTree, Module, Cseg, Dseg, Rseg, Sseg, Public, Define, Reserve, Org, Operation}
use Rattle.kc_source_statement.specs.Trees as trees
use Rattle.kc_asm_symbols.specs.declared.segments.Segment.{Segment}
use Rattle.kc_asm_symbols.specs.Located.{is_absolute}
use Rattle.kc_asm_encode.specs.declared.relocatable_byte.RelocatableByte.{RelocatableByte}
use Rattle.kc_asm_encode.specs.Relocating.{misfit}
use Rattle.kc_asm_encode.specs.Values.{is_external}
use Rattle.kc_asm_emit.specs.Arguments.{Look, value_of, fixed_of}
use Rattle.kc_asm_emit.specs.Content.{Content, RelocatableBytes}
use Rattle.kc_asm_layout.specs.declared.size_record.Anchor.{Anchor}
use Rattle.kc_asm_layout.specs.declared.size_record.Anchor.TheVariants as anchor
use Rattle.kc_asm_layout.specs.declared.size_record.Body.{Body}
use Rattle.kc_asm_layout.specs.declared.size_record.Body.TheVariants as body
use Rattle.kc_asm_layout.specs.StatementSizes.{target}
use Rattle.kc_asm_layout.specs.declared.location.Location.{Location}

-- the code, where there is the fault
abbrev pub when : Bool → ℕ → List ℕ
when true code = code ∷ []
when false code = []

-- ---- generic branches

abbrev pub is_nothing : Anchor → Bool
is_nothing (anchor.Statement number distance) = false
is_nothing anchor.External = false
is_nothing anchor.Nothing = true

abbrev pub counts_from_nothing : Body → Bool
counts_from_nothing (body.Branch kind a) = is_nothing a
counts_from_nothing (body.Bytes n) = false
counts_from_nothing (body.Upto place) = false
counts_from_nothing body.Even = false

abbrev pub has_value : Look → Option Tree → Bool
has_value look None = false
has_value look (Some x) = is_some (value_of look x)

-- whether the target of a jump has a value
abbrev pub has_target : Look → List ArgTree → Bool
has_target look args = has_value look (target args)

-- a target without a value has that fault alone
abbrev pub branch_faults : Look → Body → ActionTree → List ℕ
branch_faults look b (Operation word args) = when (counts_from_nothing b && has_target look args) no_label
branch_faults look b action = []

-- ---- numbers that do not fit

-- a jump is not examined where its target has no value
abbrev pub examined : Bool → Option ℕ → Option ℕ
examined jumps None = None
examined jumps (Some code) = if not jumps && (code == out_of_reach) then None else Some code

-- relocatable bytes stand at places one by one, in a piece that is absolute at an address or relocatable
unfoldable pub misfits : Bool → Option ℕ → ℕ → ℕ → List RelocatableByte → List ℕ
misfits jumps address piece place [] = []
misfits jumps address piece place (o ∷ os) =
    option_to_list (examined jumps (misfit address piece place o)) ++ misfits jumps address piece (place + 1) os

abbrev pub content_faults : Bool → Option ℕ → ℕ → ℕ → Content → List ℕ
content_faults jumps address piece place (RelocatableBytes os) = misfits jumps address piece place os
content_faults jumps address piece place c = []

abbrev pub lacks_value : Look → Option Tree → Bool
lacks_value look None = false
lacks_value look (Some x) = is_none (value_of look x)

-- whether a jump has a target without a value
abbrev pub lacks_target : Look → List ArgTree → Bool
lacks_target look args = lacks_value look (target args)

abbrev pub checks_jumps : Look → ActionTree → Bool
checks_jumps look (Operation word args) = not (lacks_target look args)
checks_jumps look action = true

-- those of the relocatable bytes that a statement puts where it stands
abbrev pub relocatable_faults : Look → ActionTree → Segment → Location → Content → List ℕ
relocatable_faults look action g s c = content_faults (checks_jumps look action) s.address g.piece s.place c

-- ---- places

-- what goes on in its piece
abbrev pub goes_on : ActionTree → Bool
goes_on (Define size items) = true
goes_on (Reserve size count) = true
goes_on (Org x) = true
goes_on trees.Even = true
goes_on (Operation word args) = true
goes_on action = false

-- an absolute piece may have the byte FFFFH, a relocatable one has at most 65,535 bytes
abbrev pub most_of : Segment → ℕ
most_of g = if is_absolute g then 65536 else 65535

-- the address of each piece so far that begins in a region of its kind, by their numbers; a relocatable one has none
abbrev pub Regions : Type 0
Regions = List (Option ℕ)

abbrev pub first_regions : Regions
first_regions = None ∷ None ∷ None ∷ []

abbrev pub leaves : SegKind → Option ℕ → ℕ → Bool
leaves kind None end = false
leaves kind (Some at) end = not (in_region kind at (end - at))

abbrev pub end_faults : Regions → Segment → Location → List ℕ
end_faults regions g s =
    when (nat_lt (most_of g) s.after) past_the_end
    ++ when (nat_lt s.before s.after && leaves g.kind (unwrap_or (slice_get regions g.piece) None) s.after) outside_region

-- of ORG backwards
abbrev pub is_below : Option ℕ → ℕ → Bool
is_below None place = false
is_below (Some to) place = nat_lt to place

abbrev pub back_faults : Look → ActionTree → ℕ → List ℕ
back_faults look (Org x) place = when (is_below (fixed_of look x) place) past_the_end
back_faults look action place = []

-- an absolute piece that a statement opens: its kind, and its address if that has a value
abbrev pub opening_of : SegKind → Look → Option Tree → Option (SegKind × Option ℕ)
opening_of kind look None = None
opening_of kind look (Some x) = Some (kind, fixed_of look x)

abbrev pub opening : Look → ActionTree → Option (SegKind × Option ℕ)
opening look (Cseg at) = opening_of Code look at
opening look (Dseg at) = opening_of Ram look at
opening look (Rseg at) = opening_of Reg look at
opening look action = None

abbrev pub is_outside : SegKind → Option ℕ → Bool
is_outside kind None = false
is_outside kind (Some at) = not (in_region kind at 0)

abbrev pub opening_faults : Option (SegKind × Option ℕ) → List ℕ
opening_faults None = []
opening_faults (Some o) = when (is_outside o.0 o.1) outside_region

abbrev pub region_at : SegKind → Option ℕ → Option ℕ
region_at kind None = None
region_at kind (Some at) = if in_region kind at 0 then Some at else None

abbrev pub with_region : Option (SegKind × Option ℕ) → Regions → Regions
with_region None regions = regions
with_region (Some o) regions = regions ++ region_at o.0 o.1 ∷ []

abbrev pub regions_after : Look → Regions → ActionTree → Regions
regions_after look regions action = with_region (opening look action) regions

abbrev pub label_faults : Option (List ℕ) → ℕ → List ℕ
label_faults label place = when (is_some label && nat_lt 65535 place) past_the_end

abbrev pub goes_on_faults : Regions → ActionTree → Segment → Location → List ℕ
goes_on_faults regions action g s = if goes_on action then end_faults regions g s else []

abbrev pub place_faults : Regions → Look → Option (List ℕ) → ActionTree → Segment → Location → List ℕ
place_faults regions look label action g s =
    label_faults label s.place
    ++ (goes_on_faults regions action g s
    ++ (back_faults look action s.before ++ opening_faults (opening look action)))

-- ---- the stack: how many bytes a statement adds

abbrev pub stack_part : Look → Option Tree → Option ℕ
stack_part look None = None
stack_part look (Some x) = fixed_of look x

abbrev pub stack_bytes : Look → ActionTree → Option ℕ
stack_bytes look (Sseg x) = fixed_of look x
stack_bytes look (Module name stack) = stack_part look stack
stack_bytes look action = None

abbrev pub stack_after : Look → ℕ → ActionTree → ℕ
stack_after look sum action = sum + unwrap_or (stack_bytes look action) 0

-- of the statement with which the sum passes 65,535
abbrev pub stack_faults : Look → ℕ → ActionTree → List ℕ
stack_faults look sum action = when (nat_le sum 65535 && nat_lt 65535 (stack_after look sum action)) past_the_end

-- ---- public names

abbrev pub counts_from_external : Answer → Bool
counts_from_external (Ok v) = is_external v.base
counts_from_external (Err fault) = false

abbrev pub name_faults : (List ℕ → Answer) → List ℕ → List ℕ
name_faults last name = when (counts_from_external (last name)) not_public

abbrev pub public_faults : (List ℕ → Answer) → ActionTree → List ℕ
public_faults last (Public names) = flat_map (name_faults last) names
public_faults last action = []

-- Where statements stand, by the table of sizes of their module and the forms of its generic branches: each at the end of its piece,
-- behind a gap where its place has to be divisible (after the MCS-96 Macro Assembler User's Guide, "Segments and the Location
-- Counter").
use Rattle.std.specs.Prelude.{ℕ, ◌+◌, ◌%◌, ◌<◌, ◌≤◌, List, [], ◌∷◌, ◌++◌, drop, Option, Some, None, unwrap_or, slice_get, slice_index, slice_set}
use Rattle.kc_branch.specs.declared.piece.Form.{Form}
use Rattle.kc_branch.specs.Forms.{size, head_form}
use Rattle.kc_asm_emit.specs.Alignment.{gap}
use Rattle.kc_asm_layout.specs.declared.size_record.Body.{Body}
use Rattle.kc_asm_layout.specs.declared.size_record.Body.TheVariants.{Bytes, Upto, Even, Branch}
use Rattle.kc_asm_layout.specs.declared.size_record.SizeRecord.{SizeRecord}
use Rattle.kc_asm_layout.specs.declared.location.Location.{Location}

-- where each piece ends so far, by its number; the first three are the relocatable ones
abbrev pub Ends : Type 0
Ends = List ℕ

abbrev pub no_bytes : Ends
no_bytes = 0 ∷ 0 ∷ 0 ∷ []

-- an absolute piece begins at its address
abbrev pub begun : Option ℕ → Ends → Ends
begun None ends = ends
begun (Some address) ends = ends ++ address ∷ []

-- the place of a statement
abbrev pub place_of : Ends → SizeRecord → ℕ
place_of ends n = slice_index ends n.segment.piece + gap (slice_index ends n.segment.piece) n.alignment

-- the place behind it
abbrev pub passed : Form → ℕ → Body → ℕ
passed form place (Bytes n) = place + n
passed form place (Upto to) = to
passed form place Even = place + place % 2
passed form place (Branch kind anchor) = place + size kind form

abbrev pub end_of : Form → Ends → SizeRecord → ℕ
end_of form ends n = passed form (place_of ends n) n.body

abbrev pub ends_after : Form → Ends → SizeRecord → Ends
ends_after form ends n = begun n.opens (slice_set ends n.segment.piece (end_of form ends n))

-- ---- the addresses of pieces, by their numbers: the absolute ones are numbered as they are opened

abbrev pub address_added : Option ℕ → List (Option ℕ) → List (Option ℕ)
address_added None rest = rest
address_added (Some address) rest = Some address ∷ rest

unfoldable pub opened : List SizeRecord → List (Option ℕ)
opened [] = []
opened (n ∷ ns) = address_added n.opens (opened ns)

abbrev pub addresses : List SizeRecord → List (Option ℕ)
addresses ns = None ∷ None ∷ None ∷ opened ns

abbrev pub address_in : List (Option ℕ) → ℕ → Option ℕ
address_in list piece = unwrap_or (slice_get list piece) None

-- ---- the locations of all statements in order, with one form for each; behind the last form all are the first

abbrev pub location_of : List (Option ℕ) → Form → Ends → SizeRecord → Location
location_of list form ends n = record {
  before = slice_index ends n.segment.piece;
  place = place_of ends n;
  after = end_of form ends n;
  address = address_in list n.segment.piece;
  form = form;
  body = n.body;
}

unfoldable pub locations_from : List (Option ℕ) → List Form → Ends → List SizeRecord → List Location
locations_from list forms ends [] = []
locations_from list forms ends (n ∷ ns) =
    location_of list (head_form forms) ends n ∷ locations_from list (drop 1 forms) (ends_after (head_form forms) ends n) ns

abbrev pub locations : List Form → List SizeRecord → List Location
locations forms ns = locations_from (addresses ns) forms no_bytes ns

-- ---- gaps

-- the gap before a statement is that of an alignment of at most 4
abbrev pub IsNear : Location → Type 0
IsNear s = (s.before ≤ s.place) × (s.place < s.before + 4)

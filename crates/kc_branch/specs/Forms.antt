-- The forms of generic branches (MCS-96 Macro Assembler guide, "Generic jumps and calls"). Places and distances are whole
-- numbers here, not taken modulo 65536.
use Rattle.std.specs.Prelude.{ℕ, Bool, true, false, ◌+◌, ◌*◌, ◌%◌, ◌&&◌, if◌then◌else◌, int_le, ℤ, pos, negsuc, ◌+ℤ◌, ◌-ℤ◌, Option, Some, None, List, [], ◌∷◌, length, drop, slice_index}
use Rattle.std.specs.Fn.{iterate}
use Rattle.kc_branch.specs.declared.piece.Piece.{Piece}
use Rattle.kc_branch.specs.declared.piece.Piece.TheVariants.{Bytes, Even, At, Branch}
use Rattle.kc_branch.specs.declared.piece.BranchKind.{BranchKind}
use Rattle.kc_branch.specs.declared.piece.BranchKind.TheVariants.{Jump, Call, Conditional, BitTest}
use Rattle.kc_branch.specs.declared.piece.Form.{Form}
use Rattle.kc_branch.specs.declared.piece.Form.TheVariants.{First, Second, Third}

-- ---- one branch (80C196KC User's Manual, "Jump and Call Instructions")

-- its length in bytes
abbrev pub size : BranchKind → Form → ℕ
size Jump First = 2
size Jump Second = 3
size Jump Third = 3
size Call First = 2
size Call Second = 3
size Call Third = 3
size Conditional First = 2
size Conditional Second = 4
size Conditional Third = 5
size BitTest First = 3
size BitTest Second = 5
size BitTest Third = 6

abbrev pub is_byte : ℤ → Bool
is_byte away = int_le (negsuc 127) away && int_le away (pos 127)

abbrev pub is_eleven_bits : ℤ → Bool
is_eleven_bits away = int_le (negsuc 1023) away && int_le away (pos 1023)

-- whether a form reaches so far from the end of the branch
abbrev pub spans : BranchKind → Form → ℤ → Bool
spans Jump First away = is_eleven_bits away
spans Jump Second away = true
spans Jump Third away = true
spans Call First away = is_eleven_bits away
spans Call Second away = true
spans Call Third away = true
spans Conditional First away = is_byte away
spans Conditional Second away = is_eleven_bits away
spans Conditional Third away = true
spans BitTest First away = is_byte away
spans BitTest Second away = is_eleven_bits away
spans BitTest Third away = true

abbrev pub longer : Form → Form
longer First = Second
longer Second = Third
longer Third = Third

-- ---- a layout: pieces, with one form for each branch, in order

abbrev pub is_branch : Piece → Bool
is_branch (Bytes n) = false
is_branch Even = false
is_branch (At place) = false
is_branch (Branch kind target) = true

-- the form of the next branch
abbrev pub head_form : List Form → Form
head_form [] = First
head_form (f ∷ fs) = f

-- the forms that are left behind a piece
abbrev pub forms_after : Piece → List Form → List Form
forms_after x fs = if is_branch x then drop 1 fs else fs

-- the place after a piece
abbrev pub end_of : Piece → Form → ℕ → ℕ
end_of (Bytes n) f here = here + n
end_of Even f here = here + here % 2
end_of (At place) f here = place
end_of (Branch kind target) f here = here + size kind f

-- the places before each piece and after the last one; the first piece is at `here`
unfoldable pub places : List Piece → List Form → ℕ → List ℕ
places [] fs here = here ∷ []
places (x ∷ xs) fs here = here ∷ places xs (forms_after x fs) (end_of x (head_form fs) here)

abbrev pub is_third : Form → Bool
is_third First = false
is_third Second = false
is_third Third = true

-- whether a branch that ends at `end` reaches its target in the layout with these places; another segment or module is
-- reached by the third form alone
abbrev pub reaches : List ℕ → BranchKind → Option (ℕ × ℤ) → Form → ℕ → Bool
reaches at kind None f end = is_third f
reaches at kind (Some target) f end = spans kind f ((pos (slice_index at target.0) +ℤ target.1) -ℤ pos end)

-- the same of a piece; one that is no branch has nothing to reach
abbrev pub piece_reaches : List ℕ → Piece → Form → ℕ → Bool
piece_reaches at (Bytes n) f end = true
piece_reaches at Even f end = true
piece_reaches at (At place) f end = true
piece_reaches at (Branch kind target) f end = reaches at kind target f end

-- ---- passes

-- the form of a branch after a pass
abbrev pub next_form : List ℕ → Piece → Form → ℕ → Form
next_form at x f end = if piece_reaches at x f end then f else longer f

-- the forms from a piece on, where those of the later pieces are known
abbrev pub with_form : Piece → Form → List Form → List Form
with_form x f fs = if is_branch x then f ∷ fs else fs

-- each branch that does not reach its target takes its next form; the first piece is the k-th of the layout, so that it
-- ends at the place k + 1
unfoldable pub raised : List ℕ → List Piece → List Form → ℕ → List Form
raised at [] fs k = []
raised at (x ∷ xs) fs k =
    with_form x (next_form at x (head_form fs) (slice_index at (k + 1))) (raised at xs (forms_after x fs) (k + 1))

abbrev pub pass : List Piece → List Form → List Form
pass pieces fs = raised (places pieces fs 0) pieces fs 0

-- the first form, but the third for a target elsewhere
abbrev pub start_form : Piece → Form
start_form (Bytes n) = First
start_form Even = First
start_form (At place) = First
start_form (Branch kind None) = Third
start_form (Branch kind (Some target)) = First

unfoldable pub start_forms : List Piece → List Form
start_forms [] = []
start_forms (x ∷ xs) = with_form x (start_form x) (start_forms xs)

-- as many passes as twice the number of branches
unfoldable pub forms : List Piece → List Form
forms pieces = iterate (pass pieces) (2 * length (start_forms pieces)) (start_forms pieces)

-- A layout as a tree: what stands in it, what is known of each of its stretches, and what a pass leaves at rest.
use Rattle.std.specs.Prelude.{◌≡◌, ℕ, Bool, true, false, ◌+◌, ◌*◌, ◌-◌, ◌%◌, ◌≤◌, ◌==◌, ◌&&◌, ◌||◌, not, min, max, if◌then◌else◌, nat_le, nat_lt, Some, None, List, [], ◌∷◌, ◌++◌, map, length, slice_index}
use Rattle.kc_branch.specs.declared.piece.Piece.{Piece}
use Rattle.kc_branch.specs.declared.piece.Piece.TheVariants.{Bytes, Even, At, Branch}
use Rattle.kc_branch.specs.declared.piece.BranchKind.{BranchKind}
use Rattle.kc_branch.specs.declared.piece.BranchKind.TheVariants.{Jump, Call, Conditional, BitTest}
use Rattle.kc_branch.specs.declared.piece.Form.{Form}
use Rattle.kc_branch.specs.declared.piece.Form.TheVariants.{First, Second, Third}
use Rattle.kc_branch.specs.declared.stretch.Stretch.{Stretch}
use Rattle.kc_branch.specs.declared.layout.Layout.{Layout}
use Rattle.kc_branch.specs.declared.layout.Layout.TheVariants.{Leaf, Fork'}
use Rattle.kc_branch.specs.declared.relaxation.Raises.{Raises}
use Rattle.kc_branch.specs.declared.relaxation.Raises.TheVariants.{Keep, Raise, Both'}
use Rattle.kc_branch.specs.Forms.{end_of, longer, next_form, with_form, start_form, piece_reaches}
use Rattle.kc_branch.specs.Laws.{is_at, is_even}

-- ---- pieces, each with a form

abbrev pub pieces_of : List (Piece × Form) → List Piece
pieces_of xs = map (λ x. x.0) xs

-- the forms of those that are branches
abbrev pub forms_of : List (Piece × Form) → List Form
forms_of [] = []
forms_of (x ∷ xs) = with_form x.0 x.1 (forms_of xs)

-- the place after the last one
abbrev pub end_place : List (Piece × Form) → ℕ → ℕ
end_place [] here = here
end_place (x ∷ xs) here = end_place xs (end_of x.0 x.1 here)

-- the places before each one and after the last one
abbrev pub stands : List (Piece × Form) → ℕ → List ℕ
stands [] here = here ∷ []
stands (x ∷ xs) here = here ∷ stands xs (end_of x.0 x.1 here)

-- a pass over the layout with these places; the first one is the k-th
abbrev pub raised_from : List ℕ → List (Piece × Form) → ℕ → List (Piece × Form)
raised_from at [] k = []
raised_from at (x ∷ xs) k = (x.0, next_form at x.0 x.1 (slice_index at (k + 1))) ∷ raised_from at xs (k + 1)

abbrev pub begun : List Piece → List (Piece × Form)
begun xs = map (λ x. (x, start_form x)) xs

abbrev pub has_at : List (Piece × Form) → Bool
has_at [] = false
has_at (x ∷ xs) = is_at x.0 || has_at xs

abbrev pub has_even : List (Piece × Form) → Bool
has_even [] = false
has_even (x ∷ xs) = is_even x.0 || has_even xs

-- ---- which pieces were changed

abbrev pub any_changed : List Bool → Bool
any_changed [] = false
any_changed (s ∷ ss) = s || any_changed ss

-- one of those from `from` to before `to`
abbrev pub any_in : List Bool → ℕ → ℕ → Bool
any_in [] from to = false
any_in (s ∷ ss) from to = (s && (from == 0) && nat_lt 0 to) || any_in ss (from - 1) (to - 1)

abbrev pub all_changed : List Piece → List Bool
all_changed xs = map (λ x. true) xs

-- from a layout that begins at a to one that begins at b: a piece that is not changed keeps its form and its length
abbrev pub Changes : List (Piece × Form) → List (Piece × Form) → List Bool → ℕ → ℕ → Type 0
Changes [] [] [] a b = Unit {0}
Changes (x ∷ xs) (y ∷ ys) (s ∷ ss) a b =
    (s ≡ false → (y ≡ x) × (end_of x.0 x.1 a + b ≡ end_of y.0 y.1 b + a))
    × Changes xs ys ss (end_of x.0 x.1 a) (end_of y.0 y.1 b)
Changes [] [] (s ∷ ss) a b = ⊥
Changes [] (y ∷ ys) ss a b = ⊥
Changes (x ∷ xs) [] ss a b = ⊥
Changes (x ∷ xs) (y ∷ ys) [] a b = ⊥

-- ---- on which pieces it hangs whether a branch reaches

-- whether a form reaches any place
abbrev pub is_free : BranchKind → Form → Bool
is_free Jump First = false
is_free Jump Second = true
is_free Jump Third = true
is_free Call First = false
is_free Call Second = true
is_free Call Third = true
is_free Conditional First = false
is_free Conditional Second = false
is_free Conditional Third = true
is_free BitTest First = false
is_free BitTest Second = false
is_free BitTest Third = true

-- the other end of what the k-th piece of n spans; a target past the last place counts as the place 0
abbrev pub far_end : ℕ → Piece → Form → ℕ → ℕ
far_end n (Bytes m) f k = k
far_end n Even f k = k
far_end n (At place) f k = k
far_end n (Branch kind None) f k = k
far_end n (Branch kind (Some target)) f k = if is_free kind f then k else if nat_le target.0 n then target.0 else 0

-- no piece spans others than those from `from` to before `to`
abbrev pub Covers : ℕ → ℕ → ℕ → List (Piece × Form) → ℕ → Type 0
Covers n from to [] k = Unit {0}
Covers n from to (x ∷ xs) k =
    (from ≤ min k (far_end n x.0 x.1 k)) × (max (k + 1) (far_end n x.0 x.1 k) ≤ to) × Covers n from to xs (k + 1)

-- each piece reaches, or spans one that was changed
abbrev pub Rests : ℕ → List Bool → List ℕ → List (Piece × Form) → ℕ → Type 0
Rests n ss at [] k = Unit {0}
Rests n ss at (x ∷ xs) k =
    (any_in ss (min k (far_end n x.0 x.1 k)) (max (k + 1) (far_end n x.0 x.1 k)) ≡ false
    → piece_reaches at x.0 x.1 (slice_index at (k + 1)) ≡ true)
    × Rests n ss at xs (k + 1)

-- ---- stretches

-- the place after a stretch that begins at `here`
abbrev pub end_from : Stretch → ℕ → ℕ
end_from s here = if s.has_at then s.even_end else if here % 2 == 0 then here + s.even_end else (here - 1) + s.odd_end

abbrev pub only_moves : Stretch → ℕ → ℕ → Bool
only_moves s old new = (old == new) || (not s.has_at && (not s.has_even || (old % 2 == new % 2)))

abbrev pub of_piece : ℕ → Piece → Form → ℕ → Bool → Stretch
of_piece n x f k s = record {
  count = 1;
  even_end = end_of x f 0;
  odd_end = end_of x f 1;
  has_at = is_at x;
  has_even = is_even x;
  from = min k (far_end n x f k);
  to = max (k + 1) (far_end n x f k);
  changed = s;
}

abbrev pub joined : Stretch → Stretch → Stretch
joined s t = record {
  count = s.count + t.count;
  even_end = end_from t s.even_end;
  odd_end = end_from t s.odd_end;
  has_at = s.has_at || t.has_at;
  has_even = s.has_even || t.has_even;
  from = min s.from t.from;
  to = max s.to t.to;
  changed = s.changed || t.changed;
}

-- no piece is longer than 65536 bytes
pub record IsShort (s : Stretch) : Type 0 where
  pub even_end : s.even_end ≤ 65536 * s.count
  pub odd_end : s.odd_end ≤ 65536 * s.count + 1

pub record IsKnown (s : Stretch) (xs : List (Piece × Form)) (ss : List Bool) : Type 0 where
  pub count : s.count ≡ length xs
  pub even_end : s.even_end ≡ end_place xs 0
  pub odd_end : s.odd_end ≡ end_place xs 1
  pub short : IsShort s
  pub has_at : s.has_at ≡ has_at xs
  pub has_even : s.has_even ≡ has_even xs
  pub changed : s.changed ≡ any_changed ss

-- ---- the tree

abbrev pub items : Layout → List (Piece × Form)
items (Leaf x f s) = (x, f) ∷ []
items (Fork' p left s q right) = items left ++ items right

abbrev pub changed : Layout → List Bool
changed (Leaf x f s) = s.changed ∷ []
changed (Fork' p left s q right) = changed left ++ changed right

abbrev pub known : Layout → Stretch
known (Leaf x f s) = s
known (Fork' p left s q right) = s

-- what is known of each stretch of the tree is so
abbrev pub IsLaid : Layout → Type 0
IsLaid (Leaf x f s) = IsKnown s ((x, f) ∷ []) (s.changed ∷ [])
IsLaid (Fork' p left s q right) = IsKnown s (items left ++ items right) (changed left ++ changed right) × IsLaid left × IsLaid right

-- .. and what each spans, in a list of n pieces
abbrev pub IsSpanned : ℕ → Layout → ℕ → Type 0
IsSpanned n (Leaf x f s) k = Covers n s.from s.to ((x, f) ∷ []) k
IsSpanned n (Fork' p left s q right) k =
    Covers n s.from s.to (items left ++ items right) k × IsSpanned n left k × IsSpanned n right (k + length (items left))

-- .. and each piece reaches, or spans one that was changed
abbrev pub AreAtRest : ℕ → List Bool → List ℕ → Layout → ℕ → Type 0
AreAtRest n ss at (Leaf x f s) k = Rests n ss at ((x, f) ∷ []) k
AreAtRest n ss at (Fork' p left s q right) k = AreAtRest n ss at left k × AreAtRest n ss at right (k + length (items left))

-- ---- raises

abbrev pub left_side : Raises → Raises
left_side Keep = Keep
left_side Raise = Keep
left_side (Both' p a q b) = a

abbrev pub right_side : Raises → Raises
right_side Keep = Keep
right_side Raise = Keep
right_side (Both' p a q b) = b

abbrev pub form_by : Raises → Form → Form
form_by Keep f = f
form_by Raise f = longer f
form_by (Both' p a q b) f = f

-- the pieces with the forms that some raises give them
abbrev pub items_by : Layout → Raises → List (Piece × Form)
items_by (Leaf x f s) r = (x, form_by r f) ∷ []
items_by (Fork' p left s q right) r = items_by left (left_side r) ++ items_by right (right_side r)

-- no raise in a stretch, no piece to be put at rest, and none that would change its length
abbrev pub is_keep : Raises → Bool
is_keep Keep = true
is_keep Raise = false
is_keep (Both' p a q b) = false

abbrev pub is_quiet : Stretch → Raises → ℕ → ℕ → Bool
is_quiet s r old new = is_keep r && not s.changed && only_moves s old new

-- What a choice of forms owes: each branch reaches its target, and none could be shorter.
use Rattle.std.specs.Prelude.{◌≡◌, ℕ, Bool, true, false, ◌+◌, ◌&&◌, not, nat_le, pos, Some, None, List, [], ◌∷◌, length, slice_index}
use Rattle.std.specs.Ordering.{int_eq}
use Rattle.kc_branch.specs.declared.piece.Piece.{Piece}
use Rattle.kc_branch.specs.declared.piece.Piece.TheVariants.{Bytes, Even, At, Branch}
use Rattle.kc_branch.specs.declared.piece.Form.{Form}
use Rattle.kc_branch.specs.declared.piece.Form.TheVariants.{First, Second, Third}
use Rattle.kc_branch.specs.Forms.{head_form, forms_after, places, piece_reaches, start_forms}

-- ---- each branch reaches

-- from the k-th piece on, in the layout with these places
unfoldable pub all_reach : List ℕ → List Piece → List Form → ℕ → Bool
all_reach at [] fs k = true
all_reach at (x ∷ xs) fs k =
    piece_reaches at x (head_form fs) (slice_index at (k + 1)) && all_reach at xs (forms_after x fs) (k + 1)

-- in its own layout each branch reaches, and each branch to another segment or module has the third form
abbrev pub settles : List Piece → List Form → Bool
settles pieces fs = all_reach (places pieces fs 0) pieces fs 0

-- ---- none could be shorter

abbrev pub rank : Form → ℕ
rank First = 0
rank Second = 1
rank Third = 2

-- of two choices, no branch has a longer form in the first than in the second
unfoldable pub no_longer : List Form → List Form → Bool
no_longer [] gs = true
no_longer (f ∷ fs) [] = false
no_longer (f ∷ fs) (g ∷ gs) = nat_le (rank f) (rank g) && no_longer fs gs

abbrev pub is_at : Piece → Bool
is_at (Bytes n) = false
is_at Even = false
is_at (At place) = true
is_at (Branch kind target) = false

abbrev pub is_even : Piece → Bool
is_even (Bytes n) = false
is_even Even = true
is_even (At place) = false
is_even (Branch kind target) = false

-- no piece is an At
unfoldable pub no_at : List Piece → Bool
no_at [] = true
no_at (x ∷ xs) = not (is_at x) && no_at xs

-- no piece but the first is an At
abbrev pub at_leads : List Piece → Bool
at_leads [] = true
at_leads (x ∷ xs) = no_at xs

-- no piece is an Even
unfoldable pub no_even : List Piece → Bool
no_even [] = true
no_even (x ∷ xs) = not (is_even x) && no_even xs

-- no Even stands behind a branch
unfoldable pub evens_lead : List Piece → Bool
evens_lead [] = true
evens_lead (Branch kind target ∷ xs) = no_even xs
evens_lead (x ∷ xs) = evens_lead xs

-- a target is a place from 0 to n, with no distance
abbrev pub is_place_to : ℕ → Piece → Bool
is_place_to n (Bytes k) = true
is_place_to n Even = true
is_place_to n (At place) = true
is_place_to n (Branch kind None) = true
is_place_to n (Branch kind (Some target)) = nat_le target.0 n && int_eq target.1 (pos 0)

unfoldable pub places_to : ℕ → List Piece → Bool
places_to n [] = true
places_to n (x ∷ xs) = is_place_to n x && places_to n xs

-- the lists for which the forms are the least: no At but as the first piece, no Even behind a branch, each target a place
-- of the list with no distance, or elsewhere
pub record IsPlain (pieces : List Piece) : Type 0 where
  pub at_first : at_leads pieces ≡ true
  pub evens_first : evens_lead pieces ≡ true
  pub to_places : places_to (length pieces) pieces ≡ true

-- no other choice in which each branch reaches gives any branch a shorter form
abbrev pub IsLeast : List Piece → List Form → Type 0
IsLeast pieces fs =
    IsPlain pieces → (gs : List Form) → length gs ≡ length (start_forms pieces) → settles pieces gs ≡ true
    → no_longer fs gs ≡ true

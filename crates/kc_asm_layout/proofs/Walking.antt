-- The place behind some pieces of text, and the forms that are left there.
use Rattle.std.proofs.Common.{◌≡◌, ℕ, zero, suc, true, ◌+◌, ◌*◌, ◌/◌, ◌%◌, List, [], ◌∷◌, ◌++◌, length, replicate, refl, ap, ◌∙◌, arith}
use Rattle.std.specs.Prelude.{slice_index}
use Rattle.std.proofs.lemmas.Bool.{and_parts}
use Rattle.kc_branch.specs.declared.piece.Form.{Form}
use Rattle.kc_branch.specs.declared.piece.Piece.{Piece}
use Rattle.kc_branch.specs.declared.piece.Piece.TheVariants.{Bytes}
use Rattle.kc_branch.specs.Forms.{head_form, forms_after, end_of, places, piece_reaches}
use Rattle.kc_branch.specs.Laws.{all_reach}
use Rattle.kc_asm_layout.specs.Text.{bytes_text}

abbrev pub here_after : List Piece → List Form → ℕ → ℕ
here_after [] fs h = h
here_after (x ∷ xs) fs h = here_after xs (forms_after x fs) (end_of x (head_form fs) h)

abbrev pub forms_behind : List Piece → List Form → List Form
forms_behind [] fs = fs
forms_behind (x ∷ xs) fs = forms_behind xs (forms_after x fs)

pub behind_append : (xs ys : List Piece) (fs : List Form) → forms_behind (xs ++ ys) fs ≡ forms_behind ys (forms_behind xs fs)
behind_append [] ys fs = refl
behind_append (x ∷ xs) ys fs = behind_append xs ys (forms_after x fs)

pub after_append : (xs ys : List Piece) (fs : List Form) (h : ℕ) →
    here_after (xs ++ ys) fs h ≡ here_after ys (forms_behind xs fs) (here_after xs fs h)
after_append [] ys fs h = refl
after_append (x ∷ xs) ys fs h = after_append xs ys (forms_after x fs) (end_of x (head_form fs) h)

-- ---- places of the text

pub place_at : (xs ys : List Piece) (fs : List Form) (h : ℕ) → slice_index (places (xs ++ ys) fs h) (length xs) ≡ here_after xs fs h
unfolding places
place_at [] [] fs h = refl
place_at [] (y ∷ ys) fs h = refl
place_at (x ∷ xs) ys fs h = place_at xs ys (forms_after x fs) (end_of x (head_form fs) h)

pub place_behind : (xs : List Piece) (x : Piece) (ys : List Piece) (fs : List Form) (h : ℕ) →
    slice_index (places (xs ++ x ∷ ys) fs h) (suc (length xs)) ≡ end_of x (head_form (forms_behind xs fs)) (here_after xs fs h)
unfolding places
place_behind [] x [] fs h = refl
place_behind [] x (y ∷ ys) fs h = refl
place_behind (z ∷ xs) x ys fs h = place_behind xs x ys (forms_after z fs) (end_of z (head_form fs) h)

pub reach_split : (at : List ℕ) (xs ys : List Piece) (fs : List Form) (k j : ℕ) → j ≡ k + length xs
    → all_reach at (xs ++ ys) fs k ≡ true → all_reach at ys (forms_behind xs fs) j ≡ true
unfolding all_reach
reach_split at [] ys fs k j e h = let same : j ≡ k = omega arith in rw same h
reach_split at (x ∷ xs) ys fs k j e h =
    reach_split at xs ys (forms_after x fs) (k + 1) j (omega arith)
    (and_parts (piece_reaches at x (head_form fs) (slice_index at (k + 1))) (all_reach at (xs ++ ys) (forms_after x fs) (k + 1)) h).1

-- ---- so many bytes

parts_after : (k : ℕ) (tail : List Piece) (fs : List Form) (h : ℕ) →
    here_after (replicate k (Bytes 65535) ++ tail) fs h ≡ here_after tail fs (h + k * 65535)
parts_after zero tail fs h = ap (here_after tail fs) (omega arith)
parts_after (suc k) tail fs h =
    let more : h + 65535 + k * 65535 ≡ h + suc k * 65535 = omega arith in
    parts_after k tail fs (h + 65535) ∙ ap (here_after tail fs) more

parts_behind : (k : ℕ) (tail : List Piece) (fs : List Form) → forms_behind (replicate k (Bytes 65535) ++ tail) fs ≡ forms_behind tail fs
parts_behind zero tail fs = refl
parts_behind (suc k) tail fs = parts_behind k tail fs

pub bytes_after : (n : ℕ) (fs : List Form) (h : ℕ) → here_after (bytes_text n) fs h ≡ h + n
bytes_after n fs h =
    let whole : h + n / 65535 * 65535 + n % 65535 ≡ h + n = omega arith in
    parts_after (n / 65535) (Bytes (n % 65535) ∷ []) fs h ∙ whole

pub bytes_behind : (n : ℕ) (fs : List Form) → forms_behind (bytes_text n) fs ≡ fs
bytes_behind n fs = parts_behind (n / 65535) (Bytes (n % 65535) ∷ []) fs

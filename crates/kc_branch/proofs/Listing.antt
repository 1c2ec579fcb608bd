-- Pieces with their forms, as a list of pieces and a list of the forms of the branches.
use Rattle.std.proofs.Common.{◌≡◌, ℕ, Bool, true, ◌+◌, ◌-◌, ◌*◌, ◌==◌, List, [], ◌∷◌, ◌++◌, length, take, drop, append_assoc, refl, ap, sym, ◌∙◌, arith}
use Rattle.std.specs.Prelude.{slice_index}
use Rattle.std.specs.Fn.{iterate}
use Rattle.std.proofs.lemmas.Grind.{common_steps}
use Rattle.std.proofs.lemmas.List.{map-append, take-append-drop}
use Rattle.kc_branch.specs.declared.piece.Piece.{Piece}
use Rattle.kc_branch.specs.declared.piece.Piece.TheVariants.{Bytes, Even, At, Branch}
use Rattle.kc_branch.specs.declared.piece.Form.{Form}
use Rattle.kc_branch.specs.Forms.{size, end_of, next_form, places, raised, pass, start_form, start_forms, forms}
use Rattle.kc_branch.specs.Layouts.{pieces_of, forms_of, stands, raised_from, begun, all_changed}

pub forms_append : (xs ys : List (Piece × Form)) → forms_of (xs ++ ys) ≡ forms_of xs ++ forms_of ys
forms_append [] ys = refl
forms_append ((Bytes m, f) ∷ xs) ys = forms_append xs ys
forms_append ((Even, f) ∷ xs) ys = forms_append xs ys
forms_append ((At m, f) ∷ xs) ys = forms_append xs ys
forms_append ((Branch kind target, f) ∷ xs) ys = ap (λ gs. f ∷ gs) (forms_append xs ys)

pub listed_places : (xs : List (Piece × Form)) (a : ℕ) → places (pieces_of xs) (forms_of xs) a ≡ stands xs a
unfolding places
listed_places [] a = refl
listed_places ((Bytes m, f) ∷ xs) a = ap (λ (t : List ℕ). a ∷ t) (listed_places xs (a + m))
listed_places ((Even, f) ∷ xs) a = ap (λ (t : List ℕ). a ∷ t) (listed_places xs (end_of Even f a))
listed_places ((At m, f) ∷ xs) a = ap (λ (t : List ℕ). a ∷ t) (listed_places xs m)
listed_places ((Branch kind target, f) ∷ xs) a = ap (λ (t : List ℕ). a ∷ t) (listed_places xs (a + size kind f))

pub listed_raised : (at : List ℕ) (xs : List (Piece × Form)) (k : ℕ) → raised at (pieces_of xs) (forms_of xs) k ≡ forms_of (raised_from at xs k)
unfolding raised
listed_raised at [] k = refl
listed_raised at ((Bytes m, f) ∷ xs) k = listed_raised at xs (k + 1)
listed_raised at ((Even, f) ∷ xs) k = listed_raised at xs (k + 1)
listed_raised at ((At m, f) ∷ xs) k = listed_raised at xs (k + 1)
listed_raised at ((Branch kind target, f) ∷ xs) k =
    ap (λ (gs : List Form). next_form at (Branch kind target) f (slice_index at (k + 1)) ∷ gs) (listed_raised at xs (k + 1))

pub listed_pass : (xs : List (Piece × Form)) → pass (pieces_of xs) (forms_of xs) ≡ forms_of (raised_from (stands xs 0) xs 0)
listed_pass xs =
    ap (λ (at : List ℕ). raised at (pieces_of xs) (forms_of xs) 0) (listed_places xs 0) ∙ listed_raised (stands xs 0) xs 0

pub same_pieces : (at : List ℕ) (xs : List (Piece × Form)) (k : ℕ) → pieces_of (raised_from at xs k) ≡ pieces_of xs
same_pieces at [] k = refl
same_pieces at (x ∷ xs) k = ap (λ (t : List Piece). x.0 ∷ t) (same_pieces at xs (k + 1))

pub begun_pieces : (xs : List Piece) → pieces_of (begun xs) ≡ xs
begun_pieces [] = refl
begun_pieces (x ∷ xs) = ap (λ (t : List Piece). x ∷ t) (begun_pieces xs)

pub begun_forms : (xs : List Piece) → forms_of (begun xs) ≡ start_forms xs
unfolding start_forms
begun_forms [] = refl
begun_forms (Bytes m ∷ xs) = begun_forms xs
begun_forms (Even ∷ xs) = begun_forms xs
begun_forms (At m ∷ xs) = begun_forms xs
begun_forms (Branch kind target ∷ xs) = ap (λ (gs : List Form). start_form (Branch kind target) ∷ gs) (begun_forms xs)

pub pieces_length : (xs : List (Piece × Form)) → length (pieces_of xs) ≡ length xs
pieces_length [] = refl
pieces_length (x ∷ xs) = omega (arith, pieces_length xs)

pub pushed : (out middle new : List Form) (left right a b : List (Piece × Form)) → middle ≡ out ++ forms_of a → a ≡ left → new ≡ middle ++ forms_of b → b ≡ right → new ≡ out ++ forms_of (left ++ right)
pushed out middle new left right a b e f g h =
    let first : middle ≡ out ++ forms_of left = e ∙ ap (λ (t : List (Piece × Form)). out ++ forms_of t) f in
    let second : new ≡ middle ++ forms_of right = g ∙ ap (λ (t : List (Piece × Form)). middle ++ forms_of t) h in
    second ∙ (ap (λ (t : List Form). t ++ forms_of right) first ∙ (append_assoc out (forms_of left) (forms_of right) ∙ ap (λ (t : List Form). out ++ t) (sym (forms_append left right))))

rest_taken : (n : ℕ) (xs : List Piece) → take (length xs - n) (drop n xs) ≡ drop n xs
rest_taken n xs = grind (arith, common_steps)

pub begun_halves : (t l r : List (Piece × Form)) (n : ℕ) (xs : List Piece) → t ≡ l ++ r → l ≡ begun (take n xs) → r ≡ begun (take (length xs - n) (drop n xs)) → t ≡ begun xs
begun_halves t l r n xs e f g =
    let second : r ≡ begun (drop n xs) = g ∙ ap (λ (ys : List Piece). begun ys) (rest_taken n xs) in
    e ∙ (ap (λ (ys : List (Piece × Form)). ys ++ r) f ∙ (ap (λ (ys : List (Piece × Form)). begun (take n xs) ++ ys) second
    ∙ (sym (map-append (λ (x : Piece). (x, start_form x)) (take n xs) (drop n xs)) ∙ ap (λ (ys : List Piece). begun ys) (take-append-drop n xs))))

pub changed_halves : (t l r : List Bool) (n : ℕ) (xs : List Piece) → t ≡ l ++ r → l ≡ all_changed (take n xs) → r ≡ all_changed (take (length xs - n) (drop n xs)) → t ≡ all_changed xs
changed_halves t l r n xs e f g =
    let second : r ≡ all_changed (drop n xs) = g ∙ ap (λ (ys : List Piece). all_changed ys) (rest_taken n xs) in
    e ∙ (ap (λ (ys : List Bool). ys ++ r) f ∙ (ap (λ (ys : List Bool). all_changed (take n xs) ++ ys) second
    ∙ (sym (map-append (λ (x : Piece). true) (take n xs) (drop n xs)) ∙ ap (λ (ys : List Piece). all_changed ys) (take-append-drop n xs))))

pub begun_length : (xs : List Piece) → length (begun xs) ≡ length xs
begun_length [] = refl
begun_length (x ∷ xs) = omega (arith, begun_length xs)

-- ---- passes

pub pass_is : (pieces : List Piece) (xs ys : List (Piece × Form)) → pieces_of xs ≡ pieces → ys ≡ raised_from (stands xs 0) xs 0 → forms_of ys ≡ pass pieces (forms_of xs)
pass_is pieces xs ys listed e =
    ap forms_of e ∙ (sym (listed_pass xs) ∙ ap (λ (ps : List Piece). pass ps (forms_of xs)) listed)

eqb_zero : (n : ℕ) → (n == 0) ≡ true → n ≡ 0
eqb_zero n h = grind arith

pub forms_none : (pieces : List Piece) (fs : List Form) → (length pieces == 0) ≡ true → fs ≡ [] → fs ≡ forms pieces
unfolding forms start_forms
forms_none [] fs e same = same
forms_none (x ∷ pieces) fs e same = absurd (let z : length (x ∷ pieces) ≡ 0 = eqb_zero (length (x ∷ pieces)) e in omega arith)

pub forms_begun : (pieces : List Piece) (xs : List (Piece × Form)) (n : ℕ) → xs ≡ begun pieces → n ≡ length (start_forms pieces) →
    iterate (pass pieces) (2 * n - 0) (forms_of xs) ≡ forms pieces
unfolding forms
forms_begun pieces xs n e is =
    let count : 2 * n - 0 ≡ 2 * length (start_forms pieces) = omega arith in
    ap (λ k. iterate (pass pieces) k (forms_of xs)) count
    ∙ ap (λ (gs : List Form). iterate (pass pieces) (2 * length (start_forms pieces)) gs) (ap (λ (ys : List (Piece × Form)). forms_of ys) e ∙ begun_forms pieces)

pub forms_reported : (out gs fs : List Form) (xs : List (Piece × Form)) → fs ≡ out ++ forms_of xs → out ≡ [] → forms_of xs ≡ gs → fs ≡ gs
forms_reported out gs fs xs e none same = e ∙ (ap (λ (hs : List Form). hs ++ forms_of xs) none ∙ same)

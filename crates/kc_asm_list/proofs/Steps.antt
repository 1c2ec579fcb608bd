-- Steps of the definition of a listing.
use Rattle.std.proofs.Common.{◌≡◌, ℕ, zero, suc, ◌+◌, ◌-◌, ◌<◌, ◌≤◌, List, [], ◌∷◌, ◌++◌, refl, sym, ◌∙◌, append_assoc, arith}
use Rattle.std.proofs.lemmas.List.{append-nil}
use Rattle.std.specs.List.{filter}
use Rattle.kc_obj_module.specs.Object.{Object}
use Rattle.kc_asm_list.specs.declared.spot.Spot.{Spot}
use Rattle.kc_asm_list.specs.RelocatableBytes.{relocatable_text}
use Rattle.kc_base.specs.TextLines.{text_lines}
use Rattle.kc_asm_list.specs.Rows.{bytes_text, turn, column_after, is_on, line_text, lines_text}

pub one_more : (m : Object) (s : Spot) (column place n : ℕ) → 0 < n
    → bytes_text m s column place n ≡ turn s column place ++ relocatable_text m s place ++ bytes_text m s (column_after column) (place + 1) (n - 1)
unfolding bytes_text
one_more m s column place zero lt = absurd (omega (arith, lt))
one_more m s column place (suc n) lt =
    let less : suc n - 1 ≡ n = omega arith in
    rw less refl

pub no_more : (m : Object) (s : Spot) (column place : ℕ) → bytes_text m s column place 0 ≡ []
unfolding bytes_text
no_more m s column place = refl

-- lines from one on have the same rows where the same statements are on each of them
pub agree : (m : Object) (xs ys : List Spot) (from : ℕ) → ((n : ℕ) → from ≤ n → filter (is_on n) xs ≡ filter (is_on n) ys) → (ls : List (List ℕ)) → lines_text m xs from ls ≡ lines_text m ys from ls
unfolding lines_text
agree m xs ys from same [] = refl
agree m xs ys from same (l ∷ ls) =
    λ i. line_text m from l (same from (omega arith) i) ++ agree m xs ys (from + 1) (λ n le. same n (omega (arith, le))) ls i

pub line_done : (m : Object) (later others own : List Spot) (line : ℕ) (words : List ℕ) (ls : List (List ℕ)) (text whole : List ℕ)
    → own ≡ filter (is_on line) later → ((n : ℕ) → line < n → filter (is_on n) others ≡ filter (is_on n) later)
    → text ++ lines_text m later line (words ∷ ls) ≡ whole
    → (text ++ line_text m line words own) ++ lines_text m others (line + 1) ls ≡ whole
unfolding lines_text
line_done m later others own line words ls text whole is same kept =
    let here = line_text m line words (filter (is_on line) later) in
    let behind : lines_text m others (line + 1) ls ≡ lines_text m later (line + 1) ls = agree m others later (line + 1) (λ n le. same n (omega (arith, le))) ls in
    rw (is, behind) (append_assoc text here (lines_text m later (line + 1) ls) ∙ kept)

pub all_done : (m : Object) (later : List Spot) (line : ℕ) (text whole : List ℕ) → text ++ lines_text m later line [] ≡ whole → text ≡ whole
unfolding lines_text
all_done m later line text whole kept = sym (append-nil text) ∙ kept

pub no_lines : text_lines [] ≡ []
unfolding text_lines
no_lines = refl

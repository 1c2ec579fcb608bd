-- No two rows have one code.
use Rattle.std.proofs.Common.{◌≡◌, ℕ, Bool, true, ◌&&◌, not, false, List, [], ◌∷◌, map, refl}
use Rattle.std.specs.List.{list_all, AllByRecursion, IsDistinct}
use Rattle.std.specs.Str.{bytes_eq}
use Rattle.std.proofs.lemmas.Bool.{and_parts, not-true}
use Rattle.kc_kit_messages.specs.Meanings.{code_of, source_rows, input_rows, run_rows, instruction_rows, first_rows, second_rows, third_rows, fourth_rows, all_said, said_of, IsAnswer}
use Rattle.kc_kit_messages.specs.Codes.{all_codes, instruction_codes}
use Rattle.kc_kit_messages.specs.Laws.{CodesDiffer}
use Rattle.kc_kit_messages.proofs.Rows.{answer}

abbrev none_is : List ℕ → List (List ℕ) → Bool
none_is x ys = list_all (λ y. not (bytes_eq x y)) ys

abbrev are_distinct : List (List ℕ) → Bool
are_distinct [] = true
are_distinct (x ∷ xs) = none_is x xs && are_distinct xs

each_differs : (x : List ℕ) (ys : List (List ℕ)) → none_is x ys ≡ true → AllByRecursion (λ y. bytes_eq x y ≡ false) ys
each_differs x [] h = tt
each_differs x (y ∷ ys) h =
    let both = and_parts (not (bytes_eq x y)) (none_is x ys) h in
    (not-true (bytes_eq x y) both.0, each_differs x ys both.1)

distinct : (xs : List (List ℕ)) → are_distinct xs ≡ true → IsDistinct bytes_eq xs
unfolding IsDistinct
distinct [] h = tt
distinct (x ∷ xs) h =
    let both = and_parts (none_is x xs) (are_distinct xs) h in
    (each_differs x xs both.0, distinct xs both.1)

rows_have_codes : map code_of all_said ≡ all_codes
unfolding all_said source_rows input_rows run_rows instruction_rows first_rows second_rows third_rows fourth_rows all_codes instruction_codes
rows_have_codes = refl

all_apart : are_distinct all_codes ≡ true
unfolding all_codes instruction_codes
all_apart = refl

pub meaning-is : (code : List ℕ) → IsAnswer all_codes code (said_of code)
meaning-is code = answer all_codes all_said (said_of code) code rows_have_codes refl

pub codes_differ : CodesDiffer
codes_differ = record { rows = rows_have_codes; differ = distinct all_codes all_apart }

-- The meaning of a code (this kit's own). What is said of it is no matter of definitions: the sentences and examples are data.
use Rattle.std.specs.Prelude.{◌≡◌, ℕ, Bool, true, false, Option, Some, None, List, [], ◌++◌, map, find}
use Rattle.std.specs.List.{list_any}
use Rattle.std.specs.Option.{option_map}
use Rattle.std.specs.Str.{bytes_eq}
use Rattle.kc_kit_messages.specs.declared.meaning.Meaning.{Meaning}
use Rattle.kc_kit_messages.specs.declared.table.TheConstants.{SOURCES, INPUTS, RUNS}
use Rattle.kc_kit_messages.specs.declared.instructions.TheConstants.{FIRST, SECOND, THIRD, FOURTH}

-- what is said of a code: a sentence, and an example of what is wrong and how it is right
pub record Said : Type 0 where
  pub code : List ℕ
  pub sentence : List ℕ
  pub example : Option (List ℕ × List ℕ)

abbrev pub said : Meaning → Said
said row = record { code = row.code.now; sentence = row.sentence.now; example = option_map (λ e. (e.wrong.now, e.right.now)) row.example }

-- the rows of the table: the faults of sources, those of all other files, what linking and runs describe, and
-- the instructions in four parts
unfoldable pub source_rows : List Said
source_rows = map (λ row. record { code = row.0.now; sentence = row.1.now; example = option_map (λ e. (e.0.now, e.1.now)) row.2 }) SOURCES

unfoldable pub input_rows : List Said
input_rows = map (λ row. record { code = row.0.now; sentence = row.1.now; example = option_map (λ e. (e.0.now, e.1.now)) row.2 }) INPUTS

unfoldable pub run_rows : List Said
run_rows = map (λ row. record { code = row.0.now; sentence = row.1.now; example = option_map (λ e. (e.0.now, e.1.now)) row.2 }) RUNS

unfoldable pub first_rows : List Said
first_rows = map (λ row. record { code = row.0.now; sentence = row.1.now; example = option_map (λ e. (e.0.now, e.1.now)) row.2 }) FIRST

unfoldable pub second_rows : List Said
second_rows = map (λ row. record { code = row.0.now; sentence = row.1.now; example = option_map (λ e. (e.0.now, e.1.now)) row.2 }) SECOND

unfoldable pub third_rows : List Said
third_rows = map (λ row. record { code = row.0.now; sentence = row.1.now; example = option_map (λ e. (e.0.now, e.1.now)) row.2 }) THIRD

unfoldable pub fourth_rows : List Said
fourth_rows = map (λ row. record { code = row.0.now; sentence = row.1.now; example = option_map (λ e. (e.0.now, e.1.now)) row.2 }) FOURTH

unfoldable pub instruction_rows : List Said
instruction_rows = first_rows ++ (second_rows ++ (third_rows ++ fourth_rows))

unfoldable pub all_said : List Said
all_said = source_rows ++ (input_rows ++ (run_rows ++ instruction_rows))

abbrev pub code_of : Said → List ℕ
code_of row = row.code

abbrev pub has_code : List ℕ → Said → Bool
has_code code row = bytes_eq (code_of row) code

-- the row of a code
abbrev pub said_of : List ℕ → Option Said
said_of code = find (has_code code) all_said

-- the sentence of a row, and of a code
abbrev pub sentence_in : Option Said → List ℕ
sentence_in (Some row) = row.sentence
sentence_in None = []

abbrev pub sentence_of : List ℕ → List ℕ
sentence_of code = sentence_in (said_of code)

abbrev pub is_among : List ℕ → List (List ℕ) → Bool
is_among code names = list_any (λ name. bytes_eq name code) names

-- a row of this code, which is one of these; or it is none of them
abbrev pub IsAnswer : List (List ℕ) → List ℕ → Option Said → Type 0
IsAnswer names code (Some row) = (code_of row ≡ code) × (is_among code names ≡ true)
IsAnswer names code None = is_among code names ≡ false

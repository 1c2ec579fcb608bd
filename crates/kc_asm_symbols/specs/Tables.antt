-- Tables of names: what each name has.
use Rattle.std.specs.Prelude.{ℕ, Bool, false, if◌then◌else◌, List, Option, Some, None, position, slice_get, unwrap_or, Err}
use Rattle.std.specs.Map.{keys_of, lookup}
use Rattle.std.specs.Str.{bytes_eq}
use Rattle.std.specs.Global.{Vec}
use Rattle.kc_lex.specs.declared.fault.SourceCode.TheVariants.{NotDefined}
use Rattle.kc_expr.specs.declared.values.NoValue.TheVariants.{Fault}
use Rattle.kc_expr.specs.Meaning.{Answer}
use Rattle.kc_asm_symbols.specs.declared.numbers.Numbers.{Numbers}
use Rattle.kc_asm_symbols.specs.declared.table.Table.{Table}
use Rattle.kc_asm_symbols.specs.declared.table.Marks.{Marks}

-- what the entries of a map have of a name, or else
abbrev pub entry_at : {W : Type 0} → W → List (Vec ℕ × W) → List ℕ → W
entry_at absent es name = unwrap_or (lookup (λ k. bytes_eq name k.items) es) absent

-- ---- numbers

-- the number of a name: how many other names came before it
abbrev pub number_of : Numbers → List ℕ → Option ℕ
number_of numbers name = position (λ k. bytes_eq name k.items) (keys_of numbers.map.entries)

abbrev pub label_number : Numbers → Option (List ℕ) → Option ℕ
label_number numbers None = None
label_number numbers (Some name) = number_of numbers name

abbrev pub is_defined_by_set : Numbers → List ℕ → Bool
is_defined_by_set numbers name = entry_at false numbers.map.entries name

-- ---- answers

-- what stands in a table at a number
abbrev pub cell : Table → Option ℕ → Option Answer
cell t None = None
cell t (Some number) = slice_get t.numbered.items number

-- what a table has of names by themselves
abbrev pub other_answers : Table → List ℕ → Answer
other_answers t name = entry_at (Err (Fault NotDefined)) t.others.entries name

-- what a table has of a name with this number; a name that is not in it means nothing
abbrev pub answer_at : Table → Option ℕ → List ℕ → Answer
answer_at t number name = unwrap_or (cell t number) (other_answers t name)

abbrev pub answers : Numbers → Table → List ℕ → Answer
answers numbers t name = answer_at t (number_of numbers name) name

abbrev pub is_marked : Marks → List ℕ → Bool
is_marked m name = entry_at false m.map.entries name

abbrev pub nothing : List ℕ → Answer
nothing name = Err (Fault NotDefined)

abbrev pub no_name : List ℕ → Bool
no_name name = false

-- the same but at one name
abbrev pub updated : {W : Type 0} → List ℕ → W → (List ℕ → W) → List ℕ → W
updated name w look other = if bytes_eq other name then w else look other

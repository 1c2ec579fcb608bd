-- Which faults are about a name: each of them has one (this kit's own).
use Rattle.std.specs.Prelude.{◌≡◌, ◌⊎◌, ℕ, Bool, true, ◌||◌, ◌==◌, List, Some}
use Rattle.kc_lex.specs.Codes.{defined_twice, not_defined, not_public, not_external}
use Rattle.kc_asm.specs.Assembled.{FaultOfStatements, FaultOfValues}
use Rattle.kc_asm_origin.specs.Symbol.{symbol_of}

-- a name is defined twice or not at all, or PUBLIC may not give it, or EXTRN may not take it
abbrev pub is_about_a_name : ℕ → Bool
is_about_a_name code = (code == defined_twice) || ((code == not_defined) || ((code == not_public) || (code == not_external)))

-- a fault of statements and names, or of values and places, that has such a code has the name that it is about (one of macros,
-- repetitions and conditions has none: there the code is that of the operand of an IF or a REPT)
abbrev pub FaultsOfNamesHaveNames : Type 0
FaultsOfNamesHaveNames = (source : List ℕ) (line code : ℕ) → FaultOfStatements source (line, code) ⊎ FaultOfValues source (line, code) →
    is_about_a_name code ≡ true → (name : List ℕ) × (symbol_of source line code ≡ Some name)

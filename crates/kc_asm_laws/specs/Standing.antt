-- The name that a fault is about stands at its line (this kit's own).
use Rattle.std.specs.Prelude.{◌≡◌, ℕ, Bool, true, false, ◌&&◌, ◌||◌, ◌==◌, List, Some, Result, Ok, Err}
use Rattle.std.specs.List.{list_any}
use Rattle.std.specs.Str.{bytes_eq}
use Rattle.kc_lex.specs.declared.token.Line.{Line}
use Rattle.kc_expr.specs.Tree.{Tree, Number, Chars, Name, Here, One, Two}
use Rattle.kc_source_statement.specs.Trees.{ActionTree}
use Rattle.kc_source.specs.Faults.{Said, uses_of, all_said}
use Rattle.kc_asm_symbols.specs.Externals.{action_trees}
use Rattle.kc_asm.specs.Assembled.{IsText}
use Rattle.kc_asm_origin.specs.Symbol.{symbol_of}

unfoldable pub has_name : List ℕ → Tree → Bool
has_name name (Number n) = false
has_name name (Chars cs) = false
has_name name (Name n) = bytes_eq name n
has_name name Here = false
has_name name (One op e) = has_name name e
has_name name (Two op a b) = has_name name a || has_name name b

abbrev pub computes_with : List ℕ → Result ActionTree ℕ → Bool
computes_with name (Ok a) = list_any (has_name name) (action_trees a)
computes_with name (Err code) = false

-- a line defines a name, takes it or gives it, or has it in an expression
abbrev pub has_word : List ℕ → Said → Bool
has_word name s = list_any (λ u. bytes_eq name u.name) (uses_of s) || computes_with name s.action

-- a source has a name at a line, with all that macros, repetitions and conditions stand for
abbrev pub IsNameAt : List ℕ → ℕ → List ℕ → Type 0
IsNameAt source line name = (text : List Line) × IsText source text × (list_any (λ s. (s.line == line) && has_word name s) (all_said text) ≡ true)

abbrev pub SymbolsStandAtTheirLines : Type 0
SymbolsStandAtTheirLines = (source : List ℕ) (line code : ℕ) (name : List ℕ) → symbol_of source line code ≡ Some name → IsNameAt source line name

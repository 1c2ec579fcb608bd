-- The strings of a statement: those in its expressions, and items of data (after the MCS-96 Macro Assembler User's Guide,
-- "Expressions" and "Data Definition").
use Rattle.std.specs.Prelude.{◌≡◌, ℕ, Bool, true, ◌&&◌, List, Result, Ok, Err}
use Rattle.std.specs.List.{list_all}
use Rattle.kc_lex.specs.declared.token.Token.{Token}
use Rattle.kc_expr.specs.Tree.{Tree, Number, Chars, Name, Here, One, Two}
use Rattle.kc_source_statement.specs.Trees.{ItemTree, ActionTree}
use Rattle.kc_source_statement.specs.Trees as trees
use Rattle.kc_source_statement.specs.Statements.{statement_in}
use Rattle.kc_asm_symbols.specs.Externals.{action_trees}

-- a test holds of each string in an expression
unfoldable pub strings_pass : (List ℕ → Bool) → Tree → Bool
strings_pass test (Number n) = true
strings_pass test (Chars cs) = test cs
strings_pass test (Name n) = true
strings_pass test Here = true
strings_pass test (One op e) = strings_pass test e
strings_pass test (Two op a b) = strings_pass test a && strings_pass test b

-- of an item that is a string
abbrev pub item_passes : (List ℕ → Bool) → ItemTree → Bool
item_passes test (trees.Value x) = true
item_passes test (trees.Chars cs) = test cs

abbrev pub items_pass : (List ℕ → Bool) → ActionTree → Bool
items_pass test (trees.Define size items) = list_all (item_passes test) items
items_pass test action = true

-- of each string of a statement
abbrev pub action_passes : (List ℕ → Bool) → ActionTree → Bool
action_passes test action = list_all (strings_pass test) (action_trees action) && items_pass test action

abbrev pub read_passes : (List ℕ → Bool) → Result ActionTree ℕ → Bool
read_passes test (Ok action) = action_passes test action
read_passes test (Err code) = true

-- what holds of the text of each token of a line holds of each string of its statement
abbrev pub StringsStandOnTheLine : Type 0
StringsStandOnTheLine =
    (test : List ℕ → Bool) (ts : List Token) → list_all (λ t. test t.text) ts ≡ true → read_passes test (statement_in ts) ≡ true

-- What can be relied on of a statement: its operation is one, with operands that it takes; data and reserved items have 1, 2
-- or 4 bytes, and a string is an item of bytes; and every name in it stands on its line as a free name.
use Rattle.std.specs.Prelude.{◌≡◌, ℕ, Bool, true, false, not, ◌&&◌, ◌||◌, ◌==◌, List, [], ◌∷◌, ◌++◌, map, Result, Ok, Err}
use Rattle.std.specs.Option.{option_to_list}
use Rattle.std.specs.List.{list_all}
use Rattle.kc_lex.specs.declared.token.Token.{Token}
use Rattle.kc_lex.specs.Words.{operands_for}
use Rattle.kc_lex.specs.Takes.{suits}
use Rattle.kc_lex.specs.Kinds.{is_free_name}
use Rattle.kc_source_statement.specs.Trees.{ItemTree, ActionTree, notation, Bare, Module, Cseg, Dseg, Rseg, Sseg, Public, Extrn, Equ, Set, Define, Reserve, Org, Even, End, Operation}
use Rattle.kc_source_statement.specs.Trees as trees
use Rattle.kc_source_statement.specs.Statements.{statement_in, label_in}

-- ---- forms

abbrev pub is_item_size : ℕ → Bool
is_item_size n = (n == 1) || ((n == 2) || (n == 4))

abbrev pub is_value : ItemTree → Bool
is_value (trees.Value x) = true
is_value (trees.Chars cs) = false

abbrev pub is_formed : ActionTree → Bool
is_formed (Operation word args) = suits (operands_for word) (map notation args)
is_formed (Define size items) = is_item_size size && ((size == 1) || list_all is_value items)
is_formed (Reserve size x) = is_item_size size
is_formed Bare = true
is_formed (Module name stack) = true
is_formed (Cseg at) = true
is_formed (Dseg at) = true
is_formed (Rseg at) = true
is_formed (Sseg size) = true
is_formed (Public names) = true
is_formed (Extrn names) = true
is_formed (Equ name x) = true
is_formed (Set name x) = true
is_formed (Org x) = true
is_formed Even = true
is_formed End = true

abbrev pub IsFormed : Result ActionTree ℕ → Type 0
IsFormed (Ok a) = is_formed a ≡ true
IsFormed (Err e) = Unit {0}

-- ---- the names that a statement defines, takes or gives, and that of a module

abbrev pub names_said : ActionTree → List (List ℕ)
names_said (Module name stack) = option_to_list name
names_said (Public names) = names
names_said (Extrn names) = names
names_said (Equ name x) = name ∷ []
names_said (Set name x) = name ∷ []
names_said Bare = []
names_said (Cseg at) = []
names_said (Dseg at) = []
names_said (Rseg at) = []
names_said (Sseg size) = []
names_said (Define size items) = []
names_said (Reserve size x) = []
names_said (Org x) = []
names_said Even = []
names_said End = []
names_said (Operation name args) = []

-- those that it gives
abbrev pub given_names : ActionTree → List (List ℕ)
given_names (Public names) = names
given_names action = []

abbrev pub names_read : Result ActionTree ℕ → List (List ℕ)
names_read (Ok a) = names_said a
names_read (Err e) = []

-- a test holds of every free name among the tokens
abbrev pub free_names_are : (List ℕ → Bool) → List Token → Bool
free_names_are test ts = list_all (λ t. not (is_free_name t) || test t.text) ts

-- ---- the laws

abbrev pub StatementsAreFormed : Type 0
StatementsAreFormed = (ts : List Token) → IsFormed (statement_in ts)

abbrev pub NamesStandOnTheLine : Type 0
NamesStandOnTheLine =
    (test : List ℕ → Bool) (ts : List Token) → free_names_are test ts ≡ true
    → list_all test (option_to_list (label_in ts) ++ names_read (statement_in ts)) ≡ true

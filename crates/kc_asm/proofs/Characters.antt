-- The characters in the expressions of the statements of a text are bytes.
use Rattle.std.proofs.Common.{◌≡◌, ℕ, true, ◌&&◌, List, [], ◌∷◌, refl, sym, ◌∙◌}
use Rattle.std.specs.List.{list_all}
use Rattle.std.proofs.lemmas.Bool.{and_parts, and_from}
use Rattle.kc_expr.specs.Tree.{Tree, Number, Chars, Name, Here, One, Two}
use Rattle.kc_source_statement.specs.declared.statement.Stmt.{Stmt}
use Rattle.kc_source_statement.specs.Trees.{action_tree}
use Rattle.kc_asm_symbols.specs.Externals.{action_trees}
use Rattle.kc_asm.specs.Characters.{are_bytes, has_bytes}
use Rattle.kc_source_laws.specs.Strings.{strings_pass, items_pass, action_passes}
use Rattle.kc_source_laws.specs.Lines as lines
use Rattle.kc_source_laws.specs.Lines.{is_good_statement, is_line_of}

tree_alike : (x : Tree) → strings_pass lines.are_bytes x ≡ are_bytes x
unfolding strings_pass are_bytes
tree_alike (Number n) = refl
tree_alike (Chars cs) = refl
tree_alike (Name n) = refl
tree_alike Here = refl
tree_alike (One op e) = tree_alike e
tree_alike (Two op a b) = λ i. tree_alike a i && tree_alike b i

pub trees_alike : (xs : List Tree) → list_all (strings_pass lines.are_bytes) xs ≡ list_all are_bytes xs
trees_alike [] = refl
trees_alike (x ∷ xs) = λ i. tree_alike x i && trees_alike xs i

pub has_characters : (text : List ℕ) (stmts : List Stmt) → list_all (is_good_statement (is_line_of text)) stmts ≡ true → list_all has_bytes stmts ≡ true
has_characters text [] h = refl
has_characters text (s ∷ ss) h =
    let both = and_parts (is_good_statement (is_line_of text) s) (list_all (is_good_statement (is_line_of text)) ss) h in
    let parts = and_parts (is_line_of text s.line) (action_passes lines.are_bytes (action_tree s.action)) both.0 in
    let strings = and_parts (list_all (strings_pass lines.are_bytes) (action_trees (action_tree s.action))) (items_pass lines.are_bytes (action_tree s.action)) parts.1 in
    let here : has_bytes s ≡ true = sym (trees_alike (action_trees (action_tree s.action))) ∙ strings.0 in
    and_from (has_bytes s) (list_all has_bytes ss) here (has_characters text ss both.1)

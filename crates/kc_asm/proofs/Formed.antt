-- Operations of a source take their operands, and the values of these are words.
use Rattle.std.proofs.Common.{◌≡◌, ℕ, Bool, true, false, ◌&&◌, List, [], ◌∷◌, map, refl, sym, ap, ◌∙◌, subst}
use Rattle.std.specs.Prelude.{Ok, Err, if◌then◌else◌}
use Rattle.std.specs.List.{list_all}
use Rattle.std.proofs.lemmas.Bool.{and_parts}
use Rattle.std.proofs.lemmas.List.Folds.{list_all-append}
use Rattle.kc_lex.specs.declared.token.Line.{Line}
use Rattle.kc_lex.specs.Words.{operands_for}
use Rattle.kc_lex.specs.Takes.{suits}
use Rattle.kc_expr.specs.Tree.{Tree}
use Rattle.kc_expr.specs.Meaning.{Answer, answer_by}
use Rattle.kc_source_statement.specs.declared.statement.Stmt.{Stmt}
use Rattle.kc_source_statement.specs.Trees.{ArgTree, action_tree}
use Rattle.kc_source_statement.specs.Trees as trees
use Rattle.kc_source_statement.specs.Operands.{is_nil}
use Rattle.kc_source_statement.specs.Formed.{is_formed, IsFormed, StatementsAreFormed}
use Rattle.kc_source.specs.Faults.{Said, said, all_said, stmt_said, AreStatements}
use Rattle.kc_asm_symbols.specs.Externals.{arg_trees, all_trees}
use Rattle.kc_asm_encode.specs.Takes.{notation, is_operation}
use Rattle.kc_asm_encode.specs.Suits.{IsWord, AreWords, AllWords}
use Rattle.kc_asm_emit.specs.Arguments.{Look, value_in, value_of, argument, arguments}
use Rattle.kc_asm.specs.Characters.{are_bytes}
use Rattle.kc_asm.proofs.Words.{IsWordAnswer, answer_word}

-- ---- each statement is formed

abbrev AllFormed : List Said → Type 0
AllFormed [] = Unit {0}
AllFormed (s ∷ ss) = IsFormed s.action × AllFormed ss

said_formed : StatementsAreFormed → (ls : List Line) → AllFormed (all_said ls)
unfolding all_said
said_formed law [] = tt
said_formed law (l ∷ ls) = by (is_nil l.tokens) (said_formed law ls)
  where
    by : (t : Bool) → AllFormed (all_said ls) → AllFormed (if t then all_said ls else said l ∷ all_said ls)
    by true h = h
    by false h = (law l.tokens, h)

formed_all : (stmts : List Stmt) → AllFormed (map stmt_said stmts) → list_all (λ s. is_formed (action_tree s.action)) stmts ≡ true
formed_all [] h = refl
formed_all (s ∷ stmts) h = λ i. h.0 i && formed_all stmts h.1 i

pub all_formed : StatementsAreFormed → (stmts : List Stmt) (ls : List Line) → AreStatements stmts ls → list_all (λ s. is_formed (action_tree s.action)) stmts ≡ true
all_formed law stmts ls are = formed_all stmts (subst AllFormed (sym are.said_by) (said_formed law ls))

-- ---- operands with values

notation_is : (look : Look) (a : ArgTree) → notation (argument look a) ≡ trees.notation a
notation_is look (trees.Plain x) = refl
notation_is look (trees.Immediate x) = refl
notation_is look (trees.Indirect x) = refl
notation_is look (trees.Increment x) = refl
notation_is look (trees.Indexed x r) = refl

notations_are : (look : Look) (args : List ArgTree) → map notation (arguments look args) ≡ map trees.notation args
notations_are look [] = refl
notations_are look (a ∷ args) = λ i. notation_is look a i ∷ notations_are look args i

pub operation_is : (look : Look) (word : List ℕ) (args : List ArgTree) → suits (operands_for word) (map trees.notation args) ≡ true → is_operation word (arguments look args) ≡ true
operation_is look word args h = ap (suits (operands_for word)) (notations_are look args) ∙ h

-- ---- values that are words

in_word : (a : Answer) → IsWordAnswer a → IsWord (value_in a)
in_word (Ok v) h = h
in_word (Err fault) h = tt

module _ (look : Look) (names : (q : List ℕ) → IsWordAnswer (look q)) where
  value_word : (x : Tree) → are_bytes x ≡ true → IsWord (value_of look x)
  value_word x h = in_word (answer_by look x) (answer_word look names x h)

  first_bytes : (x : Tree) (xs : List Tree) → list_all are_bytes (x ∷ xs) ≡ true → are_bytes x ≡ true
  first_bytes x xs h = (and_parts (are_bytes x) (list_all are_bytes xs) h).0

  argument_words : (a : ArgTree) → list_all are_bytes (arg_trees a) ≡ true → AreWords (argument look a)
  argument_words (trees.Plain x) h = value_word x (first_bytes x [] h)
  argument_words (trees.Immediate x) h = value_word x (first_bytes x [] h)
  argument_words (trees.Indirect x) h = value_word x (first_bytes x [] h)
  argument_words (trees.Increment x) h = value_word x (first_bytes x [] h)
  argument_words (trees.Indexed x r) h = (value_word x (first_bytes x (r ∷ []) h), value_word r (first_bytes r [] (and_parts (are_bytes x) (list_all are_bytes (r ∷ [])) h).1))

  pub arguments_words : (args : List ArgTree) → list_all are_bytes (all_trees arg_trees args) ≡ true → AllWords (arguments look args)
  unfolding all_trees
  arguments_words [] h = tt
  arguments_words (a ∷ args) h =
      let s = and_parts (list_all are_bytes (arg_trees a)) (list_all are_bytes (all_trees arg_trees args)) (sym (list_all-append are_bytes (arg_trees a) (all_trees arg_trees args)) ∙ h) in
      (argument_words a s.0, arguments_words args s.1)

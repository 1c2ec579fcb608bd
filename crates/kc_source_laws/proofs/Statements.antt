-- Statements have the numbers of their lines, and their strings are bytes.
use Rattle.std.proofs.Common.{◌≡◌, ℕ, Bool, true, false, ◌&&◌, cond, List, [], ◌∷◌, map, refl}
use Rattle.std.specs.List.{list_all}
use Rattle.std.proofs.lemmas.Bool.{and_parts, and_from}
use Rattle.kc_lex.specs.declared.token.Line.{Line}
use Rattle.kc_source_statement.specs.declared.statement.Stmt.{Stmt}
use Rattle.kc_source_statement.specs.Operands.{is_nil}
use Rattle.kc_source_statement.specs.Forms.{OperandsHaveForms}
use Rattle.kc_source_statement.specs.Statements.{statement_in}
use Rattle.kc_source.specs.Faults.{Said, said, all_said, stmt_said}
use Rattle.kc_source_laws.specs.Strings.{read_passes}
use Rattle.kc_source_laws.specs.Lines.{are_bytes, has_bytes, is_good, is_good_statement, is_line_of, LinesAreOfTheText, ExpansionKeepsLines, StatementsKeepLines, StatementsAreOfTheText}
use Rattle.kc_source_laws.proofs.Strings.{strings_stand_on_the_line}

abbrev is_good_said : (ℕ → Bool) → Said → Bool
is_good_said numbers s = numbers s.line && read_passes are_bytes s.action

all_good : (forms : OperandsHaveForms) (numbers : ℕ → Bool) (ls : List Line) → list_all (is_good numbers) ls ≡ true → list_all (is_good_said numbers) (all_said ls) ≡ true
unfolding all_said
all_good forms numbers [] h = refl
all_good forms numbers (l ∷ ls) h =
    let both : (is_good numbers l ≡ true) × (list_all (is_good numbers) ls ≡ true) = and_parts (is_good numbers l) (list_all (is_good numbers) ls) h in
    let parts : (numbers l.number ≡ true) × (list_all has_bytes l.tokens ≡ true) = and_parts (numbers l.number) (list_all has_bytes l.tokens) both.0 in
    let rest : list_all (is_good_said numbers) (all_said ls) ≡ true = all_good forms numbers ls both.1 in
    let here : is_good_said numbers (said l) ≡ true = and_from (numbers l.number) (read_passes are_bytes (statement_in l.tokens)) parts.0 (strings_stand_on_the_line forms are_bytes l.tokens parts.1) in
    elim (is_nil l.tokens) as (λ b. list_all (is_good_said numbers) (cond b (all_said ls) (said l ∷ all_said ls)) ≡ true) [
      | true ↦ rest
      | false ↦ and_from (is_good_said numbers (said l)) (list_all (is_good_said numbers) (all_said ls)) here rest
    ]

back : (numbers : ℕ → Bool) (stmts : List Stmt) → list_all (is_good_said numbers) (map stmt_said stmts) ≡ true → list_all (is_good_statement numbers) stmts ≡ true
back numbers [] h = refl
back numbers (s ∷ ss) h =
    let both : (is_good_said numbers (stmt_said s) ≡ true) × (list_all (is_good_said numbers) (map stmt_said ss) ≡ true) = and_parts (is_good_said numbers (stmt_said s)) (list_all (is_good_said numbers) (map stmt_said ss)) h in
    and_from (is_good_statement numbers s) (list_all (is_good_statement numbers) ss) both.0 (back numbers ss both.1)

pub statements_keep_lines : OperandsHaveForms → StatementsKeepLines
statements_keep_lines forms numbers lines stmts h are = back numbers stmts (rw are.said_by (all_good forms numbers lines h))

pub statements_are_of_the_text : LinesAreOfTheText → ExpansionKeepsLines → StatementsKeepLines → StatementsAreOfTheText
statements_are_of_the_text read expand say text lines out stmts e f are =
    say (is_line_of text) out stmts (expand (is_line_of text) lines out (read text lines e) f) are

-- The names of statements are words of their lines.
use Rattle.std.proofs.Common.{◌≡◌, ℕ, Bool, true, false, not, ◌&&◌, ◌||◌, cond, List, [], ◌∷◌, ◌++◌, map, refl}
use Rattle.std.specs.Prelude.{nat_lt, nat_le, length, is_some}
use Rattle.std.specs.List.{list_all}
use Rattle.std.specs.Option.{option_to_list}
use Rattle.std.proofs.lemmas.Bool.{and_parts, and_from}
use Rattle.kc_lex.specs.declared.token.Token.{Token}
use Rattle.kc_lex.specs.declared.token.Line.{Line}
use Rattle.kc_lex.specs.Kinds.{is_name_kind, is_free_name}
use Rattle.kc_lex.specs.Words.{is_operator_word, operands_of, generic_operands_of, directive_of, is_stack, is_reserved}
use Rattle.kc_obj_module.specs.Names.{is_name, is_stack_name}
use Rattle.kc_macro_laws.specs.Ends.{ExpansionEndsAtAPlace}
use Rattle.kc_macro_laws.specs.Kept.{ExpansionKeepsTests}
use Rattle.kc_macro_laws.specs.MadeNames.{is_named, has_names, LinesHaveNames, LocalNamesAreFew}
use Rattle.kc_macro_laws.proofs.MadeNames.{names_pass}
use Rattle.kc_source_statement.specs.declared.statement.Stmt.{Stmt}
use Rattle.kc_source_statement.specs.Operands.{is_nil}
use Rattle.kc_source_statement.specs.Statements.{statement_in, label_in}
use Rattle.kc_source_statement.specs.Formed.{names_read, free_names_are, NamesStandOnTheLine}
use Rattle.kc_source.specs.Faults.{Said, said, all_said, stmt_said}
use Rattle.kc_source_laws.specs.Lines.{is_line_of, is_good, has_bytes, LinesAreOfTheText}
use Rattle.kc_asm_symbols.specs.Reported.{is_public, is_reported}
use Rattle.kc_source_laws.specs.Reporting.{is_reported_line, TextsAreReported, StatementsAreReported}

-- ---- words

-- the last of some tests that all fail
last_fails : (a b c d e : Bool) → not (a || b || c || d || e) ≡ true → not e ≡ true
last_fails true b c d e h = absurd (cc)
last_fails false true c d e h = absurd (cc)
last_fails false false true d e h = absurd (cc)
last_fails false false false true e h = absurd (cc)
last_fails false false false false e h = h

no_stack : (w : List ℕ) → not (is_reserved w) ≡ true → not (is_stack w) ≡ true
unfolding is_reserved
no_stack w h = last_fails (is_operator_word w) (is_some (operands_of w)) (is_some (generic_operands_of w)) (is_some (directive_of w)) (is_stack w) h

-- a word that a program may define is a name of an object
free_public : (t : Token) → is_named t ≡ true → (not (is_free_name t) || is_public t.text) ≡ true
free_public t h = by (is_name_kind t.kind) (is_reserved t.text) (is_name t.text) (is_stack_name t.text) h (no_stack t.text)
  where
    by : (k r n s : Bool) → (not k || n) ≡ true → (not r ≡ true → not s ≡ true) → (not (k && not r) || (n && not s)) ≡ true
    by false r n s h f = refl
    by true true n s h f = refl
    by true false true s h f = f refl
    by true false false s h f = absurd (cc)

free_all : (ts : List Token) → list_all is_named ts ≡ true → free_names_are is_public ts ≡ true
free_all [] h = refl
free_all (t ∷ ts) h =
    let both : (is_named t ≡ true) × (list_all is_named ts ≡ true) = and_parts (is_named t) (list_all is_named ts) h in
    and_from (not (is_free_name t) || is_public t.text) (free_names_are is_public ts) (free_public t both.0) (free_all ts both.1)

-- ---- statements

abbrev is_reported_said : Said → Bool
is_reported_said s = nat_lt 0 s.line && list_all is_public (option_to_list s.label ++ names_read s.action)

all_reported : NamesStandOnTheLine → (ls : List Line) → list_all is_reported_line ls ≡ true → list_all is_reported_said (all_said ls) ≡ true
unfolding all_said
all_reported law [] h = refl
all_reported law (l ∷ ls) h =
    let both : (is_reported_line l ≡ true) × (list_all is_reported_line ls ≡ true) = and_parts (is_reported_line l) (list_all is_reported_line ls) h in
    let parts : (nat_lt 0 l.number ≡ true) × (list_all is_named l.tokens ≡ true) = and_parts (nat_lt 0 l.number) (list_all is_named l.tokens) both.0 in
    let rest : list_all is_reported_said (all_said ls) ≡ true = all_reported law ls both.1 in
    let here : is_reported_said (said l) ≡ true =
    and_from (nat_lt 0 l.number) (list_all is_public (option_to_list (label_in l.tokens) ++ names_read (statement_in l.tokens))) parts.0 (law is_public l.tokens (free_all l.tokens parts.1)) in
    elim (is_nil l.tokens) as (λ b. list_all is_reported_said (cond b (all_said ls) (said l ∷ all_said ls)) ≡ true) [
      | true ↦ rest
      | false ↦ and_from (is_reported_said (said l)) (list_all is_reported_said (all_said ls)) here rest
    ]

back : (stmts : List Stmt) → list_all is_reported_said (map stmt_said stmts) ≡ true → list_all is_reported stmts ≡ true
back [] h = refl
back (s ∷ ss) h =
    let both : (is_reported_said (stmt_said s) ≡ true) × (list_all is_reported_said (map stmt_said ss) ≡ true) = and_parts (is_reported_said (stmt_said s)) (list_all is_reported_said (map stmt_said ss)) h in
    and_from (is_reported s) (list_all is_reported ss) both.0 (back ss both.1)

pub statements_are_reported : NamesStandOnTheLine → StatementsAreReported
statements_are_reported law lines stmts h are = back stmts (rw are.said_by (all_reported law lines h))

-- ---- texts

-- numbers from 1, and words that are names
lines_reported : (numbers : ℕ → Bool) → ((n : ℕ) → numbers n ≡ true → nat_lt 0 n ≡ true) → (ls : List Line) → list_all (is_good numbers) ls ≡ true → list_all has_names ls ≡ true → list_all is_reported_line ls ≡ true
lines_reported numbers first [] h k = refl
lines_reported numbers first (l ∷ ls) h k =
    let good : (is_good numbers l ≡ true) × (list_all (is_good numbers) ls ≡ true) = and_parts (is_good numbers l) (list_all (is_good numbers) ls) h in
    let named : (has_names l ≡ true) × (list_all has_names ls ≡ true) = and_parts (has_names l) (list_all has_names ls) k in
    let number : numbers l.number ≡ true = (and_parts (numbers l.number) (list_all has_bytes l.tokens) good.0).0 in
    and_from (is_reported_line l) (list_all is_reported_line ls) (and_from (nat_lt 0 l.number) (has_names l) (first l.number number) named.0) (lines_reported numbers first ls good.1 named.1)

pub texts_are_reported : LinesAreOfTheText → LinesHaveNames → ExpansionEndsAtAPlace → ExpansionKeepsTests → LocalNamesAreFew → TextsAreReported
texts_are_reported numbered named ends keep few source lines text read expands =
    let first : list_all is_reported_line lines ≡ true =
    lines_reported (is_line_of source) (λ n h. (and_parts (nat_lt 0 n) (nat_le n (length source)) h).0) lines (numbered source lines read) (named source lines read) in
    let last = ends lines text expands in
    keep (nat_lt 0) is_named lines text last.0 last.1 (names_pass last.0.given (few lines text last.0 last.1)) first

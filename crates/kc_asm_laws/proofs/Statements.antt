-- Faults of statements and names are reported at the lines of their text.
use Rattle.std.proofs.Common.{◌≡◌, ℕ, Bool, true, false, cond, List, [], ◌∷◌, map, Option, Some, None, Result, Ok, Err, refl}
use Rattle.std.specs.List.{list_all}
use Rattle.std.proofs.lemmas.Bool.{and_parts, and_from}
use Rattle.kc_lex.specs.declared.token.Line.{Line}
use Rattle.kc_source_statement.specs.declared.statement.Stmt.{Stmt}
use Rattle.kc_source_statement.specs.Operands.{is_nil}
use Rattle.kc_source_statement.specs.Trees.{ActionTree, Bare, Module, Cseg, Dseg, Rseg, Sseg, Public, Extrn, Equ, Set, Define, Reserve, Org, Even, End, Operation}
use Rattle.kc_source.specs.declared.uses.Use.{Use}
use Rattle.kc_source.specs.declared.uses.UseKind.{UseKind}
use Rattle.kc_source.specs.declared.uses.UseKind.TheVariants.{Taken, Given}
use Rattle.kc_source.specs.Faults.{Fault, Said, said, all_said, stmt_said, code_at, code_behind, line_faults, use_of, label_uses, action_uses, read_uses, uses_of, all_uses, is_one_too_many, use_code, name_faults, faults_of, AreStatements}
use Rattle.kc_source_laws.proofs.Tests.{Holds, all_join}
use Rattle.kc_asm_laws.proofs.Reading.{is_at}
use Rattle.kc_asm_laws.proofs.Least.{one_holds}

module _ (numbers : ℕ → Bool) where
  abbrev pub fault_at : Fault → Bool
  fault_at f = numbers f.0

  abbrev said_at : Said → Bool
  said_at s = numbers s.line

  abbrev pub use_at : Use → Bool
  use_at u = numbers u.line

  pub at_code : (line : ℕ) (o : Option ℕ) → numbers line ≡ true → Holds (λ (code : ℕ). numbers line) o
  at_code line None h = tt
  at_code line (Some code) h = h

  -- ---- what lines say

  said_are_at : (ls : List Line) → list_all (is_at numbers) ls ≡ true → list_all said_at (all_said ls) ≡ true
  unfolding all_said
  said_are_at [] h = refl
  said_are_at (l ∷ ls) h =
      let both : (numbers l.number ≡ true) × (list_all (is_at numbers) ls ≡ true) = and_parts (numbers l.number) (list_all (is_at numbers) ls) h in
      elim (is_nil l.tokens) as (λ b. list_all said_at (cond b (all_said ls) (said l ∷ all_said ls)) ≡ true) [
        | true ↦ said_are_at ls both.1
        | false ↦ and_from (numbers l.number) (list_all said_at (all_said ls)) both.0 (said_are_at ls both.1)
      ]

  line_faults_at : (first code : Bool) (ss : List Said) → list_all said_at ss ≡ true → list_all fault_at (line_faults first code ss) ≡ true
  unfolding line_faults
  line_faults_at first code [] h = refl
  line_faults_at first code (s ∷ ss) h =
      let both : (numbers s.line ≡ true) × (list_all said_at ss ≡ true) = and_parts (numbers s.line) (list_all said_at ss) h in
      one_holds fault_at s.line (code_at first code s.action) (line_faults false (code_behind code s.action) ss) (at_code s.line (code_at first code s.action) both.0)
      (line_faults_at false (code_behind code s.action) ss both.1)

  -- ---- uses of names

  names_at : (line : ℕ) (kind : UseKind) (ns : List (List ℕ)) → numbers line ≡ true → list_all use_at (map (use_of line kind) ns) ≡ true
  names_at line kind [] h = refl
  names_at line kind (n ∷ ns) h = and_from (numbers line) (list_all use_at (map (use_of line kind) ns)) h (names_at line kind ns h)

  label_at : (line : ℕ) (o : Option (List ℕ)) → numbers line ≡ true → list_all use_at (label_uses line o) ≡ true
  label_at line None h = refl
  label_at line (Some name) h = and_from (numbers line) true h refl

  action_at : (line : ℕ) (a : ActionTree) → numbers line ≡ true → list_all use_at (action_uses line a) ≡ true
  action_at line (Equ name x) h = and_from (numbers line) true h refl
  action_at line (Set name x) h = and_from (numbers line) true h refl
  action_at line (Extrn names) h = names_at line Taken names h
  action_at line (Public names) h = names_at line Given names h
  action_at line Bare h = refl
  action_at line (Module name stack) h = refl
  action_at line (Cseg at) h = refl
  action_at line (Dseg at) h = refl
  action_at line (Rseg at) h = refl
  action_at line (Sseg size) h = refl
  action_at line (Define size items) h = refl
  action_at line (Reserve size x) h = refl
  action_at line (Org x) h = refl
  action_at line Even h = refl
  action_at line End h = refl
  action_at line (Operation name args) h = refl

  read_uses_at : (line : ℕ) (r : Result ActionTree ℕ) → numbers line ≡ true → list_all use_at (read_uses line r) ≡ true
  read_uses_at line (Ok a) h = action_at line a h
  read_uses_at line (Err e) h = refl

  pub said_uses_at : (s : Said) → numbers s.line ≡ true → list_all use_at (uses_of s) ≡ true
  said_uses_at s h = all_join use_at (label_uses s.line s.label) (read_uses s.line s.action) (label_at s.line s.label h) (read_uses_at s.line s.action h)

  uses_are_at : (ss : List Said) → list_all said_at ss ≡ true → list_all use_at (all_uses ss) ≡ true
  unfolding all_uses
  uses_are_at [] h = refl
  uses_are_at (s ∷ ss) h =
      let both : (numbers s.line ≡ true) × (list_all said_at ss ≡ true) = and_parts (numbers s.line) (list_all said_at ss) h in
      all_join use_at (uses_of s) (all_uses ss) (said_uses_at s both.0) (uses_are_at ss both.1)

  name_faults_at : (all earlier us : List Use) → list_all use_at us ≡ true → list_all fault_at (name_faults all earlier us) ≡ true
  unfolding name_faults
  name_faults_at all earlier [] h = refl
  name_faults_at all earlier (u ∷ us) h =
      let both : (numbers u.line ≡ true) × (list_all use_at us ≡ true) = and_parts (numbers u.line) (list_all use_at us) h in
      let code = use_code u.kind u.name (is_one_too_many u earlier) all earlier in
      one_holds fault_at u.line code (name_faults all (u ∷ earlier) us) (at_code u.line code both.0) (name_faults_at all (u ∷ earlier) us both.1)

  -- ---- the whole

  pub faults_are_at : (ls : List Line) → list_all (is_at numbers) ls ≡ true → list_all fault_at (faults_of ls) ≡ true
  unfolding faults_of
  faults_are_at ls h =
      let lines = said_are_at ls h in
      all_join fault_at (line_faults true true (all_said ls)) (name_faults (all_uses (all_said ls)) [] (all_uses (all_said ls)))
      (line_faults_at true true (all_said ls) lines) (name_faults_at (all_uses (all_said ls)) [] (all_uses (all_said ls)) (uses_are_at (all_said ls) lines))

  -- statements stand at the lines that say them
  abbrev pub stmt_at : Stmt → Bool
  stmt_at s = numbers s.line

  back : (stmts : List Stmt) → list_all said_at (map stmt_said stmts) ≡ true → list_all stmt_at stmts ≡ true
  back [] h = refl
  back (s ∷ ss) h =
      let both : (numbers s.line ≡ true) × (list_all said_at (map stmt_said ss) ≡ true) = and_parts (numbers s.line) (list_all said_at (map stmt_said ss)) h in
      and_from (numbers s.line) (list_all stmt_at ss) both.0 (back ss both.1)

  pub statements_are_at : (stmts : List Stmt) (ls : List Line) → list_all (is_at numbers) ls ≡ true → AreStatements stmts ls → list_all stmt_at stmts ≡ true
  statements_are_at stmts ls h are = back stmts (rw are.said_by (said_are_at ls h))

-- Where a pass without fault finds statements that hold bytes.
use Rattle.std.proofs.Common.{◌≡◌, ℕ, ◌+◌, Bool, true, false, not, ◌&&◌, ◌||◌, cond, List, [], ◌∷◌, ◌++◌, map, Option, Some, None, Ok, refl, sym, ap, ◌∙◌}
use Rattle.std.specs.List.{list_all}
use Rattle.std.specs.Option.{option_to_list}
use Rattle.std.proofs.lemmas.Bool.{and_from}
use Rattle.kc_lex.specs.LineFaults.{Fault, at_line}
use Rattle.kc_lex.proofs.FaultLemmas.{no_least}
use Rattle.kc_expr.specs.declared.values.Value.{Value}
use Rattle.kc_source_statement.specs.declared.statement.Stmt.{Stmt}
use Rattle.kc_source_statement.specs.Trees.{ActionTree, action_tree}
use Rattle.kc_source_statement.specs.Trees as trees
use Rattle.kc_source.specs.Faults.{is_module, holds_bytes, code_after, code_at, line_faults, name_faults, all_said, all_uses, faults_of, stmt_said}
use Rattle.kc_asm_symbols.specs.declared.segments.Segment.{Segment}
use Rattle.kc_asm_symbols.specs.Located.{located_from, segment_after, first_segment}
use Rattle.kc_asm_symbols.specs.Reported.{is_code, stands_well}
use Rattle.kc_source_laws.specs.Places.{BytesStandInCode}

-- ---- the pass

both_nil : (xs ys : List Fault) → xs ++ ys ≡ [] → (xs ≡ []) × (ys ≡ [])
both_nil [] ys e = (refl, e)
both_nil (x ∷ xs) ys e = absurd (cc)

no_code_at : (line : ℕ) (code : Option ℕ) → option_to_list (at_line line code) ≡ [] → code ≡ None
no_code_at line None e = refl
no_code_at line (Some c) e = absurd (cc)

in_code : (first code : Bool) (a : ActionTree) → code_at first code (Ok a) ≡ None → (not (holds_bytes a) || code) ≡ true
in_code first code a e = by (is_module a && not first) (holds_bytes a) code e
  where
    by : (m h c : Bool) → cond {A = Option ℕ} m (Some 23) (cond (h && not c) (Some 18) None) ≡ None → (not h || c) ≡ true
    by true h c e = absurd (cc)
    by false true true e = refl
    by false true false e = absurd (cc)
    by false false c e = refl

-- the pass knows whether the segment is code
code_goes : (code : Bool) (g : Segment) (a : ActionTree) → code ≡ is_code g.kind → code_after code a ≡ is_code (segment_after g a).kind
code_goes code g (trees.Cseg None) e = refl
code_goes code g (trees.Cseg (Some x)) e = refl
code_goes code g (trees.Dseg None) e = refl
code_goes code g (trees.Dseg (Some x)) e = refl
code_goes code g (trees.Rseg None) e = refl
code_goes code g (trees.Rseg (Some x)) e = refl
code_goes code g trees.Bare e = e
code_goes code g (trees.Module name stack) e = e
code_goes code g (trees.Sseg size) e = e
code_goes code g (trees.Public names) e = e
code_goes code g (trees.Extrn names) e = e
code_goes code g (trees.Equ name x) e = e
code_goes code g (trees.Set name x) e = e
code_goes code g (trees.Define size items) e = e
code_goes code g (trees.Reserve size x) e = e
code_goes code g (trees.Org x) e = e
code_goes code g trees.Even e = e
code_goes code g trees.End e = e
code_goes code g (trees.Operation name args) e = e

stand_well : (values : ℕ → Segment → Value) (i : ℕ) (g : Segment) (first code : Bool) (ss : List Stmt) → code ≡ is_code g.kind
    → line_faults first code (map stmt_said ss) ≡ [] → list_all stands_well (located_from values i g ss) ≡ true
unfolding line_faults located_from
stand_well values i g first code [] is e = refl
stand_well values i g first code (s ∷ ss) is e =
    let a = action_tree s.action in
    let parts = both_nil (option_to_list (at_line s.line (code_at first code (Ok a)))) (line_faults false (code_after code a) (map stmt_said ss)) e in
    let here : (not (holds_bytes a) || code) ≡ true = in_code first code a (no_code_at s.line (code_at first code (Ok a)) parts.0) in
    let well : (not (holds_bytes a) || is_code g.kind) ≡ true = ap (λ (b : Bool). not (holds_bytes a) || b) (sym is) ∙ here in
    and_from (not (holds_bytes a) || is_code g.kind) (list_all stands_well (located_from values (i + 1) (segment_after g a) ss)) well
    (stand_well values (i + 1) (segment_after g a) false (code_after code a) ss (code_goes code g a is) parts.1)

pub bytes_stand_in_code : BytesStandInCode
unfolding faults_of
bytes_stand_in_code lines stmts are values =
    let none : faults_of lines ≡ [] = no_least (faults_of lines) are.sound in
    let parts = both_nil (line_faults true true (all_said lines)) (name_faults (all_uses (all_said lines)) [] (all_uses (all_said lines))) none in
    stand_well values 0 first_segment true true stmts refl (ap (line_faults true true) are.said_by ∙ parts.0)

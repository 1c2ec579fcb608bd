-- A source has one listing: what its statements say does not depend on where their expressions lie in memory.
use Rattle.std.proofs.Common.{◌≡◌, ℕ, Bool, true, false, List, [], ◌∷◌, ◌++◌, map, refl, sym, ap, ◌∙◌}
use Rattle.std.specs.Prelude.{Option, Some, Result, Ok, if◌then◌else◌}
use Rattle.kc_lex.specs.declared.token.Line.{Line}
use Rattle.kc_lex.specs.Lines.{lines_of}
use Rattle.kc_macro.specs.Expansion.{expanded}
use Rattle.kc_asm_list.specs.Depths.{depths_of}
use Rattle.kc_source_statement.specs.declared.statement.Action.{Action}
use Rattle.kc_source_statement.specs.declared.statement.Action.TheVariants as action
use Rattle.kc_source_statement.specs.declared.statement.Stmt.{Stmt}
use Rattle.kc_source_statement.specs.Trees.{ActionTree, Operation, action_tree}
use Rattle.kc_source.specs.Faults.{Said, stmt_said, all_said}
use Rattle.kc_asm_layout.specs.StatementSizes.{statement_sizes}
use Rattle.kc_asm_layout.specs.Text.{layout}
use Rattle.kc_asm_laws.proofs.Alike.{cons_said, ok_tree, sizes_alike}
use Rattle.kc_asm_list.specs.declared.spot.Spot.{Spot}
use Rattle.kc_asm_list.specs.Listed.{AreStanding, is_operation, instructions_of}
use Rattle.kc_asm_list.specs.Rows as rows
use Rattle.kc_asm_list.specs.Spots.{spots_from}
use Rattle.kc_asm_laws.specs.Laws.{OneInstructions, OneListing}

pub one_ok : {A E : Type 0} (r : Result A E) (a b : A) → r ≡ Ok a → r ≡ Ok b → a ≡ b
one_ok r a b f g = cc (f, g)

pub one_some_ok : {A E : Type 0} (o : Option (Result A E)) (a b : A) → o ≡ Some (Ok a) → o ≡ Some (Ok b) → a ≡ b
one_some_ok o a b f g = cc (f, g)

pub one_text : (source : List ℕ) (lines others text other : List Line) → lines_of source ≡ Ok lines → lines_of source ≡ Ok others
    → expanded lines ≡ Some (Ok text) → expanded others ≡ Some (Ok other) → text ≡ other
one_text source lines others text other e f g h = one_some_ok (expanded others) text other (ap expanded (one_ok (lines_of source) others lines f e) ∙ g) h

pub one_listing : OneListing
one_listing source m listed other h k =
    let lines : h.lines ≡ k.lines = one_ok (lines_of source) h.lines k.lines h.is_text.0 k.is_text.0 in
    let text : h.text ≡ k.text = one_text source h.lines k.lines h.text k.text h.is_text.0 k.is_text.0 h.is_text.1 k.is_text.1 in
    let depths : h.depths ≡ k.depths = one_some_ok (depths_of k.lines) h.depths k.depths (ap depths_of (sym lines) ∙ h.deep) k.deep in
    let said : map stmt_said h.stmts ≡ map stmt_said k.stmts = h.said.said_by ∙ ap all_said text ∙ sym k.said.said_by in
    let size_records : statement_sizes h.stmts ≡ statement_sizes k.stmts = sizes_alike h.stmts k.stmts said in
    h.reported ∙ (λ i. rows.listing m source (spots_from (text i) (depths i) (size_records i) (layout (size_records i)))) ∙ sym k.reported

-- ---- and its instructions stand in one way

abbrev is_operation_tree : ActionTree → Bool
is_operation_tree (Operation name args) = true
is_operation_tree _ = false

of_tree : (a : Action) → is_operation a ≡ is_operation_tree (action_tree a)
of_tree action.Bare = refl
of_tree (action.Module name stack) = refl
of_tree (action.Cseg at) = refl
of_tree (action.Dseg at) = refl
of_tree (action.Rseg at) = refl
of_tree (action.Sseg size) = refl
of_tree (action.Public names) = refl
of_tree (action.Extrn names) = refl
of_tree (action.Equ name value) = refl
of_tree (action.Set name value) = refl
of_tree (action.Define size items) = refl
of_tree (action.Reserve size count) = refl
of_tree (action.Org place) = refl
of_tree action.Even = refl
of_tree action.End = refl
of_tree (action.Operation name args) = refl

instructions_alike : (spots : List Spot) (ss ts : List Stmt) → map stmt_said ss ≡ map stmt_said ts → instructions_of spots ss ≡ instructions_of spots ts
unfolding instructions_of
instructions_alike [] ss ts e = refl
instructions_alike (spot ∷ spots) [] [] e = refl
instructions_alike (spot ∷ spots) [] (t ∷ ts) e = absurd (cc e)
instructions_alike (spot ∷ spots) (s ∷ ss) [] e = absurd (cc e)
instructions_alike (spot ∷ spots) (s ∷ ss) (t ∷ ts) e =
    let both : (stmt_said s ≡ stmt_said t) × (map stmt_said ss ≡ map stmt_said ts) = cons_said (stmt_said s) (stmt_said t) (map stmt_said ss) (map stmt_said ts) e in
    let tree : action_tree s.action ≡ action_tree t.action = ok_tree (action_tree s.action) (action_tree t.action) (stmt_said s).action (stmt_said t).action (ap (λ (x : Said). x.action) both.0) refl refl in
    let is : is_operation s.action ≡ is_operation t.action = of_tree s.action ∙ ap is_operation_tree tree ∙ sym (of_tree t.action) in
    let rest : instructions_of spots ss ≡ instructions_of spots ts = instructions_alike spots ss ts both.1 in
    λ i. (if is i then spot ∷ [] else []) ++ rest i

pub one_instructions : OneInstructions
one_instructions source spots others h k =
    let a : AreStanding source h.spots h.stmts = h.standing in
    let b : AreStanding source k.spots k.stmts = k.standing in
    let lines : a.lines ≡ b.lines = one_ok (lines_of source) a.lines b.lines a.is_text.0 b.is_text.0 in
    let text : a.text ≡ b.text = one_text source a.lines b.lines a.text b.text a.is_text.0 b.is_text.0 a.is_text.1 b.is_text.1 in
    let depths : a.depths ≡ b.depths = one_some_ok (depths_of b.lines) a.depths b.depths (ap depths_of (sym lines) ∙ a.deep) b.deep in
    let said : map stmt_said h.stmts ≡ map stmt_said k.stmts = a.said.said_by ∙ ap all_said text ∙ sym b.said.said_by in
    let size_records : statement_sizes h.stmts ≡ statement_sizes k.stmts = sizes_alike h.stmts k.stmts said in
    h.own
    ∙ ap (λ (standing : List Spot). instructions_of standing h.stmts) a.own
    ∙ (λ i. instructions_of (spots_from (text i) (depths i) (size_records i) (layout (size_records i))) h.stmts)
    ∙ instructions_alike (spots_from b.text b.depths (statement_sizes k.stmts) (layout (statement_sizes k.stmts))) h.stmts k.stmts said
    ∙ sym (k.own ∙ ap (λ (standing : List Spot). instructions_of standing k.stmts) b.own)

-- A text has one module: what its statements say does not depend on where their expressions lie in memory.
use Rattle.std.proofs.Common.{◌≡◌, ℕ, ◌+◌, List, [], ◌∷◌, map, refl, sym, ap, ◌∙◌, subst}
use Rattle.std.specs.Prelude.{Option, Some, Result, Ok, slice_get}
use Rattle.std.specs.List.Sorted.{IsPermutation}
use Rattle.kc_lex.specs.declared.token.Line.{Line}
use Rattle.kc_lex.specs.Lines.{lines_of}
use Rattle.kc_macro.specs.Expansion.{expanded}
use Rattle.kc_expr.specs.declared.values.Value.{Value}
use Rattle.kc_source_statement.specs.declared.statement.Stmt.{Stmt}
use Rattle.kc_source_statement.specs.Trees.{ActionTree, action_tree}
use Rattle.kc_source.specs.Faults.{Said, stmt_said, all_said}
use Rattle.kc_asm_symbols.specs.declared.segments.Segment.{Segment}
use Rattle.kc_asm_symbols.specs.Located.{first_segment, segment_after, value_at, located_at, located_from, located_by}
use Rattle.kc_asm_symbols.specs.Externals.{externals}
use Rattle.kc_asm_symbols.specs.Meanings.{in_all}
use Rattle.kc_obj_module.specs.declared.parts.Given.{Given}
use Rattle.kc_obj_module.specs.Object.{Object}
use Rattle.kc_asm_section.specs.declared.unlinked.UnlinkedModule.{UnlinkedModule}
use Rattle.kc_asm_section.specs.Section.{Section}
use Rattle.kc_asm_section.specs.Order.{kept_of, number_of, pieces_of, segment_of}
use Rattle.kc_asm_section.specs.Publics.{given_of}
use Rattle.kc_asm_section.specs.ModuleOf.{byte_at, relocated_at, entries_from, kept_in, pieces_in, IsModuleOf}
use Rattle.kc_asm_section.specs.OneModule.{OneModule}
use Rattle.kc_asm_layout.specs.StatementSizes.{at_zero, on_its_own, size_records_from, statement_sizes}
use Rattle.kc_asm_layout.specs.declared.size_record.SizeRecord.{SizeRecord}
use Rattle.kc_asm_layout.specs.declared.location.Location.{Location}
use Rattle.kc_asm_layout.specs.Text.{layout}
use Rattle.kc_asm_check.specs.Checking.{location_list, standing, place_at}
use Rattle.kc_asm_check.specs.Putting.{stack_from}
use Rattle.kc_asm_unlinked_laws.specs.Collecting.{name_of, parts_from, first_parts, all_given, distinct_from, publics_of, IsUnlinkedModuleOf}
use Rattle.kc_asm.specs.Assembled.{IsText, AreSaid}
use Rattle.kc_asm_laws.specs.Modules.{OneModuleOfText}

-- ---- statements that say the same stand alike

pub cons_said : (a b : Said) (xs ys : List Said) → a ∷ xs ≡ b ∷ ys → (a ≡ b) × (xs ≡ ys)
cons_said a b xs ys e = (cc e, cc e)

pub ok_tree : (a b : ActionTree) (r s : Result ActionTree ℕ) → r ≡ s → r ≡ Ok a → s ≡ Ok b → a ≡ b
ok_tree a b r s e f g = cc (e, f, g)

located_alike : (values : ℕ → Segment → Value) (i : ℕ) (g : Segment) (ss ts : List Stmt) → map stmt_said ss ≡ map stmt_said ts → located_from values i g ss ≡ located_from values i g ts
unfolding located_from
located_alike values i g [] [] e = refl
located_alike values i g [] (t ∷ ts) e = absurd (cc e)
located_alike values i g (s ∷ ss) [] e = absurd (cc e)
located_alike values i g (s ∷ ss) (t ∷ ts) e =
    let both : (stmt_said s ≡ stmt_said t) × (map stmt_said ss ≡ map stmt_said ts) = cons_said (stmt_said s) (stmt_said t) (map stmt_said ss) (map stmt_said ts) e in
    let line : s.line ≡ t.line = ap (λ (x : Said). x.line) both.0 in
    let label : s.label ≡ t.label = ap (λ (x : Said). x.label) both.0 in
    let action : action_tree s.action ≡ action_tree t.action = ok_tree (action_tree s.action) (action_tree t.action) (stmt_said s).action (stmt_said t).action (ap (λ (x : Said). x.action) both.0) refl refl in
    let here : located_at g (values i g) s ≡ located_at g (values i g) t = λ k. record { line = line k; label = label k; action = action k; segment = g; here = values i g } in
    let rest : located_from values (i + 1) (segment_after g (action_tree s.action)) ss ≡ located_from values (i + 1) (segment_after g (action_tree t.action)) ts =
    located_alike values (i + 1) (segment_after g (action_tree s.action)) ss ts both.1 ∙ ap (λ (a : ActionTree). located_from values (i + 1) (segment_after g a) ts) action in
    λ k. here k ∷ rest k

module _ (ss ts : List Stmt) (same : map stmt_said ss ≡ map stmt_said ts) where
  zeros : located_by at_zero ss ≡ located_by at_zero ts
  zeros = located_alike at_zero 0 first_segment ss ts same

  owns : located_by on_its_own ss ≡ located_by on_its_own ts
  owns = located_alike on_its_own 0 first_segment ss ts same

  pub sizes_alike : statement_sizes ss ≡ statement_sizes ts
  sizes_alike = λ i. size_records_from (zeros i) (owns i) [] [] (zeros i) (owns i)

  pub locations_alike : location_list ss ≡ location_list ts
  locations_alike = ap (λ (ns : List SizeRecord). layout ns) sizes_alike

  pub standing_alike : standing ss ≡ standing ts
  standing_alike =
      located_alike (λ i g. value_at g (place_at (location_list ss) i)) 0 first_segment ss ts same
      ∙ ap (λ (l : List Location). located_from (λ i g. value_at g (place_at l i)) 0 first_segment ts) locations_alike

  pub unlinked_alike : (d : UnlinkedModule) → IsUnlinkedModuleOf ss d → IsUnlinkedModuleOf ts d
  unlinked_alike d h = record {
    name = h.name ∙ ap name_of standing_alike;
    parts = h.parts ∙ (λ i. parts_from (standing_alike i) [] (standing_alike i) (locations_alike i) first_parts);
    stack = h.stack ∙ (λ i. stack_from (standing_alike i) 0 [] (standing_alike i));
    externals = h.externals ∙ ap externals standing_alike;
    publics = h.publics ∙ (λ i. publics_of (in_all (standing_alike i)) (distinct_from [] (all_given (standing_alike i))));
  }

-- ---- unlinked modules that say the same have one module

module _ (stmts : List Stmt) (d e : UnlinkedModule) (h : IsUnlinkedModuleOf stmts d) (k : IsUnlinkedModuleOf stmts e) where
  parts_same : d.parts.items ≡ e.parts.items
  parts_same = h.parts ∙ sym k.parts

  stack_same : d.stack ≡ e.stack
  stack_same = h.stack ∙ sym k.stack

  publics_same : d.publics.items ≡ e.publics.items
  publics_same = h.publics ∙ sym k.publics

  kept_same : kept_in d ≡ kept_in e
  kept_same = λ i. kept_of (parts_same i) (publics_same i)

  pub pieces_same : pieces_in d ≡ pieces_in e
  pieces_same = λ i. pieces_of (kept_same i) (parts_same i) (stack_same i)

  givens_same : map (given_of (number_of (kept_in d))) d.publics.items ≡ map (given_of (number_of (kept_in e))) e.publics.items
  givens_same = λ i. map (given_of (number_of (kept_same i))) (publics_same i)

  module_same : (m : Object) → IsModuleOf d m → IsModuleOf e m
  module_same m f = record {
    rules = f.rules;
    name = f.name ∙ (h.name ∙ sym k.name);
    segments = f.segments ∙ ap (map segment_of) pieces_same;
    externals = f.externals ∙ (h.externals ∙ sym k.externals);
    publics = subst (λ (gs : List Given). IsPermutation gs m.publics) givens_same f.publics;
    contents = λ piece offset. f.contents piece offset ∙ ap (λ (ts : List Section). byte_at (slice_get ts piece) offset) pieces_same;
    fixups = λ piece offset. f.fixups piece offset ∙ (λ i. relocated_at (number_of (kept_same i)) piece (slice_get (pieces_same i) piece) offset);
    lines = f.lines ∙ ap (λ (ts : List Section). Some (entries_from 0 ts)) pieces_same;
  }

-- ---- texts

pub ok_lines : {E : Type 0} (r : Result (List Line) E) (a b : List Line) → r ≡ Ok a → r ≡ Ok b → a ≡ b
ok_lines r a b e f = cc (e, f)

some_lines : {E : Type 0} (o : Option (Result (List Line) E)) (a b : List Line) → o ≡ Some (Ok a) → o ≡ Some (Ok b) → a ≡ b
some_lines o a b e f = cc (e, f)

pub text_same : (text : List ℕ) (a b : List Line) → IsText text a → IsText text b → a ≡ b
text_same text a b x y =
    let lines : x.0 ≡ y.0 = ok_lines (lines_of text) x.0 y.0 x.1 y.1 in
    some_lines (expanded y.0) a b (sym (ap expanded lines) ∙ x.2) y.2

pub said_same : (text : List ℕ) (ss ts : List Stmt) → AreSaid text ss → AreSaid text ts → map stmt_said ss ≡ map stmt_said ts
said_same text ss ts x y = x.2.said_by ∙ (ap all_said (text_same text x.0 y.0 x.1 y.1) ∙ sym y.2.said_by)

pub one_module_of_text : OneModule → OneModuleOfText
one_module_of_text law text m n h k =
    let same : map stmt_said h.stmts ≡ map stmt_said k.stmts = said_same text h.stmts k.stmts h.said k.said in
    law k.unlinked m n (module_same k.stmts h.unlinked k.unlinked (unlinked_alike h.stmts k.stmts same h.unlinked h.collected) k.collected m h.made) k.made

-- What is known of each statement where it stands, once it is read well: an object can report it, and its relocatable bytes stand in code.
use Rattle.std.proofs.Common.{◌≡◌, ℕ, ◌+◌, Bool, true, not, ◌&&◌, ◌||◌, List, [], ◌∷◌, ◌++◌, refl, sym, ap, ◌∙◌}
use Rattle.std.specs.Prelude.{Option, Some, None, nat_lt}
use Rattle.std.specs.List.{list_all}
use Rattle.std.specs.Option.{option_to_list}
use Rattle.std.proofs.lemmas.Bool.{and_parts}
use Rattle.std.proofs.lemmas.List.Folds.{list_all-append}
use Rattle.kc_expr.specs.declared.values.Value.{Value}
use Rattle.kc_obj_module.specs.declared.parts.SegKind.{SegKind}
use Rattle.kc_obj_module.specs.declared.parts.SegKind.TheVariants.{Reg, Code, Ram, Stack}
use Rattle.kc_source_statement.specs.declared.statement.Stmt.{Stmt}
use Rattle.kc_source_statement.specs.Trees.{ActionTree, action_tree}
use Rattle.kc_source_statement.specs.Trees as trees
use Rattle.kc_source_statement.specs.Formed.{names_said}
use Rattle.kc_source.specs.Faults.{holds_bytes}
use Rattle.kc_asm_symbols.specs.declared.segments.Segment.{Segment}
use Rattle.kc_asm_symbols.specs.Located.{Located, located_from, value_at, segment_after, first_segment}
use Rattle.kc_asm_symbols.specs.Reported.{is_public, is_code, stands_well, AreReadWell}
use Rattle.kc_asm_encode.specs.declared.relocatable_byte.RelocatableByte.{RelocatableByte}
use Rattle.kc_branch.specs.declared.piece.Form.{Form}
use Rattle.kc_asm_emit.specs.Arguments.{Look, fixed_of}
use Rattle.kc_asm_emit.specs.Content.{RelocatableBytes, content, reserved, upto}
use Rattle.kc_asm_check.specs.Checking.{location_list, place_at, standing}

-- ---- where statements stand

-- what holds of all statements holds of them where they stand
pub located_test : (p : ℕ → Option (List ℕ) → ActionTree → Bool) (values : ℕ → Segment → Value) (i : ℕ) (g : Segment) (stmts : List Stmt)
    → list_all (λ s. p s.line s.label (action_tree s.action)) stmts ≡ true → list_all (λ l. p l.line l.label l.action) (located_from values i g stmts) ≡ true
unfolding located_from
located_test p values i g [] h = refl
located_test p values i g (s ∷ stmts) h =
    let parts = and_parts (p s.line s.label (action_tree s.action)) (list_all (λ (x : Stmt). p x.line x.label (action_tree x.action)) stmts) h in
    λ k. parts.0 k && located_test p values (i + 1) (segment_after g (action_tree s.action)) stmts parts.1 k

-- a line with a number, and names that a module may give
abbrev has_names : ℕ → Option (List ℕ) → ActionTree → Bool
has_names line label action = nat_lt 0 line && list_all is_public (option_to_list label ++ names_said action)

abbrev pub can_report : Located → Bool
can_report l = has_names l.line l.label l.action

pub record IsStandingWell (stmts : List Stmt) : Type 0 where
  pub reported : list_all can_report (standing stmts) ≡ true
  pub in_code : list_all stands_well (standing stmts) ≡ true

pub standing_well : (stmts : List Stmt) → AreReadWell stmts → IsStandingWell stmts
standing_well stmts read = record {
  reported = located_test has_names (λ i g. value_at g (place_at (location_list stmts) i)) 0 first_segment stmts read.reported;
  in_code = read.in_code (λ i g. value_at g (place_at (location_list stmts) i));
}

-- ---- what an object can report

pub line_reported : (l : Located) → can_report l ≡ true → nat_lt 0 l.line ≡ true
line_reported l h = (and_parts (nat_lt 0 l.line) (list_all is_public (option_to_list l.label ++ names_said l.action)) h).0

pub names_reported : (l : Located) → can_report l ≡ true → list_all is_public (names_said l.action) ≡ true
names_reported l h =
    let both = and_parts (nat_lt 0 l.line) (list_all is_public (option_to_list l.label ++ names_said l.action)) h in
    let split = sym (list_all-append is_public (option_to_list l.label) (names_said l.action)) ∙ both.1 in
    (and_parts (list_all is_public (option_to_list l.label)) (list_all is_public (names_said l.action)) split).1

-- ---- code

none_reserved : (size : ℕ) (o : Option ℕ) (os : List RelocatableByte) → reserved size o ≡ RelocatableBytes os → ⊥
none_reserved size None os e = cc
none_reserved size (Some n) os e = cc

none_upto : (o : Option ℕ) (os : List RelocatableByte) → upto o ≡ RelocatableBytes os → ⊥
none_upto None os e = cc
none_upto (Some n) os e = cc

-- what puts relocatable bytes is an instruction or data
puts_bytes : (look : Look) (form : Form) (place : Value) (action : ActionTree) (os : List RelocatableByte) → content look form place action ≡ RelocatableBytes os → holds_bytes action ≡ true
puts_bytes look form place (trees.Define size items) os e = refl
puts_bytes look form place (trees.Operation word args) os e = refl
puts_bytes look form place (trees.Reserve size count) os e = absurd (none_reserved size (fixed_of look count) os e)
puts_bytes look form place (trees.Org x) os e = absurd (none_upto (fixed_of look x) os e)
puts_bytes look form place _ os e = absurd (cc e)

-- so that where it stands well, it stands in code, whatever names mean
pub code_alone : (look : Look) (form : Form) (l : Located) (os : List RelocatableByte) → stands_well l ≡ true → content look form l.here l.action ≡ RelocatableBytes os → l.segment.kind ≡ Code
code_alone look form l os well e =
    by l.segment.kind (ap (λ (b : Bool). not b || is_code l.segment.kind) (sym (puts_bytes look form l.here l.action os e)) ∙ well)
  where
    by : (kind : SegKind) → is_code kind ≡ true → kind ≡ Code
    by Code h = refl
    by Reg h = absurd (cc h)
    by Ram h = absurd (cc h)
    by Stack h = absurd (cc h)

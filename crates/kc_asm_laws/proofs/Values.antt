-- Faults of values and places are reported at the lines of their statements.
use Rattle.std.proofs.Common.{◌≡◌, ℕ, ◌+◌, Bool, true, List, [], ◌∷◌, refl}
use Rattle.std.specs.List.{list_all}
use Rattle.std.proofs.lemmas.Bool.{and_parts, and_from}
use Rattle.kc_expr.specs.declared.values.Value.{Value}
use Rattle.kc_source_statement.specs.declared.statement.Stmt.{Stmt}
use Rattle.kc_source_statement.specs.Trees.{action_tree}
use Rattle.kc_asm_symbols.specs.declared.segments.Segment.{Segment}
use Rattle.kc_asm_symbols.specs.Located.{Located, located_from, segment_after, first_segment, value_at}
use Rattle.kc_asm_symbols.specs.Meanings.{meaning, in_all}
use Rattle.kc_asm_emit.specs.Faults as values
use Rattle.kc_asm_layout.specs.declared.location.Location.{Location}
use Rattle.kc_asm_check.specs.Codes.{Regions, first_regions, regions_after, stack_after}
use Rattle.kc_asm_check.specs.Checking.{codes_of, faults_from, faults_in, location_list, place_at, standing}
use Rattle.kc_asm_laws.proofs.Least.{one_holds}
use Rattle.kc_asm_laws.proofs.Statements.{fault_at, stmt_at, at_code}

module _ (numbers : ℕ → Bool) where
  abbrev located_is_at : Located → Bool
  located_is_at l = numbers l.line

  located_are_at : (places : ℕ → Segment → Value) (i : ℕ) (g : Segment) (ss : List Stmt) → list_all (stmt_at numbers) ss ≡ true → list_all located_is_at (located_from places i g ss) ≡ true
  unfolding located_from
  located_are_at places i g [] h = refl
  located_are_at places i g (s ∷ ss) h =
      let both : (numbers s.line ≡ true) × (list_all (stmt_at numbers) ss ≡ true) = and_parts (numbers s.line) (list_all (stmt_at numbers) ss) h in
      let more = segment_after g (action_tree s.action) in
      and_from (numbers s.line) (list_all located_is_at (located_from places (i + 1) more ss)) both.0 (located_are_at places (i + 1) more ss both.1)

  from_at : (all : List Located) (regions : Regions) (sum : ℕ) (before ls : List Located) (ss : List Location) → list_all located_is_at ls ≡ true
      → list_all (fault_at numbers) (faults_from all regions sum before ls ss) ≡ true
  unfolding faults_from
  from_at all regions sum before [] ss h = refl
  from_at all regions sum before (l ∷ ls) [] h = refl
  from_at all regions sum before (l ∷ ls) (s ∷ ss) h =
      let both : (numbers l.line ≡ true) × (list_all located_is_at ls ≡ true) = and_parts (numbers l.line) (list_all located_is_at ls) h in
      let look = meaning all before l in
      let code = values.least (codes_of look (in_all all) regions sum l s) in
      one_holds (fault_at numbers) l.line code (faults_from all (regions_after look regions l.action) (stack_after look sum l.action) (l ∷ before) ls ss)
      (at_code numbers l.line code both.0)
      (from_at all (regions_after look regions l.action) (stack_after look sum l.action) (l ∷ before) ls ss both.1)

  pub values_are_at : (stmts : List Stmt) → list_all (stmt_at numbers) stmts ≡ true → list_all (fault_at numbers) (faults_in stmts) ≡ true
  values_are_at stmts h =
      from_at (standing stmts) first_regions 0 [] (standing stmts) (location_list stmts)
      (located_are_at (λ i g. value_at g (place_at (location_list stmts) i)) 0 first_segment stmts h)

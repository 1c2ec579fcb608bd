-- A text without a fault has statements, an unlinked module and a module.
use Rattle.std.proofs.Common.{◌≡◌, ℕ, suc, ◌+◌, ◌<◌, ◌≤◌, ◌^◌, true, List, [], ◌∷◌, ◌++◌, length, refl, sym, ap, ◌∙◌, arith}
use Rattle.std.specs.Prelude.{None}
use Rattle.std.proofs.lemmas.List.{length-map}
use Rattle.kc_expr.specs.declared.values.Value.{Value}
use Rattle.kc_lex.specs.declared.token.Line.{Line}
use Rattle.kc_lex.proofs.FaultLemmas.{no_least}
use Rattle.kc_source_statement.specs.declared.statement.Stmt.{Stmt}
use Rattle.kc_source_statement.specs.Trees.{action_tree}
use Rattle.kc_source.specs.Clear.{NamesAreClear}
use Rattle.kc_source.specs.Faults.{stmt_said, all_said, all_uses, least, line_faults, name_faults, faults_of, AreStatements}
use Rattle.kc_asm_symbols.specs.Few.{ExternalsAreFew}
use Rattle.kc_asm_symbols.specs.Externals.{externals}
use Rattle.kc_asm_symbols.specs.declared.segments.Segment.{Segment}
use Rattle.kc_asm_symbols.specs.Located.{first_segment, segment_after, value_at, located_from}
use Rattle.kc_asm_symbols.specs.Meanings.{in_all}
use Rattle.kc_asm_symbols.proofs.WalkLemmas.{located_length}
use Rattle.kc_asm_section.specs.declared.unlinked.UnlinkedModule.{UnlinkedModule}
use Rattle.kc_asm_check.specs.Checking.{location_list, standing, place_at}
use Rattle.kc_asm_check.specs.Putting.{stack_from}
use Rattle.kc_asm_unlinked_laws.specs.Collecting.{name_of, parts_from, first_parts, all_given, distinct_from, publics_of, IsUnlinkedModuleOf}
use Rattle.kc_asm.specs.Assembled.{IsText, AreSaid}
use Rattle.kc_asm_unlinked_laws.proofs.Lists.{nothing_left}
use Rattle.kc_asm_laws.specs.Exists.{FaultlessAreRead, FaultlessHaveModules}
use Rattle.kc_asm_laws.specs.Made.{TextsHaveModules}
use Rattle.kc_asm_laws.proofs.ModuleValues.{vec_of, made}
use Rattle.kc_source_laws.proofs.Expanded.{few_lines}
use Rattle.kc_asm_laws.proofs.ModuleLines.{few_said, few_parts}
use Rattle.kc_asm_laws.proofs.Publics.{few_publics}

-- what few things are in memory
small : (n m : ℕ) → n ≤ m → m ≤ 1000000 → n < 2 ^ 63
small n m h k = omega (arith, h, k)

-- the statements of a text whose lines have no fault, and their unlinked module
pub record Collected (text : List ℕ) : Type 0 where
  pub stmts : List Stmt
  pub said : AreSaid text stmts
  pub unlinked : UnlinkedModule
  pub collected : IsUnlinkedModuleOf stmts unlinked

pub collected : ExternalsAreFew → NamesAreClear → (text : List ℕ) (out : List Line) → IsText text out → least (faults_of out) ≡ None → Collected text
unfolding faults_of
collected few clear text out t sound =
    let faults : line_faults true true (all_said out) ≡ [] = (nothing_left (line_faults true true (all_said out)) (name_faults (all_uses (all_said out)) [] (all_uses (all_said out))) (no_least (line_faults true true (all_said out) ++ name_faults (all_uses (all_said out)) [] (all_uses (all_said out))) sound)).0 in
    let k = made true true (all_said out) faults in
    let are : AreStatements k.stmts out = record { sound = sound; said_by = k.same } in
    let lines : length out ≤ 65535 = few_lines t.0 out t.2 in
    let said : length (all_said out) ≤ length out = few_said out in
    let as_many : length k.stmts ≡ length (all_said out) = sym (length-map k.stmts stmt_said) ∙ ap length k.same in
    let long : length (standing k.stmts) ≡ length k.stmts = located_length (λ i g. value_at g (place_at (location_list k.stmts) i)) 0 first_segment k.stmts in
    let parts = parts_from (standing k.stmts) [] (standing k.stmts) (location_list k.stmts) first_parts in
    let parts_few : length parts ≤ 3 + length (standing k.stmts) = few_parts (standing k.stmts) [] (standing k.stmts) (location_list k.stmts) first_parts in
    let externals_few : length (externals (standing k.stmts)) ≤ 16385 = few out k.stmts (λ i g. value_at g (place_at (location_list k.stmts) i)) are in
    let publics = publics_of (in_all (standing k.stmts)) (distinct_from [] (all_given (standing k.stmts))) in
    let publics_few : length publics ≤ length (all_said out) + length (all_said out) =
    few_publics clear out k.stmts (λ i g. value_at g (place_at (location_list k.stmts) i)) 0 first_segment (in_all (standing k.stmts)) sound k.same in
    let d : UnlinkedModule = record {
      name = name_of (standing k.stmts);
      parts = vec_of parts (small (length parts) 200000 (omega (arith, parts_few, long, as_many, said, lines)) (omega arith));
      stack = stack_from (standing k.stmts) 0 [] (standing k.stmts);
      externals = vec_of (externals (standing k.stmts)) (small (length (externals (standing k.stmts))) 200000 (omega (arith, externals_few)) (omega arith));
      publics = vec_of publics (small (length publics) 200000 (omega (arith, publics_few, said, lines)) (omega arith));
    } in
    record { stmts = k.stmts; said = (out, t, are); unlinked = d; collected = record { name = refl; parts = refl; stack = refl; externals = refl; publics = refl } }

pub record Laws : Type 0 where
  pub read : FaultlessAreRead
  pub have : FaultlessHaveModules
  pub few : ExternalsAreFew
  pub clear : NamesAreClear

pub texts_have_modules : Laws → TextsHaveModules
texts_have_modules laws text none =
    let r = laws.read text none in
    let d : Collected text = collected laws.few laws.clear text r.0 r.1 r.2 in
    laws.have text d.stmts d.unlinked none d.said d.collected

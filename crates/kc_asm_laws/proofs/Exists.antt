-- A text without a fault is read, and each unlinked module of what it says has a module.
use Rattle.std.proofs.Common.{◌≡◌, ℕ, ◌<◌, ◌≤◌, List, [], length, refl, arith, inl, inr}
use Rattle.std.specs.Prelude.{Option, Some, None, Result, Ok, Err}
use Rattle.kc_lex.specs.declared.token.Line.{Line}
use Rattle.kc_lex.specs.Lines.{lines_of}
use Rattle.kc_macro.specs.Expansion.{Answer, expanded, Ends, ExpansionEnds}
use Rattle.kc_source_statement.specs.declared.statement.Stmt.{Stmt}
use Rattle.kc_source.specs.Faults.{Fault, least, faults_of}
use Rattle.kc_asm_section.specs.declared.unlinked.UnlinkedModule.{UnlinkedModule}
use Rattle.kc_asm_section.specs.UnlinkedModules.{IsUnlinkedModule}
use Rattle.kc_asm_section.specs.Order.{number_of}
use Rattle.kc_asm_section.specs.ModuleOf.{kept_in, pieces_in}
use Rattle.kc_asm_section.proofs.Whole.{object_from, module_is}
use Rattle.kc_asm_check.specs.Codes.{first_regions}
use Rattle.kc_asm_check.specs.Checking.{first_fault, location_list, standing}
use Rattle.kc_asm_check.specs.Laws.{SoundStatements}
use Rattle.kc_asm_unlinked_laws.specs.Collecting.{first_parts, IsUnlinkedModuleOf}
use Rattle.kc_asm_unlinked_laws.specs.Few.{PiecesAreFew}
use Rattle.kc_asm_unlinked_laws.specs.Sound.{UnlinkedModulesAreUnlinked, UnlinkedModulesAreWhole}
use Rattle.kc_asm_unlinked_laws.specs.Writable.{PartsAreWritable}
use Rattle.kc_asm.specs.Assembled.{IsText, AreSaid, IsFaultless}
use Rattle.kc_asm.proofs.Said.{said_well}
use Rattle.kc_source_laws.specs.Lines.{StatementsAreOfTheText}
use Rattle.kc_source_laws.proofs.Counts.{stmt_count}
use Rattle.kc_source_laws.proofs.Expanded.{few_lines}
use Rattle.kc_source_laws.specs.Read.{SourcesAreReadWell}
use Rattle.kc_asm_laws.specs.Exists.{FaultlessAreRead, FaultlessHaveModules}
use Rattle.kc_asm_laws.proofs.Sources.{said_bytes}
use Rattle.kc_asm_laws.proofs.Sorted.{sorted, sorted_same, sorted_ordered}
use Rattle.kc_asm_laws.proofs.Sections.{stack_small}

-- ---- the first three passes

pub faultless_are_read : ExpansionEnds → FaultlessAreRead
faultless_are_read ends text none = of_lines (lines_of text) refl
  where
    of_names : (lines out : List Line) → lines_of text ≡ Ok lines → expanded lines ≡ Some (Ok out) → (o : Option Fault) → least (faults_of out) ≡ o → (read : List Line) × IsText text read × (least (faults_of read) ≡ None)
    of_names lines out e f None g = (out, (lines, e, f), g)
    of_names lines out e f (Some fault) g = absurd (none fault.0 fault.1 (inr (inr (inl (out, (lines, e, f), g)))))

    of_expansion : (lines : List Line) → lines_of text ≡ Ok lines → (a : Answer) → expanded lines ≡ a → Ends a → (read : List Line) × IsText text read × (least (faults_of read) ≡ None)
    of_expansion lines e None f ended = absurd ended
    of_expansion lines e (Some (Err fault)) f ended = absurd (none fault.0 fault.1 (inr (inl (lines, e, f))))
    of_expansion lines e (Some (Ok out)) f ended = of_names lines out e f (least (faults_of out)) refl

    of_lines : (r : Result (List Line) (ℕ × ℕ)) → lines_of text ≡ r → (read : List Line) × IsText text read × (least (faults_of read) ≡ None)
    of_lines (Err fault) e = absurd (none fault.0 fault.1 (inl e))
    of_lines (Ok lines) e = of_expansion lines e (expanded lines) refl (ends lines)

-- ---- the last pass

pub record Laws : Type 0 where
  pub of_text : StatementsAreOfTheText
  pub read : SourcesAreReadWell
  pub pieces : PiecesAreFew
  pub unlinked_modules : UnlinkedModulesAreUnlinked
  pub whole : UnlinkedModulesAreWhole
  pub writable : PartsAreWritable
  pub sound : SoundStatements

no_fault : (text : List ℕ) (stmts : List Stmt) → IsFaultless text → AreSaid text stmts → first_fault stmts ≡ None
no_fault text stmts none said = by (first_fault stmts) refl
  where
    by : (o : Option Fault) → first_fault stmts ≡ o → first_fault stmts ≡ None
    by None e = e
    by (Some f) e = absurd (none f.0 f.1 (inr (inr (inr (stmts, said, e)))))

-- an object can number the pieces
few_pieces : PiecesAreFew → (text : List ℕ) (stmts : List Stmt) (d : UnlinkedModule) → AreSaid text stmts → IsUnlinkedModuleOf stmts d → length (pieces_in d) ≤ 65536
few_pieces law text stmts d said collected =
    let lines = few_lines said.1.0 said.0 said.1.2 in
    let statements = stmt_count stmts said.0 said.2 in
    let pieces = law stmts d collected in
    omega (arith, lines, statements, pieces)

pub faultless_have_modules : Laws → FaultlessHaveModules
faultless_have_modules laws text stmts d none said collected =
    let sound = no_fault text stmts none said in
    let few = few_pieces laws.pieces text stmts d said collected in
    let unlinked : IsUnlinkedModule d = laws.unlinked_modules stmts d (said_well laws.read text stmts said) sound collected few in
    let sections = (laws.whole stmts d sound collected).sections in
    let small = stack_small (standing stmts) first_regions 0 [] (standing stmts) (location_list stmts) first_parts (laws.sound stmts sound) (laws.writable stmts sound) (omega arith) in
    let stack : d.stack < 65536 = (let same = collected.stack in omega (arith, small, same)) in
    let givens = sorted (number_of (kept_in d)) d.publics.items in
    let made = module_is d givens unlinked sections stack (sorted_same (number_of (kept_in d)) d.publics.items) (sorted_ordered (number_of (kept_in d)) d.publics.items unlinked.distinct) in (
      object_from d.name d.parts.items d.stack d.externals.items d.publics.items givens,
      record {
        stmts = stmts;
        said = said;
        characters = (said_bytes laws.of_text text stmts said).characters;
        sound = sound;
        unlinked = d;
        collected = collected;
        few = few;
        made = made;
      },
    )

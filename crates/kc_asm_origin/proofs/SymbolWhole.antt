-- The name that a source's fault is about, by its passes.
use Rattle.std.proofs.Common.{◌≡◌, ℕ, ◌+◌, List, [], ◌∷◌, map, Option, Some, None, refl, sym, ap, subst, ◌∙◌}
use Rattle.std.specs.Prelude.{Ok, Err}
use Rattle.kc_lex.specs.declared.token.Line.{Line}
use Rattle.kc_lex.specs.declared.fault.SourceFault.{SourceFault}
use Rattle.kc_lex.specs.declared.fault.SourceFault.TheVariants as faults
use Rattle.kc_lex.specs.Lines.{lines_of}
use Rattle.kc_macro.specs.Expansion.{Answer, IsExpanded, expanded}
use Rattle.kc_source_statement.specs.declared.statement.Stmt.{Stmt}
use Rattle.kc_source_statement.specs.Trees.{action_tree}
use Rattle.kc_source.specs.Faults.{Fault, AreStatements, IsStatements, stmt_said, all_said, all_uses, faults_of, least}
use Rattle.kc_asm_symbols.specs.declared.segments.Segment.{Segment}
use Rattle.kc_asm_symbols.specs.Located.{located_by, located_from, located_at, first_segment, segment_after}
use Rattle.kc_asm_layout.specs.StatementSizes.{at_zero}
use Rattle.kc_asm_origin.specs.Uses.{used_at}
use Rattle.kc_asm_origin.specs.Values.{symbol_at}
use Rattle.kc_asm_origin.specs.Symbol.{symbol_of, in_lines, in_text, by_fault, at_zero_from}

zero_from : (i : ℕ) (g : Segment) (ss : List Stmt) → at_zero_from g (map stmt_said ss) ≡ located_from at_zero i g ss
unfolding at_zero_from located_from
zero_from i g [] = refl
zero_from i g (s ∷ ss) = ap (λ ls. located_at g (at_zero i g) s ∷ ls) (zero_from (i + 1) (segment_after g (action_tree s.action)) ss)

-- a fault of lines, and one of macros
pub no_lines : (source : List ℕ) (line code : ℕ) (f : Fault) → lines_of source ≡ Err f → None ≡ symbol_of source line code
no_lines source line code f e = sym (ap (in_lines line code) e)

pub no_text : (source : List ℕ) (line code : ℕ) (ls : List Line) (f : Fault) → lines_of source ≡ Ok ls → expanded ls ≡ Some (Err f) → None ≡ symbol_of source line code
no_text source line code ls f read e = sym (ap (in_lines line code) read ∙ ap (in_text line code) e)

reported : {line code : ℕ} (fault : SourceFault) (a : Answer) → fault ≡ faults.At line code → IsExpanded (Err fault) a → a ≡ Some (Err (line, code))
reported fault a is h = subst (λ (e : SourceFault). IsExpanded (Err e) a) is h

pub by_macros : {l k : ℕ} (source : List ℕ) (line code : ℕ) (ls : List Line) (fault : SourceFault) → fault ≡ faults.At l k
    → lines_of source ≡ Ok ls → IsExpanded (Err fault) (expanded ls) → None ≡ symbol_of source line code
by_macros {l} {k} source line code ls fault is read h = no_text source line code ls (l, k) read (reported fault (expanded ls) is h)

-- a text with a fault of statements or names, and one without
pub of_uses : (source : List ℕ) (line code : ℕ) (ls text : List Line) (f : Fault) (o : Option (List ℕ)) → lines_of source ≡ Ok ls → expanded ls ≡ Some (Ok text) → least (faults_of text) ≡ Some f
    → o ≡ used_at line code (all_uses (all_said text)) → o ≡ symbol_of source line code
of_uses source line code ls text f o read e fault is = is ∙ sym (ap (in_lines line code) read ∙ ap (in_text line code) e ∙ ap (by_fault line code (all_said text)) fault)

pub by_statements : {l k : ℕ} (source : List ℕ) (line code : ℕ) (ls text : List Line) (fault : SourceFault) → fault ≡ faults.At l k
    → lines_of source ≡ Ok ls → expanded ls ≡ Some (Ok text) → IsStatements (Err fault) text → used_at line code (all_uses (all_said text)) ≡ symbol_of source line code
by_statements {l} {k} source line code ls text fault is read e h =
    of_uses source line code ls text (l, k) (used_at line code (all_uses (all_said text))) read e (subst (λ (f : SourceFault). IsStatements (Err f) text) is h) refl

pub of_values : (source : List ℕ) (line code : ℕ) (ls text : List Line) (stmts : List Stmt) (o : Option (List ℕ)) → lines_of source ≡ Ok ls → expanded ls ≡ Some (Ok text) → AreStatements stmts text
    → o ≡ symbol_at line code (located_by at_zero stmts) → o ≡ symbol_of source line code
of_values source line code ls text stmts o read e said is =
    is ∙ ap (symbol_at line code) (sym (zero_from 0 first_segment stmts)) ∙ (λ i. by_fault line code (said.said_by i) (sym said.sound i))
    ∙ sym (ap (in_lines line code) read ∙ ap (in_text line code) e)

-- The faults of a source that has no statements: of macros, and of statements and names.
use Rattle.std.proofs.Common.{◌≡◌, ℕ, inl, inr, List, Some, Ok, Err, sym, subst}
use Rattle.std.specs.Result.{IsErrAnd}
use Rattle.std.specs.Prelude.{Result}
use Rattle.kc_lex.specs.declared.token.Line.{Line}
use Rattle.kc_lex.specs.declared.fault.SourceFault.{SourceFault}
use Rattle.kc_lex.specs.declared.fault.SourceFault.TheVariants as faults
use Rattle.kc_lex.specs.Lines.{lines_of}
use Rattle.kc_macro.specs.Expansion.{IsExpanded, expanded}
use Rattle.kc_asm_list.specs.Depths.{GoWith}
use Rattle.kc_source.specs.Faults.{IsStatements}
use Rattle.kc_asm_list.specs.declared.listed.Standing.{Standing}
use Rattle.kc_asm_list.specs.Listed.{IsFaultOf, IsStanding}

by_fault : (source : List ℕ) (fault : SourceFault) (r : Result Standing SourceFault) → IsErrAnd r (λ reported. reported ≡ fault) → IsFaultOf source fault → IsStanding source r
by_fault source fault (Ok read) is h = absurd is
by_fault source fault (Err reported) is h = subst (λ (e : SourceFault). IsFaultOf source e) (sym is) h

pub by_macros : (source : List ℕ) (lines : List Line) (fault : SourceFault) (r : Result Standing SourceFault)
    → lines_of source ≡ Ok lines → IsErrAnd r (λ reported. reported ≡ fault) → IsExpanded (Err fault) (expanded lines) → IsStanding source r
by_macros source lines (faults.At line code) r l is h = by_fault source (faults.At line code) r is (inr (inl (lines, l, h)))
by_macros source lines faults.NoMemory r l is h = by_fault source faults.NoMemory r is tt

pub by_depths : (source : List ℕ) (lines : List Line) (fault : SourceFault) (r : Result Standing SourceFault)
    → lines_of source ≡ Ok lines → IsErrAnd r (λ reported. reported ≡ fault) → GoWith (Err fault) (expanded lines) → IsStanding source r
by_depths source lines (faults.At line code) r l is h = by_fault source (faults.At line code) r is (inr (inl (lines, l, h)))
by_depths source lines faults.NoMemory r l is h = by_fault source faults.NoMemory r is tt

pub by_statements : (source : List ℕ) (lines text : List Line) (fault : SourceFault) (r : Result Standing SourceFault)
    → lines_of source ≡ Ok lines → expanded lines ≡ Some (Ok text) → IsErrAnd r (λ reported. reported ≡ fault) → IsStatements (Err fault) text → IsStanding source r
by_statements source lines text (faults.At line code) r l t is h = by_fault source (faults.At line code) r is (inr (inr (lines, text, (l, t), h)))
by_statements source lines text faults.NoMemory r l t is h = by_fault source faults.NoMemory r is tt

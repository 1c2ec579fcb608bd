-- The faults of a source that stand before values: of macros, and of statements and names.
use Rattle.std.proofs.Common.{◌≡◌, ℕ, inl, inr, List, Some, Ok, Err, sym, subst}
use Rattle.std.specs.Result.{IsErrAnd}
use Rattle.std.specs.Prelude.{Result}
use Rattle.kc_lex.specs.declared.token.Line.{Line}
use Rattle.kc_lex.specs.declared.fault.SourceFault.{SourceFault}
use Rattle.kc_lex.specs.declared.fault.SourceFault.TheVariants as faults
use Rattle.kc_lex.specs.Lines.{lines_of}
use Rattle.kc_macro.specs.Expansion.{IsExpanded, expanded}
use Rattle.kc_source.specs.Faults.{IsStatements}
use Rattle.kc_obj_module.specs.Object.{Object}
use Rattle.kc_asm.specs.Assembled.{IsAssembled}

pub by_macros : (source : List ℕ) (lines : List Line) (fault : SourceFault) (r : Result Object SourceFault)
    → lines_of source ≡ Ok lines → IsErrAnd r (λ reported. reported ≡ fault) → IsExpanded (Err fault) (expanded lines) → IsAssembled source r
by_macros source lines fault (Ok m) l is h = absurd is
by_macros source lines (faults.At line code) (Err reported) l is h = subst (λ (e : SourceFault). IsAssembled source (Err e)) (sym is) (inr (inl (lines, l, h)))
by_macros source lines faults.NoMemory (Err reported) l is h = subst (λ (e : SourceFault). IsAssembled source (Err e)) (sym is) tt

pub by_statements : (source : List ℕ) (lines text : List Line) (fault : SourceFault) (r : Result Object SourceFault)
    → lines_of source ≡ Ok lines → expanded lines ≡ Some (Ok text) → IsErrAnd r (λ reported. reported ≡ fault) → IsStatements (Err fault) text → IsAssembled source r
by_statements source lines text fault (Ok m) l t is h = absurd is
by_statements source lines text (faults.At line code) (Err reported) l t is h =
    subst (λ (e : SourceFault). IsAssembled source (Err e)) (sym is) (inr (inr (inl (text, (lines, l, t), h))))
by_statements source lines text faults.NoMemory (Err reported) l t is h = subst (λ (e : SourceFault). IsAssembled source (Err e)) (sym is) tt

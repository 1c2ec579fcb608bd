-- What is found for the fault of a source, by its expansion and that of its marked lines.
use Rattle.std.proofs.Common.{◌≡◌, ℕ, List, Option, Some, None, Result, Ok, Err, refl, sym, subst}
use Rattle.kc_lex.specs.declared.token.Line.{Line}
use Rattle.kc_lex.specs.Lines.{lines_of}
use Rattle.kc_lex.specs.declared.fault.SourceFault.{SourceFault}
use Rattle.kc_lex.specs.declared.fault.SourceFault.TheVariants as faults
use Rattle.kc_macro.specs.Expansion.{Answer, IsExpanded, expanded}
use Rattle.kc_source.specs.Faults.{Fault}
use Rattle.kc_asm_origin.specs.Written.{marked}
use Rattle.kc_asm_origin.specs.Origin.{IsOriginAmong, IsOriginBetween, IsOriginOfText, IsOriginOfLines, IsOrigin}

pub of_expansions : (source : List ℕ) (line code : ℕ) (read text other : List Line) (found : Option ℕ)
    → lines_of source ≡ Ok read → expanded read ≡ Some (Ok text) → expanded (marked read) ≡ Some (Ok other) → IsOriginAmong (line, code) text other found → IsOrigin source line code found
of_expansions source line code read text other found r e m h =
    subst (λ (a : Result (List Line) Fault). IsOriginOfLines (line, code) a found) (sym r)
    (subst (λ (a : Answer). IsOriginOfText (line, code) a (expanded (marked read)) found) (sym e)
    (subst (λ (a : Answer). IsOriginBetween (line, code) text a found) (sym m) h))

-- a fault of macros, of the lines or of the marked lines
reported : {line code : ℕ} (fault : SourceFault) (a : Answer) → fault ≡ faults.At line code → IsExpanded (Err fault) a → a ≡ Some (Err (line, code))
reported fault a is h = subst (λ (e : SourceFault). IsExpanded (Err e) a) is h

pub no_text : {l k : ℕ} (source : List ℕ) (line code : ℕ) (read : List Line) (fault : SourceFault) → fault ≡ faults.At l k
    → lines_of source ≡ Ok read → IsExpanded (Err fault) (expanded read) → IsOrigin source line code None
no_text source line code read fault is r h =
    subst (λ (a : Result (List Line) Fault). IsOriginOfLines (line, code) a None) (sym r)
    (subst (λ (a : Answer). IsOriginOfText (line, code) a (expanded (marked read)) None) (sym (reported fault (expanded read) is h)) refl)

pub no_marks : {l k : ℕ} (source : List ℕ) (line code : ℕ) (read text : List Line) (fault : SourceFault) → fault ≡ faults.At l k
    → lines_of source ≡ Ok read → expanded read ≡ Some (Ok text) → IsExpanded (Err fault) (expanded (marked read)) → IsOrigin source line code None
no_marks source line code read text fault is r e h =
    subst (λ (a : Result (List Line) Fault). IsOriginOfLines (line, code) a None) (sym r)
    (subst (λ (a : Answer). IsOriginOfText (line, code) a (expanded (marked read)) None) (sym e)
    (subst (λ (a : Answer). IsOriginBetween (line, code) text a None) (sym (reported fault (expanded (marked read)) is h)) refl))

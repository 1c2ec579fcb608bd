-- The first fault of a source stands at one of its lines, or it is that of a missing END.
use Rattle.std.proofs.Common.{◌≡◌, ℕ, ◌+◌, ◌-◌, ◌<◌, ◌≤◌, Bool, true, ◌&&◌, ◌⊎◌, inl, inr, List, [], length, Some, None, Ok, Err, ap, subst, arith}
use Rattle.std.specs.Prelude.{nat_le, slice_get, get_or}
use Rattle.std.specs.List.{list_all}
use Rattle.std.proofs.lemmas.Bool.{and_parts, and_from}
use Rattle.std.proofs.lemmas.Bool.Decides.{nat_tests}
use Rattle.std.proofs.lemmas.Option.{slice_get-get_or}
use Rattle.kc_base.specs.TextLines.{text_lines}
use Rattle.kc_lex.specs.declared.token.Line.{Line}
use Rattle.kc_lex.specs.Codes.{no_end}
use Rattle.kc_lex.specs.LineFaults.{Fault, least}
use Rattle.kc_lex.specs.Lines.{Answer, lines_of}
use Rattle.kc_macro.specs.Expansion as expansion
use Rattle.kc_macro.specs.Expansion.{expanded}
use Rattle.kc_source_statement.specs.declared.statement.Stmt.{Stmt}
use Rattle.kc_source.specs.Faults.{faults_of}
use Rattle.kc_asm_check.specs.Checking.{faults_in, first_fault}
use Rattle.kc_asm.specs.Assembled.{IsText, AreSaid, IsFirstFault}
use Rattle.kc_source_laws.proofs.Tests.{holds_at}
use Rattle.kc_asm_laws.specs.Lines.{line_count, IsLineOf, FaultsStandAtLines, FaultsHaveTheirLines}
use Rattle.kc_asm_laws.proofs.Reading.{is_at, ReadAt, read_at}
use Rattle.kc_asm_laws.proofs.Expanding.{IsReported, AnswerAt, expanded_at}
use Rattle.kc_asm_laws.proofs.Least.{least_holds}
use Rattle.kc_asm_laws.proofs.Statements.{fault_at, stmt_at, faults_are_at, statements_are_at}
use Rattle.kc_asm_laws.proofs.Values.{values_are_at}

module _ (source : List ℕ) where
  -- a number of a line of the source
  abbrev numbers : ℕ → Bool
  numbers n = nat_le 1 n && nat_le n (line_count source)

  abbrev last : ℕ
  last = line_count source + 1

  is_line : (n : ℕ) → numbers n ≡ true → IsLineOf source n
  is_line n h =
      let both : (nat_le 1 n ≡ true) × (nat_le n (line_count source) ≡ true) = and_parts (nat_le 1 n) (nat_le n (line_count source)) h in
      (grind (arith, nat_tests, both.0), grind (arith, nat_tests, both.1))

  lines_read : ReadAt numbers (line_count source) (lines_of source)
  lines_read = read_at numbers 1 (text_lines source) (λ k h. and_from (nat_le 1 (1 + k)) (nat_le (1 + k) (line_count source)) (grind (arith, nat_tests)) (grind (arith, nat_tests, h)))

  err_at : (a : Answer) (f : Fault) → ReadAt numbers (line_count source) a → a ≡ Err f → numbers f.0 ≡ true
  err_at (Ok ls) f h e = absurd (cc e)
  err_at (Err g) f h e = let same : g ≡ f = cc e in subst (λ (x : Fault). numbers x.0 ≡ true) same h

  ok_at : (a : Answer) (ls : List Line) → ReadAt numbers (line_count source) a → a ≡ Ok ls → (list_all (is_at numbers) ls ≡ true) × (length ls ≡ line_count source)
  ok_at (Ok ms) ls h e = let same : ms ≡ ls = cc e in subst (λ (x : List Line). (list_all (is_at numbers) x ≡ true) × (length x ≡ line_count source)) same h
  ok_at (Err g) ls h e = absurd (cc e)

  -- ---- macros

  text_reported : (ls : List Line) → lines_of source ≡ Ok ls → AnswerAt numbers last (expanded ls)
  text_reported ls e =
      let read = ok_at (lines_of source) ls lines_read e in
      let count : length ls + 1 ≡ last = (let same = read.1 in omega (arith, same)) in
      expanded_at numbers last ls read.0 count

  fault_reported : (a : expansion.Answer) (f : Fault) → AnswerAt numbers last a → a ≡ Some (Err f) → IsReported numbers last f.0 f.1
  fault_reported None f h e = absurd (cc e)
  fault_reported (Some (Ok out)) f h e = absurd (cc e)
  fault_reported (Some (Err g)) f h e = let same : g ≡ f = cc e in subst (λ (x : Fault). IsReported numbers last x.0 x.1) same h

  text_at : (a : expansion.Answer) (out : List Line) → AnswerAt numbers last a → a ≡ Some (Ok out) → list_all (is_at numbers) out ≡ true
  text_at None out h e = absurd (cc e)
  text_at (Some (Ok ls)) out h e = let same : ls ≡ out = cc e in subst (λ (x : List Line). list_all (is_at numbers) x ≡ true) same h
  text_at (Some (Err g)) out h e = absurd (cc e)

  text_is_at : (out : List Line) → IsText source out → list_all (is_at numbers) out ≡ true
  text_is_at out t = text_at (expanded t.0) out (text_reported t.0 t.1) t.2

  said_is_at : (stmts : List Stmt) → AreSaid source stmts → list_all (stmt_at numbers) stmts ≡ true
  said_is_at stmts s = statements_are_at numbers stmts s.0 (text_is_at s.0 s.1) s.2

  -- ---- the whole

  of_values : (stmts : List Stmt) (line code : ℕ) → list_all (stmt_at numbers) stmts ≡ true → first_fault stmts ≡ Some (line, code) → numbers line ≡ true
  of_values stmts line code h e = holds_at (fault_at numbers) (first_fault stmts) (line, code) (least_holds (fault_at numbers) (faults_in stmts) (values_are_at numbers stmts h)) e

  reported : (line code : ℕ) → IsFirstFault source (line, code) → IsReported numbers last line code
  reported line code (inl e) = inl (err_at (lines_of source) (line, code) lines_read e)
  reported line code (inr (inl h)) = fault_reported (expanded h.0) (line, code) (text_reported h.0 h.1) h.2
  reported line code (inr (inr (inl h))) =
      inl (holds_at (fault_at numbers) (least (faults_of h.0)) (line, code) (least_holds (fault_at numbers) (faults_of h.0) (faults_are_at numbers h.0 (text_is_at h.0 h.1))) h.2)
  reported line code (inr (inr (inr h))) = inl (of_values h.0 line code (said_is_at h.0 h.1) h.2)

  pub fault_line : (line code : ℕ) → IsFirstFault source (line, code) → IsLineOf source line ⊎ ((line ≡ last) × (code ≡ no_end))
  fault_line line code h = by (reported line code h)
    where
      by : IsReported numbers last line code → IsLineOf source line ⊎ ((line ≡ last) × (code ≡ no_end))
      by (inl n) = inl (is_line line n)
      by (inr e) = inr e

pub faults_stand_at_lines : FaultsStandAtLines
faults_stand_at_lines source line code h = fault_line source line code h

pub faults_have_their_lines : FaultsHaveTheirLines
faults_have_their_lines source line code h other = by (fault_line source line code h)
  where
    by : IsLineOf source line ⊎ ((line ≡ line_count source + 1) × (code ≡ no_end)) → (1 ≤ line) × ((text : List ℕ) × (slice_get (text_lines source) (line - 1) ≡ Some text))
    by (inl n) =
        let first = n.0 in
        let most = n.1 in
        let within : line - 1 < length (text_lines source) = omega (arith, first, most) in
        (first, (get_or (text_lines source) (line - 1) [], slice_get-get_or (text_lines source) (line - 1) [] within))
    by (inr e) = absurd (other e.1)

-- A line more of a pass.
use Rattle.std.proofs.Common.{◌≡◌, Bool, true, false, List, [], ◌∷◌, ◌++◌, Option, None, refl, sym, ap, ◌∙◌, append_assoc}
use Rattle.std.specs.Prelude.{map}
use Rattle.std.proofs.lemmas.List.{append-nil}
use Rattle.kc_lex.specs.declared.token.Line.{Line}
use Rattle.kc_source.specs.declared.pass.Pass.{Pass}
use Rattle.kc_source_statement.specs.Operands.{is_nil}
use Rattle.kc_source.specs.Faults.{Fault, lesser, least, Said, said, all_said, code_at, code_behind, at_line, line_faults, uses_of, all_uses, name_faults, faults_of, stmt_said}
use Rattle.kc_source.specs.Passing.{IsReading}
use Rattle.kc_lex.proofs.FaultLemmas.{lesser_none, lesser_assoc, least_append, least_one, nothing_found}

blank : (l : Line) (ls : List Line) → is_nil l.tokens ≡ true → all_said (l ∷ ls) ≡ all_said ls
unfolding all_said
blank l ls e = rw e refl

words : (l : Line) (ls : List Line) → is_nil l.tokens ≡ false → all_said (l ∷ ls) ≡ said l ∷ all_said ls
unfolding all_said
words l ls e = rw e refl

pub blank_read : (p : Pass) (l : Line) (rest all : List Line) → is_nil l.tokens ≡ true → IsReading p (l ∷ rest) all → IsReading p rest all
blank_read p l rest all e r =
    record {
      found = ap (λ ss. lesser p.found (least (line_faults p.first p.code ss))) (sym (blank l rest e)) ∙ r.found;
      uses = ap (λ ss. p.uses.items ++ all_uses ss) (sym (blank l rest e)) ∙ r.uses;
      stmts = λ none. ap (λ ss. map stmt_said p.stmts.items ++ ss) (sym (blank l rest e)) ∙ r.stmts none;
    }

one_line : (first code : Bool) (s : Said) (ss : List Said) → least (line_faults first code (s ∷ ss)) ≡ lesser (at_line s.line (code_at first code s.action)) (least (line_faults false (code_behind code s.action) ss))
unfolding line_faults
one_line first code s ss = least_one (at_line s.line (code_at first code s.action)) (line_faults false (code_behind code s.action) ss)

one_uses : (s : Said) (ss : List Said) → all_uses (s ∷ ss) ≡ uses_of s ++ all_uses ss
unfolding all_uses
one_uses s ss = refl

pub words_read : (p q : Pass) (l : Line) (rest all : List Line) → is_nil l.tokens ≡ false → q.found ≡ lesser p.found (at_line l.number (code_at p.first p.code (said l).action)) → q.first ≡ false → q.code ≡ code_behind p.code (said l).action
    → q.uses.items ≡ p.uses.items ++ uses_of (said l) → (q.found ≡ None → map stmt_said q.stmts.items ≡ map stmt_said p.stmts.items ++ said l ∷ []) → IsReading p (l ∷ rest) all → IsReading q rest all
words_read p q l rest all e found first code uses stmts r =
    record {
      found = (λ i. lesser (found i) (least (line_faults (first i) (code i) (all_said rest))))
          ∙ lesser_assoc p.found (at_line l.number (code_at p.first p.code (said l).action)) (least (line_faults false (code_behind p.code (said l).action) (all_said rest)))
          ∙ ap (lesser p.found) (sym (one_line p.first p.code (said l) (all_said rest)))
          ∙ ap (λ ss. lesser p.found (least (line_faults p.first p.code ss))) (sym (words l rest e)) ∙ r.found;
      uses = ap (λ us. us ++ all_uses (all_said rest)) uses ∙ append_assoc p.uses.items (uses_of (said l)) (all_uses (all_said rest))
          ∙ ap (λ us. p.uses.items ++ us) (sym (one_uses (said l) (all_said rest))) ∙ ap (λ ss. p.uses.items ++ all_uses ss) (sym (words l rest e)) ∙ r.uses;
      stmts = λ none. ap (λ ss. ss ++ all_said rest) (stmts none) ∙ append_assoc (map stmt_said p.stmts.items) (said l ∷ []) (all_said rest)
          ∙ ap (λ ss. map stmt_said p.stmts.items ++ ss) (sym (words l rest e))
          ∙ r.stmts (nothing_found p.found (at_line l.number (code_at p.first p.code (said l).action)) (sym found ∙ none));
    }

pub starts : (p : Pass) (all : List Line) → p.found ≡ None → p.first ≡ true → p.code ≡ true → p.uses.items ≡ [] → p.stmts.items ≡ [] → IsReading p all all
starts p all found first code uses stmts =
    record {
      found = λ i. lesser (found i) (least (line_faults (first i) (code i) (all_said all)));
      uses = ap (λ us. us ++ all_uses (all_said all)) uses;
      stmts = λ none. ap (λ ss. map stmt_said ss ++ all_said all) stmts;
    }

-- ---- the whole

first_part : (p : Pass) (all : List Line) → IsReading p [] all → p.found ≡ least (line_faults true true (all_said all))
unfolding all_said line_faults least
first_part p all r = sym (lesser_none p.found) ∙ r.found

uses_part : (p : Pass) (all : List Line) → IsReading p [] all → p.uses.items ≡ all_uses (all_said all)
unfolding all_said all_uses
uses_part p all r = sym (append-nil p.uses.items) ∙ r.uses

pub first_fault : (p : Pass) (all : List Line) (names : Option Fault) → IsReading p [] all → names ≡ least (name_faults p.uses.items [] p.uses.items) → lesser p.found names ≡ least (faults_of all)
unfolding faults_of
first_fault p all names r is =
    (λ i. lesser (first_part p all r i) (is i)) ∙ ap (λ us. lesser (least (line_faults true true (all_said all))) (least (name_faults us [] us))) (uses_part p all r)
    ∙ sym (least_append (line_faults true true (all_said all)) (name_faults (all_uses (all_said all)) [] (all_uses (all_said all))))

pub all_stmts : (p : Pass) (all : List Line) → IsReading p [] all → p.found ≡ None → map stmt_said p.stmts.items ≡ all_said all
unfolding all_said
all_stmts p all r none = sym (append-nil (map stmt_said p.stmts.items)) ∙ r.stmts none

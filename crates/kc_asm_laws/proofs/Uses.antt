-- A fault of names has the name of a use; the other faults of statements are about no name.
use Rattle.std.proofs.Common.{◌≡◌, ℕ, Bool, true, false, ◌&&◌, ◌||◌, cond, List, [], ◌∷◌, map, drop, Option, Some, None, Result, Ok, Err, inl, inr, refl, subst}
use Rattle.std.specs.Prelude.{not, ◌==◌, is_some, ◌⊎◌}
use Rattle.std.specs.List.{list_all}
use Rattle.std.proofs.lemmas.Bool.{and_parts, and_from, or_cases, or_left, or_right, eq-eqb}
use Rattle.kc_lex.specs.declared.token.Token.{Token}
use Rattle.kc_lex.specs.declared.token.Line.{Line}
use Rattle.kc_lex.specs.declared.words.Directive.{Directive}
use Rattle.kc_lex.specs.declared.words.Operands.{Operands}
use Rattle.kc_lex.specs.Kinds.{is_name_kind, has_label}
use Rattle.kc_lex.specs.Words.{operands_for, directive_of}
use Rattle.kc_lex.specs.Takes.{takes}
use Rattle.kc_lex.specs.LineFaults.{Fault, least}
use Rattle.kc_source_statement.specs.Trees.{ActionTree, ArgTree, notation}
use Rattle.kc_source_statement.specs.Trees as trees
use Rattle.kc_source_statement.specs.Operands.{is_nil, operands_in}
use Rattle.kc_source_statement.specs.Statements.{directive_in, definition_in, or_form_fault, by_directive, operation_in, by_operation, first_directive, second_directive, only_defining, by_first, action_in, bars_label, behind_label, statement_in}
use Rattle.kc_source.specs.declared.uses.Use.{Use}
use Rattle.kc_source.specs.declared.uses.UseKind.{UseKind}
use Rattle.kc_source.specs.declared.uses.UseKind.TheVariants.{Once, Again, Taken, Given}
use Rattle.kc_source.specs.Faults.{Said, said, all_said, is_module, holds_bytes, code_at, code_behind, line_faults, all_uses, has_use, is_once, is_taken, is_defined, is_one_too_many, use_code, name_faults, faults_of}
use Rattle.kc_asm_origin.specs.Uses.{is_code, is_refused, used_from, used_at}
use Rattle.kc_source_laws.proofs.Tests.{Holds, holds_at, either, all_join}
use Rattle.kc_asm_laws.specs.Symbols.{is_about_a_name}
use Rattle.kc_asm_laws.proofs.Least.{least_holds, one_holds}
use Rattle.kc_asm_laws.proofs.Others.{is_other, not_both, all_weaker, holds_where, or_more, cond_first, cond_second}

-- ---- what a line says

abbrev read_is_other : Result ActionTree ℕ → Bool
read_is_other (Ok a) = true
read_is_other (Err code) = is_other code

abbrev IsOther : Result ActionTree ℕ → Type 0
IsOther r = read_is_other r ≡ true

or_other : (o : Option ActionTree) → IsOther (or_form_fault o)
or_other None = refl
or_other (Some a) = refl

one_other : (b : Bool) (x y : Result ActionTree ℕ) → IsOther x → IsOther y → IsOther (cond b x y)
one_other true x y h k = h
one_other false x y h k = k

by_directive_other : (d : Option Directive) (ts : List Token) → IsOther (by_directive d ts)
by_directive_other None ts = refl
by_directive_other (Some d) ts = or_other (directive_in d ts)

operation_other : (word : List ℕ) (form : Operands) (o : Option (List ArgTree)) → IsOther (operation_in word form o)
operation_other word form None = refl
operation_other word form (Some args) = one_other (takes form (map notation args)) (Ok (trees.Operation word args)) (Err 14) refl refl

by_operation_other : (word : List ℕ) (o : Option Operands) (ts : List Token) → IsOther (by_operation word o ts)
by_operation_other word None ts = by_directive_other (directive_of word) ts
by_operation_other word (Some form) ts = operation_other word form (operands_in ts)

by_first_other : (t : Token) (o : Option Directive) (ts : List Token) → IsOther (by_first t o ts)
by_first_other t None ts = one_other (is_name_kind t.kind) (by_operation t.text (operands_for t.text) ts) (Err 1) (by_operation_other t.text (operands_for t.text) ts) refl
by_first_other t (Some d) ts = or_other (definition_in t.text d (drop 1 ts))

action_other : (ts : List Token) → IsOther (action_in ts)
unfolding action_in
action_other [] = refl
action_other (t ∷ ts) = by_first_other t (only_defining (second_directive (t ∷ ts))) ts

statement_other : (ts : List Token) → IsOther (statement_in ts)
unfolding statement_in
statement_other ts =
    one_other (has_label ts) (behind_label (drop 2 ts)) (action_in ts)
    (one_other (bars_label (first_directive (drop 2 ts)) || bars_label (second_directive (drop 2 ts))) (Err 1) (action_in (drop 2 ts)) refl (action_other (drop 2 ts)))
    (action_other ts)

code_other : (first code : Bool) (r : Result ActionTree ℕ) → IsOther r → Holds is_other (code_at first code r)
code_other first code (Err e) h = h
code_other first code (Ok a) h =
    either is_other (is_module a && not first) (Some 23) (cond (holds_bytes a && not code) (Some 18) None) refl
    (either is_other (holds_bytes a && not code) (Some 18) None refl tt)

abbrev said_is_other : Said → Bool
said_is_other s = read_is_other s.action

said_are_other : (ls : List Line) → list_all said_is_other (all_said ls) ≡ true
unfolding all_said
said_are_other [] = refl
said_are_other (l ∷ ls) = elim (is_nil l.tokens) as (λ b. list_all said_is_other (cond b (all_said ls) (said l ∷ all_said ls)) ≡ true) [
  | true ↦ said_are_other ls
  | false ↦ and_from (said_is_other (said l)) (list_all said_is_other (all_said ls)) (statement_other l.tokens) (said_are_other ls)
]

abbrev fault_is_other : Fault → Bool
fault_is_other f = is_other f.1

lines_other : (first code : Bool) (ss : List Said) → list_all said_is_other ss ≡ true → list_all fault_is_other (line_faults first code ss) ≡ true
unfolding line_faults
lines_other first code [] h = refl
lines_other first code (s ∷ ss) h =
    let both : (said_is_other s ≡ true) × (list_all said_is_other ss ≡ true) = and_parts (said_is_other s) (list_all said_is_other ss) h in
    one_holds fault_is_other s.line (code_at first code s.action) (line_faults false (code_behind code s.action) ss)
    (code_other first code s.action both.0) (lines_other false (code_behind code s.action) ss both.1)

-- ---- a use of a name that has a code has it however many names there are

same_code : (code : ℕ) (o : Option ℕ) → o ≡ Some code → is_code code o ≡ true
same_code code None e = absurd (cc e)
same_code code (Some c) e = let same : c ≡ code = cc e in eq-eqb c code same

many_is_other : {X : Type 0} (code : ℕ) → Some 8 ≡ Some code → is_about_a_name code ≡ true → X
many_is_other code e h = let same : 8 ≡ code = cc e in absurd (not_both (is_about_a_name code) (subst (λ (c : ℕ). is_other c ≡ true) same refl) h)

defined_code : (b many : Bool) (code : ℕ) → cond b (Some 6) (cond many (Some 8) None) ≡ Some code → is_about_a_name code ≡ true → is_code code (cond b (Some 6) None) ≡ true
defined_code true many code e h = same_code code (Some 6) e
defined_code false true code e h = many_is_other code e h
defined_code false false code e h = absurd (cc e)

taken_code : (many b : Bool) (code : ℕ) → cond many (Some 8) (cond b (Some 21) None) ≡ Some code → is_about_a_name code ≡ true → is_code code (cond b (Some 21) None) ≡ true
taken_code true b code e h = many_is_other code e h
taken_code false b code e h = same_code code (cond b (Some 21) None) e

has_code : (kind : UseKind) (name : List ℕ) (many : Bool) (all earlier : List Use) (code : ℕ) → use_code kind name many all earlier ≡ Some code → is_about_a_name code ≡ true
    → is_code code (use_code kind name false all earlier) ≡ true
has_code Once name many all earlier code e h = defined_code (is_defined name earlier) many code e h
has_code Again name many all earlier code e h = defined_code (has_use is_once name earlier) many code e h
has_code Taken name many all earlier code e h = taken_code many (has_use is_taken name earlier || is_defined name all) code e h
has_code Given name many all earlier code e h = same_code code (use_code Given name false all earlier) e

-- ---- the fault of names, and the first use with its code at its line

abbrev names_it : List Use → List Use → List Use → Fault → Bool
names_it all earlier us f = is_other f.1 || is_some (used_from f.0 f.1 all earlier us)

later_named : (all earlier us : List Use) (u : Use) (f : Fault) → names_it all (u ∷ earlier) us f ≡ true → names_it all earlier (u ∷ us) f ≡ true
unfolding used_from
later_named all earlier us u f h =
    or_more (is_other f.1) (is_some (used_from f.0 f.1 all (u ∷ earlier) us)) (is_some (cond (is_refused f.0 f.1 all earlier u) (Some u.name) (used_from f.0 f.1 all (u ∷ earlier) us)))
    (λ k. cond_second (is_refused f.0 f.1 all earlier u) u.name (used_from f.0 f.1 all (u ∷ earlier) us) k) h

here_named : (all earlier us : List Use) (u : Use) (many : Bool) (code : ℕ) → use_code u.kind u.name many all earlier ≡ Some code → names_it all earlier (u ∷ us) (u.line, code) ≡ true
unfolding used_from
here_named all earlier us u many code e = by (is_about_a_name code) refl
  where
    named : Bool
    named = is_some (cond (is_refused u.line code all earlier u) (Some u.name) (used_from u.line code all (u ∷ earlier) us))

    by : (b : Bool) → is_about_a_name code ≡ b → (not (is_about_a_name code) || named) ≡ true
    by true h = or_right (not (is_about_a_name code)) named
        (cond_first (is_refused u.line code all earlier u) u.name (used_from u.line code all (u ∷ earlier) us)
        (and_from (u.line == u.line) (is_code code (use_code u.kind u.name false all earlier)) (eq-eqb u.line u.line refl) (has_code u.kind u.name many all earlier code e h)))
    by false h = or_left (not (is_about_a_name code)) named (rw h refl)

all_named : (all earlier us : List Use) → list_all (names_it all earlier us) (name_faults all earlier us) ≡ true
unfolding name_faults
all_named all earlier [] = refl
all_named all earlier (u ∷ us) =
    let many = is_one_too_many u earlier in
    let code = use_code u.kind u.name many all earlier in
    one_holds (names_it all earlier (u ∷ us)) u.line code (name_faults all (u ∷ earlier) us)
    (holds_where (λ c. names_it all earlier (u ∷ us) (u.line, c)) code (λ c e. here_named all earlier us u many c e))
    (all_weaker (names_it all (u ∷ earlier) us) (names_it all earlier (u ∷ us)) (name_faults all (u ∷ earlier) us) (λ f h. later_named all earlier us u f h) (all_named all (u ∷ earlier) us))

faults_named : (text : List Line) → list_all (names_it (all_uses (all_said text)) [] (all_uses (all_said text))) (faults_of text) ≡ true
unfolding faults_of
faults_named text =
    let uses = all_uses (all_said text) in
    all_join (names_it uses [] uses) (line_faults true true (all_said text)) (name_faults uses [] uses)
    (all_weaker fault_is_other (names_it uses [] uses) (line_faults true true (all_said text)) (λ f h. or_left (is_other f.1) (is_some (used_from f.0 f.1 uses [] uses)) h) (lines_other true true (all_said text) (said_are_other text)))
    (all_named uses [] uses)

pub use_is_named : (text : List Line) (line code : ℕ) → least (faults_of text) ≡ Some (line, code) → is_about_a_name code ≡ true → is_some (used_at line code (all_uses (all_said text))) ≡ true
use_is_named text line code e h =
    let uses = all_uses (all_said text) in
    by (or_cases (is_other code) (is_some (used_at line code uses)) (holds_at (names_it uses [] uses) (least (faults_of text)) (line, code) (least_holds (names_it uses [] uses) (faults_of text) (faults_named text)) e))
  where
    by : (is_other code ≡ true) ⊎ (is_some (used_at line code (all_uses (all_said text))) ≡ true) → is_some (used_at line code (all_uses (all_said text))) ≡ true
    by (inl k) = absurd (not_both (is_about_a_name code) k h)
    by (inr k) = k

-- The name that a fault is about stands at its line.
use Rattle.std.proofs.Common.{◌≡◌, ℕ, Bool, true, false, ◌&&◌, ◌||◌, cond, List, [], ◌∷◌, ◌++◌, map, Option, Some, None, Result, Ok, Err, inl, inr, refl, sym, ◌∙◌}
use Rattle.std.specs.Prelude.{◌==◌, ◌⊎◌}
use Rattle.std.specs.List.{list_all, list_any}
use Rattle.std.specs.Option.{option_or}
use Rattle.std.specs.Str.{bytes_eq}
use Rattle.std.specs.Cmp.Lexicographic.{bytes_decides}
use Rattle.std.proofs.lemmas.Bool.{and_parts, and_from, or_cases, or_left, or_right, eqb-true, eq-eqb}
use Rattle.std.proofs.lemmas.List.Folds.{list_any-append}
use Rattle.kc_lex.specs.declared.token.Line.{Line}
use Rattle.kc_lex.specs.Codes.{not_defined, not_public}
use Rattle.kc_lex.specs.LineFaults.{Fault, least}
use Rattle.kc_lex.specs.Lines.{lines_of}
use Rattle.kc_expr.specs.Tree.{Tree, Number, Chars, Name, Here, One, Two}
use Rattle.kc_macro.specs.Expansion.{Answer, expanded}
use Rattle.kc_source_statement.specs.Trees.{ActionTree, Bare, Module, Cseg, Dseg, Rseg, Sseg, Public, Extrn, Equ, Set, Define, Reserve, Org, Even, End, Operation}
use Rattle.kc_source_statement.specs.Formed.{given_names}
use Rattle.kc_source.specs.declared.uses.Use.{Use}
use Rattle.kc_source.specs.declared.uses.UseKind.TheVariants.{Given}
use Rattle.kc_source.specs.Faults.{Said, use_of, label_uses, action_uses, read_uses, uses_of, all_uses, all_said, use_code, faults_of}
use Rattle.kc_asm_symbols.specs.declared.segments.Segment.{Segment}
use Rattle.kc_asm_symbols.specs.Externals.{action_trees}
use Rattle.kc_asm_symbols.specs.Located.{Located, first_segment, segment_after}
use Rattle.kc_asm_symbols.specs.Meanings.{meaning, in_all}
use Rattle.kc_asm_emit.specs.Arguments.{Look}
use Rattle.kc_asm_check.specs.Codes.{counts_from_external}
use Rattle.kc_asm_origin.specs.Uses.{is_code, is_refused, used_from}
use Rattle.kc_asm_origin.specs.Values.{means_nothing, unknown_in, unknown_among, foreign_among, symbol_in, symbol_on, symbol_from}
use Rattle.kc_asm_origin.specs.Symbol.{action_in, standing_at_zero, at_zero_from, by_fault, in_text, in_lines}
use Rattle.kc_asm_laws.specs.Standing.{has_name, computes_with, has_word, IsNameAt, SymbolsStandAtTheirLines}
use Rattle.kc_asm_laws.proofs.Statements.{use_at, said_uses_at}

same_name : (n name : List ℕ) → Some n ≡ Some name → bytes_eq name n ≡ true
same_name n name e = let same : name ≡ n = cc e in (bytes_decides name n).1 same

either_name : {X : Type 0} (o p : Option (List ℕ)) (name : List ℕ) → option_or o p ≡ Some name → (o ≡ Some name → X) → (p ≡ Some name → X) → X
either_name None p name e first second = second e
either_name (Some n) p name e first second = first e

-- ---- uses

abbrev use_has : ℕ → List ℕ → Use → Bool
use_has line name u = (u.line == line) && bytes_eq name u.name

abbrev said_has : ℕ → List ℕ → Said → Bool
said_has line name s = (s.line == line) && has_word name s

used_stands : (line code : ℕ) (all earlier us : List Use) (name : List ℕ) → used_from line code all earlier us ≡ Some name → list_any (use_has line name) us ≡ true
unfolding used_from
used_stands line code all earlier [] name e = absurd (cc e)
used_stands line code all earlier (u ∷ us) name e = by (is_refused line code all earlier u) refl e (λ f. used_stands line code all (u ∷ earlier) us name f)
  where
    by : (b : Bool) → is_refused line code all earlier u ≡ b → cond b (Some u.name) (used_from line code all (u ∷ earlier) us) ≡ Some name
        → (used_from line code all (u ∷ earlier) us ≡ Some name → list_any (use_has line name) us ≡ true) → (use_has line name u || list_any (use_has line name) us) ≡ true
    by true h f later =
        let refused : (u.line == line) ≡ true = (and_parts (u.line == line) (is_code code (use_code u.kind u.name false all earlier)) h).0 in
        or_left (use_has line name u) (list_any (use_has line name) us) (and_from (u.line == line) (bytes_eq name u.name) refused (same_name u.name name f))
    by false h f later = or_right (use_has line name u) (list_any (use_has line name) us) (later f)

-- uses of one line
of_line : (at line : ℕ) (name : List ℕ) (us : List Use) → list_all (use_at (λ n. n == at)) us ≡ true → list_any (use_has line name) us ≡ true
    → ((at == line) ≡ true) × (list_any (λ u. bytes_eq name u.name) us ≡ true)
of_line at line name [] h k = absurd (cc k)
of_line at line name (u ∷ us) h k =
    let both : ((u.line == at) ≡ true) × (list_all (use_at (λ n. n == at)) us ≡ true) = and_parts (u.line == at) (list_all (use_at (λ n. n == at)) us) h in
    by both.0 (λ g. of_line at line name us both.1 g) (or_cases (use_has line name u) (list_any (use_has line name) us) k)
  where
    by : (u.line == at) ≡ true → (list_any (use_has line name) us ≡ true → ((at == line) ≡ true) × (list_any (λ v. bytes_eq name v.name) us ≡ true))
        → (use_has line name u ≡ true) ⊎ (list_any (use_has line name) us ≡ true) → ((at == line) ≡ true) × ((bytes_eq name u.name || list_any (λ v. bytes_eq name v.name) us) ≡ true)
    by same later (inl g) =
        let parts = and_parts (u.line == line) (bytes_eq name u.name) g in (
          eq-eqb at line (sym (eqb-true u.line at same) ∙ eqb-true u.line line parts.0),
          or_left (bytes_eq name u.name) (list_any (λ v. bytes_eq name v.name) us) parts.1,
        )
    by same later (inr g) =
        let rest = later g in
        (rest.0, or_right (bytes_eq name u.name) (list_any (λ v. bytes_eq name v.name) us) rest.1)

uses_stand : (line : ℕ) (name : List ℕ) (ss : List Said) → list_any (use_has line name) (all_uses ss) ≡ true → list_any (said_has line name) ss ≡ true
unfolding all_uses
uses_stand line name [] h = absurd (cc h)
uses_stand line name (s ∷ ss) h =
    by (λ g. uses_stand line name ss g)
    (or_cases (list_any (use_has line name) (uses_of s)) (list_any (use_has line name) (all_uses ss)) (sym (list_any-append (use_has line name) (uses_of s) (all_uses ss)) ∙ h))
  where
    by : (list_any (use_has line name) (all_uses ss) ≡ true → list_any (said_has line name) ss ≡ true)
        → (list_any (use_has line name) (uses_of s) ≡ true) ⊎ (list_any (use_has line name) (all_uses ss) ≡ true) → (said_has line name s || list_any (said_has line name) ss) ≡ true
    by later (inl g) =
        let parts = of_line s.line line name (uses_of s) (said_uses_at (λ n. n == s.line) s (eq-eqb s.line s.line refl)) g in
        or_left (said_has line name s) (list_any (said_has line name) ss)
        (and_from (s.line == line) (has_word name s) parts.0 (or_left (list_any (λ u. bytes_eq name u.name) (uses_of s)) (computes_with name s.action) parts.1))
    by later (inr g) = or_right (said_has line name s) (list_any (said_has line name) ss) (later g)

-- ---- expressions, and public names

unknown_stands : (look : Look) (x : Tree) (name : List ℕ) → unknown_in look x ≡ Some name → has_name name x ≡ true
unfolding unknown_in has_name
unknown_stands look (Number n) name e = absurd (cc e)
unknown_stands look (Chars cs) name e = absurd (cc e)
unknown_stands look (Name n) name e = by (means_nothing (look n)) e
  where
    by : (b : Bool) → cond b (Some n) None ≡ Some name → bytes_eq name n ≡ true
    by true f = same_name n name f
    by false f = absurd (cc f)
unknown_stands look Here name e = absurd (cc e)
unknown_stands look (One op x) name e = unknown_stands look x name e
unknown_stands look (Two op a b) name e =
    either_name (unknown_in look a) (unknown_in look b) name e
    (λ f. or_left (has_name name a) (has_name name b) (unknown_stands look a name f)) (λ f. or_right (has_name name a) (has_name name b) (unknown_stands look b name f))

among_stands : (look : Look) (xs : List Tree) (name : List ℕ) → unknown_among look xs ≡ Some name → list_any (has_name name) xs ≡ true
unfolding unknown_among
among_stands look [] name e = absurd (cc e)
among_stands look (x ∷ xs) name e =
    either_name (unknown_in look x) (unknown_among look xs) name e
    (λ f. or_left (has_name name x) (list_any (has_name name) xs) (unknown_stands look x name f)) (λ f. or_right (has_name name x) (list_any (has_name name) xs) (among_stands look xs name f))

foreign_stands : (last : Look) (line : ℕ) (ns : List (List ℕ)) (name : List ℕ) → foreign_among last ns ≡ Some name → list_any (λ u. bytes_eq name u.name) (map (use_of line Given) ns) ≡ true
unfolding foreign_among
foreign_stands last line [] name e = absurd (cc e)
foreign_stands last line (n ∷ ns) name e = by (counts_from_external (last n)) e (λ f. foreign_stands last line ns name f)
  where
    rest : Bool
    rest = list_any (λ u. bytes_eq name u.name) (map (use_of line Given) ns)

    by : (b : Bool) → cond b (Some n) (foreign_among last ns) ≡ Some name → (foreign_among last ns ≡ Some name → list_any (λ u. bytes_eq name u.name) (map (use_of line Given) ns) ≡ true) → (bytes_eq name n || rest) ≡ true
    by true f later = or_left (bytes_eq name n) rest (same_name n name f)
    by false f later = or_right (bytes_eq name n) rest (later f)

-- ---- a statement

none_among : (look : Look) (name : List ℕ) → unknown_among look [] ≡ Some name → ⊥
unfolding unknown_among
none_among look name e = cc e

none_foreign : (last : Look) (name : List ℕ) → foreign_among last [] ≡ Some name → ⊥
unfolding foreign_among
none_foreign last name e = cc e

given_stands : (last : Look) (line : ℕ) (action : ActionTree) (name : List ℕ) → foreign_among last (given_names action) ≡ Some name → list_any (λ u. bytes_eq name u.name) (action_uses line action) ≡ true
given_stands last line (Public ns) name e = foreign_stands last line ns name e
given_stands last line Bare name e = absurd (none_foreign last name e)
given_stands last line (Module n stack) name e = absurd (none_foreign last name e)
given_stands last line (Cseg at) name e = absurd (none_foreign last name e)
given_stands last line (Dseg at) name e = absurd (none_foreign last name e)
given_stands last line (Rseg at) name e = absurd (none_foreign last name e)
given_stands last line (Sseg size) name e = absurd (none_foreign last name e)
given_stands last line (Extrn ns) name e = absurd (none_foreign last name e)
given_stands last line (Equ n x) name e = absurd (none_foreign last name e)
given_stands last line (Set n x) name e = absurd (none_foreign last name e)
given_stands last line (Define size items) name e = absurd (none_foreign last name e)
given_stands last line (Reserve size x) name e = absurd (none_foreign last name e)
given_stands last line (Org x) name e = absurd (none_foreign last name e)
given_stands last line Even name e = absurd (none_foreign last name e)
given_stands last line End name e = absurd (none_foreign last name e)
given_stands last line (Operation n args) name e = absurd (none_foreign last name e)

read_stands : (code : ℕ) (look last : Look) (line : ℕ) (label : Option (List ℕ)) (r : Result ActionTree ℕ) (name : List ℕ) → symbol_in code look last (action_in r) ≡ Some name
    → (list_any (λ u. bytes_eq name u.name) (label_uses line label ++ read_uses line r) || computes_with name r) ≡ true
read_stands code look last line label r name e = by_defined (code == not_defined) e
  where
    used : Bool
    used = list_any (λ u. bytes_eq name u.name) (label_uses line label ++ read_uses line r)

    defined : (s : Result ActionTree ℕ) → unknown_among look (action_trees (action_in s)) ≡ Some name → computes_with name s ≡ true
    defined (Ok a) f = among_stands look (action_trees a) name f
    defined (Err c) f = absurd (none_among look name f)

    given : (s : Result ActionTree ℕ) → foreign_among last (given_names (action_in s)) ≡ Some name → list_any (λ u. bytes_eq name u.name) (read_uses line s) ≡ true
    given (Ok a) f = given_stands last line a name f
    given (Err c) f = absurd (none_foreign last name f)

    by_given : (b : Bool) → cond b (foreign_among last (given_names (action_in r))) None ≡ Some name → (used || computes_with name r) ≡ true
    by_given true f =
        or_left used (computes_with name r)
        (list_any-append (λ u. bytes_eq name u.name) (label_uses line label) (read_uses line r)
        ∙ or_right (list_any (λ u. bytes_eq name u.name) (label_uses line label)) (list_any (λ u. bytes_eq name u.name) (read_uses line r)) (given r f))
    by_given false f = absurd (cc f)

    by_defined : (b : Bool) → cond b (unknown_among look (action_trees (action_in r))) (cond (code == not_public) (foreign_among last (given_names (action_in r))) None) ≡ Some name → (used || computes_with name r) ≡ true
    by_defined true f = or_right used (computes_with name r) (defined r f)
    by_defined false f = by_given (code == not_public) f

-- ---- the statements of a text

on_stands : (line code : ℕ) (all before : List Located) (g : Segment) (s : Said) (name : List ℕ) → symbol_on line code all before (standing_at_zero g s) ≡ Some name → said_has line name s ≡ true
on_stands line code all before g s name e = by (s.line == line) refl e
  where
    l : Located
    l = standing_at_zero g s

    by : (b : Bool) → (s.line == line) ≡ b → cond b (symbol_in code (meaning all before l) (in_all all) l.action) None ≡ Some name → said_has line name s ≡ true
    by true h f = and_from (s.line == line) (has_word name s) h (read_stands code (meaning all before l) (in_all all) s.line s.label s.action name f)
    by false h f = absurd (cc f)

symbol_stands : (line code : ℕ) (all before : List Located) (g : Segment) (ss : List Said) (name : List ℕ) → symbol_from line code all before (at_zero_from g ss) ≡ Some name → list_any (said_has line name) ss ≡ true
unfolding symbol_from at_zero_from
symbol_stands line code all before g [] name e = absurd (cc e)
symbol_stands line code all before g (s ∷ ss) name e =
    let l = standing_at_zero g s in
    either_name (symbol_on line code all before l) (symbol_from line code all (l ∷ before) (at_zero_from (segment_after g (action_in s.action)) ss)) name e
    (λ f. or_left (said_has line name s) (list_any (said_has line name) ss) (on_stands line code all before g s name f))
    (λ f. or_right (said_has line name s) (list_any (said_has line name) ss) (symbol_stands line code all (l ∷ before) (segment_after g (action_in s.action)) ss name f))

-- ---- the whole

pub symbols_stand_at_their_lines : SymbolsStandAtTheirLines
symbols_stand_at_their_lines source line code name e = of_lines (lines_of source) refl e
  where
    of_fault : (said : List Said) (o : Option Fault) → by_fault line code said o ≡ Some name → list_any (said_has line name) said ≡ true
    of_fault said (Some f) g = uses_stand line name said (used_stands line code (all_uses said) [] (all_uses said) name g)
    of_fault said None g = symbol_stands line code (at_zero_from first_segment said) [] first_segment said name g

    of_text : (lines : List Line) → lines_of source ≡ Ok lines → (a : Answer) → expanded lines ≡ a → in_text line code a ≡ Some name → IsNameAt source line name
    of_text lines h (Some (Ok text)) k g = (text, (lines, h, k), of_fault (all_said text) (least (faults_of text)) g)
    of_text lines h (Some (Err f)) k g = absurd (cc g)
    of_text lines h None k g = absurd (cc g)

    of_lines : (r : Result (List Line) Fault) → lines_of source ≡ r → in_lines line code r ≡ Some name → IsNameAt source line name
    of_lines (Ok lines) h g = of_text lines h (expanded lines) refl g
    of_lines (Err f) h g = absurd (cc g)

-- Where there is no fault, each use of a name is in order.
use Rattle.std.proofs.Common.{◌≡◌, ℕ, Bool, true, false, cond, ◌||◌, ◌&&◌, List, [], ◌∷◌, ◌++◌, Option, Some, None, refl, sym, ap, ◌∙◌}
use Rattle.std.specs.Option.{option_to_list}
use Rattle.std.specs.Str.{bytes_eq}
use Rattle.std.proofs.Math.Bool.{or-false}
use Rattle.std.proofs.lemmas.Bool.{or_parts}
use Rattle.kc_lex.proofs.FaultLemmas.{no_least, nothing_left, no_code_at}
use Rattle.kc_source.specs.declared.uses.Use.{Use}
use Rattle.kc_source.specs.declared.uses.UseKind.{UseKind}
use Rattle.kc_source.specs.declared.uses.UseKind.TheVariants.{Once, Again, Taken, Given}
use Rattle.kc_source.specs.Faults.{at_line, has_use, is_once, is_again, is_taken, is_defined, is_one_too_many, use_code, name_faults, line_faults, faults_of, all_said, all_uses}
use Rattle.kc_source.specs.Clear.{IsClear, NamesAreClear}

-- some uses, the latest first, in front of others
abbrev onto : List Use → List Use → List Use
onto earlier [] = earlier
onto earlier (u ∷ us) = onto (u ∷ earlier) us

no_code : (all earlier before after : List Use) (u : Use) → name_faults all earlier (before ++ u ∷ after) ≡ []
    → use_code u.kind u.name (is_one_too_many u (onto earlier before)) all (onto earlier before) ≡ None
unfolding name_faults
no_code all earlier [] after u e =
    no_code_at u.line (use_code u.kind u.name (is_one_too_many u earlier) all earlier) (nothing_left (option_to_list (at_line u.line (use_code u.kind u.name (is_one_too_many u earlier) all earlier))) (name_faults all (u ∷ earlier) after) e).0
no_code all earlier (v ∷ before) after u e =
    no_code all (v ∷ earlier) before after u
    (nothing_left (option_to_list (at_line v.line (use_code v.kind v.name (is_one_too_many v earlier) all earlier))) (name_faults all (v ∷ earlier) (before ++ u ∷ after)) e).1

moved : (a b c : Bool) → (a || (b || c)) ≡ ((b || a) || c)
moved true true c = refl
moved true false c = refl
moved false true c = refl
moved false false c = refl

has_onto : (of_kind : UseKind → Bool) (name : List ℕ) (earlier before : List Use) → has_use of_kind name (onto earlier before) ≡ (has_use of_kind name before || has_use of_kind name earlier)
unfolding has_use
has_onto of_kind name earlier [] = refl
has_onto of_kind name earlier (v ∷ before) =
    has_onto of_kind name (v ∷ earlier) before ∙ moved (has_use of_kind name before) (of_kind v.kind && bytes_eq name v.name) (has_use of_kind name earlier)

has_reversed : (of_kind : UseKind → Bool) (name : List ℕ) (before : List Use) → has_use of_kind name (onto [] before) ≡ has_use of_kind name before
unfolding has_use
has_reversed of_kind name before = has_onto of_kind name [] before ∙ or-false (has_use of_kind name before)

defined_reversed : (name : List ℕ) (before : List Use) → is_defined name (onto [] before) ≡ is_defined name before
defined_reversed name before = λ i. has_reversed is_once name before i || has_reversed is_again name before i

-- ---- what no code says

pub not_first : (b : Bool) (x : ℕ) (o : Option ℕ) → cond b (Some x) o ≡ None → b ≡ false
not_first true x o e = absurd cc
not_first false x o e = refl

pub not_second : (b : Bool) (x : ℕ) (o : Option ℕ) → cond b (Some x) o ≡ None → o ≡ None
not_second true x o e = absurd cc
not_second false x o e = e

must_hold : (b : Bool) (x : ℕ) → cond b None (Some x) ≡ None → b ≡ true
must_hold true x e = refl
must_hold false x e = absurd cc

clear : (kind : UseKind) (name : List ℕ) (too_many : Bool) (all before : List Use) → use_code kind name too_many all (onto [] before) ≡ None → IsClear kind name before all
clear Once name too_many all before e = sym (defined_reversed name before) ∙ not_first (is_defined name (onto [] before)) 6 (cond too_many (Some 8) None) e
clear Again name too_many all before e = sym (has_reversed is_once name before) ∙ not_first (has_use is_once name (onto [] before)) 6 (cond too_many (Some 8) None) e
clear Taken name too_many all before e =
    let both : (has_use is_taken name (onto [] before) ≡ false) × (is_defined name all ≡ false)
    = or_parts (has_use is_taken name (onto [] before)) (is_defined name all)
    (not_first (has_use is_taken name (onto [] before) || is_defined name all) 21 None
    (not_second too_many 8 (cond (has_use is_taken name (onto [] before) || is_defined name all) (Some 21) None) e)) in
    (sym (has_reversed is_taken name before) ∙ both.0, both.1)
clear Given name too_many all before e = must_hold (is_defined name all) 20 e

pub names_are_clear : NamesAreClear
unfolding faults_of
names_are_clear ls sound before after u splits =
    let none : name_faults (all_uses (all_said ls)) [] (all_uses (all_said ls)) ≡ []
    = (nothing_left (line_faults true true (all_said ls)) (name_faults (all_uses (all_said ls)) [] (all_uses (all_said ls))) (no_least (line_faults true true (all_said ls) ++ name_faults (all_uses (all_said ls)) [] (all_uses (all_said ls))) sound)).1 in
    let here : name_faults (all_uses (all_said ls)) [] (before ++ u ∷ after) ≡ [] = ap (λ us. name_faults (all_uses (all_said ls)) [] us) (sym splits) ∙ none in
    clear u.kind u.name (is_one_too_many u (onto [] before)) (all_uses (all_said ls)) before (no_code (all_uses (all_said ls)) [] before after u here)

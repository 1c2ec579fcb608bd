-- What the passes report first of a text is one, halving its lines finds one, and so what is found for a fault is one.
use Rattle.std.proofs.Common.{◌≡◌, ◌⊎◌, ◌∙◌, ℕ, zero, suc, ◌+◌, ◌<◌, true, false, List, [], ◌∷◌, length, map, Option, Some, None, Result, Ok, Err, inl, inr, refl, sym, ap, arith}
use Rattle.std.specs.Prelude.{slice_index_or}
use Rattle.std.specs.List.{list_all}
use Rattle.std.specs.Option.{is_none}
use Rattle.kc_lex.specs.declared.token.Line.{Line}
use Rattle.kc_lex.specs.Lines.{lines_of}
use Rattle.kc_macro.specs.Expansion.{Answer, expanded}
use Rattle.kc_source_statement.specs.declared.statement.Stmt.{Stmt}
use Rattle.kc_source.specs.Faults.{Fault, least, stmt_said}
use Rattle.kc_asm_check.specs.Codes.{first_regions}
use Rattle.kc_asm_check.specs.Checking.{faults_from, first_fault}
use Rattle.kc_asm_laws.proofs.Alike.{standing_alike, locations_alike}
use Rattle.kc_asm_origin.specs.Written.{marked, places_of}
use Rattle.kc_asm_origin.specs.First.{with_first}
use Rattle.kc_asm_origin.specs.Reported.{IsReported, IsNotReported}
use Rattle.kc_asm_origin.specs.Origin.{middle, IsHalved, IsOfItsLines, IsOfOthers, AreInPlace, IsOriginIn, IsOriginAmong, IsOriginBetween, IsOriginOfText, IsOriginOfLines}
use Rattle.kc_asm_laws.specs.OneOrigin.{OneOrigin}

-- ---- what is reported

fault_alike : (ss ts : List Stmt) → map stmt_said ss ≡ map stmt_said ts → first_fault ss ≡ first_fault ts
fault_alike ss ts same = λ i. least (faults_from (standing_alike ss ts same i) first_regions 0 [] (standing_alike ss ts same i) (locations_alike ss ts same i))

one_reported : (text : List Line) (a b : Option Fault) → IsReported text a → IsReported text b → a ≡ b
one_reported text a b (inl x) (inl y) = x.2 ∙ sym x.1 ∙ y.1 ∙ sym y.2
one_reported text a b (inl x) (inr y) = absurd (cc (x.1, y.1.sound))
one_reported text a b (inr x) (inl y) = absurd (cc (y.1, x.1.sound))
one_reported text a b (inr x) (inr y) = x.2 ∙ fault_alike x.0 y.0 (x.1.said_by ∙ sym y.1.said_by) ∙ sym y.2

not_both : (text : List Line) (f : Fault) → IsReported text (Some f) → IsNotReported text f → ⊥
not_both text f reported other = other.2 (one_reported text other.0 (Some f) other.1 reported)

-- ---- halving

-- in a round, where those behind it find one
one_in_round : (f : Fault) (text : List Line) (low mid high r s k j : ℕ)
    → ((below above : ℕ) → IsHalved r f text below above k → IsHalved s f text below above j → k ≡ j)
    → (IsReported (with_first f.0 mid text) (Some f) × IsHalved r f text low mid k) ⊎ (IsNotReported (with_first f.0 mid text) f × IsHalved r f text mid high k)
    → (IsReported (with_first f.0 mid text) (Some f) × IsHalved s f text low mid j) ⊎ (IsNotReported (with_first f.0 mid text) f × IsHalved s f text mid high j)
    → k ≡ j
one_in_round f text low mid high r s k j one (inl x) (inl y) = one low mid x.1 y.1
one_in_round f text low mid high r s k j one (inl x) (inr y) = absurd (not_both (with_first f.0 mid text) f x.0 y.0)
one_in_round f text low mid high r s k j one (inr x) (inl y) = absurd (not_both (with_first f.0 mid text) f y.0 x.0)
one_in_round f text low mid high r s k j one (inr x) (inr y) = one mid high x.1 y.1

one_halved : (f : Fault) (text : List Line) (r s low high k j : ℕ) → IsHalved r f text low high k → IsHalved s f text low high j → k ≡ j
unfolding IsHalved
one_halved f text zero zero low high k j x y = x.1 ∙ sym y.1
one_halved f text zero (suc s) low high k j x y = absurd (omega (arith, x.0, y.0))
one_halved f text (suc r) zero low high k j x y = absurd (omega (arith, x.0, y.0))
one_halved f text (suc r) (suc s) low high k j x y = one_in_round f text low (middle low high) high r s k j (λ below above. one_halved f text r s below above k j) x.1 y.1

-- ---- what is found

none_at : (places : List (Option ℕ)) (k : ℕ) → list_all is_none places ≡ true → slice_index_or places k None ≡ None
none_at [] k e = refl
none_at (Some line ∷ ps) k e = absurd (cc e)
none_at (None ∷ ps) zero e = refl
none_at (None ∷ ps) (suc k) e = none_at ps k e

-- none where a line would be found
none_found : (f : Fault) (text : List Line) (places : List (Option ℕ)) (k : ℕ) → AreInPlace places ⊎ IsOfOthers f text → IsOfItsLines f text → slice_index_or places k None ≡ None
none_found f text places k (inl e) its = none_at places k e
none_found f text places k (inr (inl other)) its = absurd (not_both text f its.0 other)
none_found f text places k (inr (inr reported)) its = absurd (not_both (with_first f.0 0 text) f reported its.1)

one_in : (f : Fault) (text : List Line) (places : List (Option ℕ)) (a b : Option ℕ) → IsOriginIn f text places a → IsOriginIn f text places b → a ≡ b
one_in f text places a b (inl x) (inl y) = x.1 ∙ sym y.1
one_in f text places a b (inl x) (inr y) = x.1 ∙ sym (y.3 ∙ none_found f text places y.1 x.0 y.0)
one_in f text places a b (inr x) (inl y) = x.3 ∙ none_found f text places x.1 y.0 x.0 ∙ sym y.1
one_in f text places a b (inr x) (inr y) =
    x.3 ∙ ap (λ (k : ℕ). slice_index_or places k None) (one_halved f text x.2.1 y.2.1 0 (length places) x.1 y.1 x.2.2 y.2.2) ∙ sym y.3

one_among : (f : Fault) (text other : List Line) (a b : Option ℕ) → IsOriginAmong f text other a → IsOriginAmong f text other b → a ≡ b
one_among f text other a b (inl x) (inl y) = x.1 ∙ sym y.1
one_among f text other a b (inl x) (inr y) = absurd (cc (x.0, y.0))
one_among f text other a b (inr x) (inl y) = absurd (cc (x.0, y.0))
one_among f text other a b (inr x) (inr y) = one_in f text (places_of f.0 other) a b x.1 y.1

one_between : (f : Fault) (text : List Line) (other : Answer) (a b : Option ℕ) → IsOriginBetween f text other a → IsOriginBetween f text other b → a ≡ b
one_between f text (Some (Ok other)) a b x y = one_among f text other a b x y
one_between f text (Some (Err g)) a b x y = x ∙ sym y
one_between f text None a b x y = x ∙ sym y

one_of_text : (f : Fault) (text other : Answer) (a b : Option ℕ) → IsOriginOfText f text other a → IsOriginOfText f text other b → a ≡ b
one_of_text f (Some (Ok text)) other a b x y = one_between f text other a b x y
one_of_text f (Some (Err g)) other a b x y = x ∙ sym y
one_of_text f None other a b x y = x ∙ sym y

one_of_lines : (f : Fault) (lines : Result (List Line) Fault) (a b : Option ℕ) → IsOriginOfLines f lines a → IsOriginOfLines f lines b → a ≡ b
one_of_lines f (Ok lines) a b x y = one_of_text f (expanded lines) (expanded (marked lines)) a b x y
one_of_lines f (Err g) a b x y = x ∙ sym y

pub one_origin : OneOrigin
one_origin source line code a b = one_of_lines (line, code) (lines_of source) a b

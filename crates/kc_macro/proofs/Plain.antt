-- Plain lines are their own expansion.
use Rattle.std.proofs.Common.{◌≡◌, ℕ, suc, ◌+◌, ◌-◌, ◌<◌, Bool, true, false, cond, not, ◌&&◌, ◌==◌, List, [], ◌∷◌, ◌++◌, length, map, Option, Some, None, Ok, refl, sym, ap, ◌∙◌, append_assoc, arith}
use Rattle.std.specs.List.{list_all}
use Rattle.std.specs.FinMap as fm
use Rattle.kc_lex.specs.declared.token.Token.{Token}
use Rattle.kc_lex.specs.declared.token.Line.{Line}
use Rattle.kc_lex.specs.Kinds.{is_name_kind, is_free_name, is_sign}
use Rattle.kc_expr.specs.Names.{NameMap}
use Rattle.kc_macro_body.specs.declared.macros.Macro.{Macro}
use Rattle.kc_macro_body.specs.declared.words.Word.{Word}
use Rattle.kc_macro_body.specs.declared.words.Word.TheVariants as words
use Rattle.kc_macro_body.specs.Words.{word_of, is_other, unlabelled, behind_label}
use Rattle.kc_macro_body.specs.Calls.{called, is_defining}
use Rattle.kc_macro_input.specs.Pieces.{first_piece}
use Rattle.kc_macro.specs.declared.state.State.{State}
use Rattle.kc_macro.specs.Operands.{noted}
use Rattle.kc_macro.specs.Steps.{Ended, Counted, counted, ended, emitted, word_step, other_step, plain_step, end_step, labelled_step, line_step, step}
use Rattle.kc_macro.specs.Expansion.{run_out, place}
use Rattle.kc_macro.specs.Plain.{is_plain, PlainLinesStay}
use Rattle.kc_macro.proofs.RunLemmas.{reaches_start, reaches_active, run_next, run_counted, expanded_is}

none_if : (b : Bool) (o : Option Macro) → o ≡ None → cond b o None ≡ None
none_if true o h = h
none_if false o h = refl

pub none_called : (ts : List Token) → called fm.empty ts ≡ None
none_called [] = refl
none_called (t ∷ ts) = none_if (is_name_kind t.kind && not (is_defining ts)) _ (fm.get-empty _ t.text)

pub other_is : (w : Word) → is_other w ≡ true → w ≡ words.Other
other_is words.Other h = refl
other_is words.Macro h = absurd (cc)
other_is words.Local h = absurd (cc)
other_is words.Exitm h = absurd (cc)
other_is words.Else h = absurd (cc)
other_is words.Endif h = absurd (cc)
other_is words.Endm h = absurd (cc)
other_is words.If h = absurd (cc)
other_is words.Rept h = absurd (cc)
other_is words.Irp h = absurd (cc)
other_is words.End h = absurd (cc)

-- ---- a line

plain_bare : (s : State) (number : ℕ) (ts : List Token) → called s.macros ts ≡ None → unlabelled ts ≡ words.Other → word_step s number [] ts (unlabelled ts) ≡ plain_step s number ts
plain_bare s number ts none e = ap (word_step s number [] ts) e ∙ ap (other_step s number [] ts) none

plain_two : (s : State) (number : ℕ) (t u : Token) (us : List Token) (b : Bool) → ((ts : List Token) → called s.macros ts ≡ None) → cond b (behind_label us) (unlabelled (t ∷ u ∷ us)) ≡ words.Other
    → cond b (labelled_step s number [] (t ∷ u ∷ us)) (word_step s number [] (t ∷ u ∷ us) (unlabelled (t ∷ u ∷ us))) ≡ plain_step s number (t ∷ u ∷ us)
plain_two s number t u us true none e = rw (e, none us) refl
plain_two s number t u us false none e = plain_bare s number (t ∷ u ∷ us) (none (t ∷ u ∷ us)) e

pub plain_out : (s : State) (number : ℕ) (ts : List Token) → ((us : List Token) → called s.macros us ≡ None) → word_of ts ≡ words.Other → line_step s false number [] ts ≡ plain_step s number ts
unfolding line_step word_of
plain_out s number [] none e = plain_bare s number [] (none []) e
plain_out s number (t ∷ []) none e = plain_bare s number (t ∷ []) (none (t ∷ [])) e
plain_out s number (t ∷ u ∷ us) none e = plain_two s number t u us (is_free_name t && is_sign 58 u) none e

end_two : (s : State) (number : ℕ) (t u : Token) (us : List Token) (b : Bool) → ((ts : List Token) → called s.macros ts ≡ None) → cond b (behind_label us) (unlabelled (t ∷ u ∷ us)) ≡ words.End
    → cond b (labelled_step s number [] (t ∷ u ∷ us)) (word_step s number [] (t ∷ u ∷ us) (unlabelled (t ∷ u ∷ us))) ≡ end_step s number (t ∷ u ∷ us)
end_two s number t u us true none e = rw (e, none us) refl
end_two s number t u us false none e = ap (word_step s number [] (t ∷ u ∷ us)) e

pub end_out : (s : State) (number : ℕ) (ts : List Token) → ((us : List Token) → called s.macros us ≡ None) → word_of ts ≡ words.End → line_step s false number [] ts ≡ end_step s number ts
unfolding line_step word_of
end_out s number [] none e = ap (word_step s number [] []) e
end_out s number (t ∷ []) none e = ap (word_step s number [] (t ∷ [])) e
end_out s number (t ∷ u ∷ us) none e = end_two s number t u us (is_free_name t && is_sign 58 u) none e

-- ---- all lines

abbrev pub before : List Line → List Line → NameMap → ℕ → ℕ → State
before done lines values left last = record { done = done; ahead = map first_piece lines; macros = fm.empty; values = values; given = 0; labelled = false; left = left; end = last }

pub some_left : (left n : ℕ) → n < left → (left == 0) ≡ false
some_left left n h = grind arith

pub counted_some : (number : ℕ) (s : State) → (s.left == 0) ≡ false → counted number s ≡ Counted (record s { left = s.left - 1 })
counted_some number s h = rw h refl

pub and_both : (a b : Bool) → (a && b) ≡ true → (a ≡ true) × (b ≡ true)
and_both true true h = (refl, refl)
and_both true false h = absurd (cc)
and_both false b h = absurd (cc)

stays : (lines : List Line) (end : Line) (rest done : List Line) (values : NameMap) (left last : ℕ) → list_all is_plain lines ≡ true → word_of end.tokens ≡ words.End → length lines < left
    → run_out (before done (lines ++ end ∷ rest) values left last) ≡ Some (Ok (done ++ (lines ++ end ∷ [])))
stays [] end rest done values left last h e few =
    let s = before done (end ∷ rest) values left last in
    let here = before done rest values left last in
    let one : step s ≡ Ended (done ++ end ∷ []) =
    end_out here end.number end.tokens none_called e ∙ ap ended (counted_some end.number (emitted end.number end.tokens here) (some_left left 0 few)) in
    run_next s (Ended (done ++ end ∷ [])) (reaches_active s s (Ended (done ++ end ∷ [])) (reaches_start s) (sym one) tt)
stays (l ∷ lines) end rest done values left last h e few =
    let both = and_both (is_plain l) (list_all is_plain lines) h in
    let s = before done (l ∷ (lines ++ end ∷ rest)) values left last in
    let here = before done (lines ++ end ∷ rest) values left last in
    let t = before (done ++ l ∷ []) (lines ++ end ∷ rest) (noted l.tokens values) (left - 1) last in
    let one : step s ≡ Counted t =
    plain_out here l.number l.tokens none_called (other_is (word_of l.tokens) both.0) ∙ counted_some l.number (emitted l.number l.tokens (record here { values = noted l.tokens values })) (some_left left (suc (length lines)) few) in
    let less : suc (left - 1) ≡ left = omega arith in
    sym (run_counted s t (reaches_active s s (Counted t) (reaches_start s) (sym one) tt) less)
    ∙ stays lines end rest (done ++ l ∷ []) (noted l.tokens values) (left - 1) last both.1 e (omega arith)
    ∙ ap (λ (ls : List Line). Some (Ok ls)) (append_assoc done (l ∷ []) (lines ++ end ∷ []))

pub plain_lines_stay : PlainLinesStay
plain_lines_stay lines end rest h e few =
    expanded_is (lines ++ end ∷ rest) (before [] (lines ++ end ∷ rest) (fm.insert fm.empty (36 ∷ []) place) 65535 (length (lines ++ end ∷ rest) + 1)) refl
    ∙ stays lines end rest [] (fm.insert fm.empty (36 ∷ []) place) 65535 (length (lines ++ end ∷ rest) + 1) h e few

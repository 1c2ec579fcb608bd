-- What an EXITM ends.
use Rattle.std.proofs.Common.{◌≡◌, ℕ, zero, suc, ◌-◌, ◌<◌, ◌==◌, Bool, true, false, not, ◌&&◌, cond, List, [], ◌∷◌, ◌++◌, map, drop, Option, Some, None, Ok, inl, refl, sym, ap, ◌∙◌, arith, append_assoc}
use Rattle.std.proofs.lemmas.List.{map-append}
use Rattle.std.specs.Prelude.{is_some}
use Rattle.std.specs.List.{list_all, list_any}
use Rattle.std.proofs.lemmas.Bool.{and_parts, or_parts}
use Rattle.kc_lex.specs.declared.token.Token.{Token}
use Rattle.kc_lex.specs.Kinds.{has_label, is_free_name, is_sign}
use Rattle.kc_macro_body.specs.declared.words.Word.{Word}
use Rattle.kc_macro_body.specs.declared.words.Word.TheVariants as words
use Rattle.kc_macro_body.specs.declared.macros.Macro.{Macro}
use Rattle.kc_macro_body.specs.Words.{word_of, is_other, unlabelled, behind_label, behind_two}
use Rattle.kc_macro_body.specs.Calls.{called}
use Rattle.kc_macro_input.specs.declared.piece.Mark.{Mark}
use Rattle.kc_macro_input.specs.declared.piece.Mark.TheVariants.{Call, Turns}
use Rattle.kc_macro_input.specs.declared.piece.Piece.{Piece}
use Rattle.kc_macro_input.specs.Pieces.{innermost, comes_from, marked, left_out, body_line, word_at, repeated}
use Rattle.kc_macro.specs.declared.state.State.{State}
use Rattle.kc_macro.specs.Operands.{operand, noted}
use Rattle.kc_macro.specs.Steps.{Quiet, counted, emitted, plain_step, other_step, word_step, labelled_step, line_step, turn_head, step}
use Rattle.kc_macro.specs.Expansion.{run_out}
use Rattle.kc_macro_laws.specs.Course.{at_text, on_text, one_counted, HasOldMarks}
use Rattle.kc_macro_laws.specs.Nests.{Is}
use Rattle.kc_macro_laws.specs.Constructs.{is_exitm, Block, text_of, IsBlock, IsJoined}
use Rattle.kc_macro_laws.specs.Exits.{ExitmEndsTheInnermost, behind_its_label, are_plain, come_out, ExitmInACall, ExitmInARept}
use Rattle.kc_macro_laws.proofs.Answers.{after_quiet}
use Rattle.kc_macro_laws.proofs.Simulation.{behind_exitm}
use Rattle.kc_macro_laws.proofs.Constructs.{word_first, counted_both, call_copy, called_on, rept_some, rest_old, one_answer}
use Rattle.kc_macro_laws.proofs.Texts.{IsOwn, ComesNone, Runs, old_none, both_true}
use Rattle.kc_macro_laws.proofs.Reached.{reached_good, own_turns, own_call}

-- ---- the innermost

abbrev taken : Mark → List Piece → List Piece
taken m [] = []
taken m (p ∷ ps) = cond (comes_from m p) (p ∷ taken m ps) []

taken_left : (m : Mark) (ps : List Piece) → ps ≡ taken m ps ++ left_out m ps
unfolding left_out
taken_left m [] = refl
taken_left m (p ∷ ps) = elim (comes_from m p) as (λ b. p ∷ ps ≡ cond b (p ∷ taken m ps) [] ++ cond b (left_out m ps) (p ∷ ps)) [ true ↦ ap (λ qs. p ∷ qs) (taken_left m ps) | false ↦ refl ]

taken_comes : (m : Mark) (ps : List Piece) → list_all (comes_from m) (taken m ps) ≡ true
taken_comes m [] = refl
taken_comes m (p ∷ ps) = choice (comes_from m p) refl (taken_comes m ps)
  where
    choice : (b : Bool) → comes_from m p ≡ b → list_all (comes_from m) (taken m ps) ≡ true → list_all (comes_from m) (cond b (p ∷ taken m ps) []) ≡ true
    choice true e later = both_true _ _ e later
    choice false e later = refl

pub exitm_ends_the_innermost : ExitmEndsTheInnermost
exitm_ends_the_innermost s number from tokens rest m reached first inner =
    let runs : Runs m rest = (reached_good (at_text s (body_line number from tokens ∷ rest)) reached).tidy.0 m inner in (
      taken m rest,
      (
        left_out m rest,
        (
          record { whole = taken_left m rest; goes = taken_comes m rest; stays = runs },
          after_quiet (at_text s (body_line number from tokens ∷ rest)) (on_text s (left_out m rest)) (word_first s number from tokens rest words.Exitm first ∙ rw inner refl),
        ),
      ),
    )

-- ---- lines that come out

other_word : (w : Word) → is_other w ≡ true → w ≡ words.Other
other_word words.Other h = refl
other_word words.Macro h = absurd (cc)
other_word words.Local h = absurd (cc)
other_word words.Exitm h = absurd (cc)
other_word words.Else h = absurd (cc)
other_word words.Endif h = absurd (cc)
other_word words.Endm h = absurd (cc)
other_word words.If h = absurd (cc)
other_word words.Rept h = absurd (cc)
other_word words.Irp h = absurd (cc)
other_word words.End h = absurd (cc)

none_called : (o : Option Macro) → not (is_some o) ≡ true → o ≡ None
none_called None h = refl
none_called (Some m) h = absurd (cc)

plain_bare : (s : State) (number : ℕ) (from : List Mark) (ts : List Token) → unlabelled ts ≡ words.Other → called s.macros ts ≡ None → word_step s number from ts (unlabelled ts) ≡ plain_step s number ts
plain_bare s number from ts e none = ap (word_step s number from ts) e ∙ ap (other_step s number from ts) none

plain_two : (s : State) (number : ℕ) (from : List Mark) (t u : Token) (us : List Token) (b : Bool) → cond b (behind_label us) (unlabelled (t ∷ u ∷ us)) ≡ words.Other → called s.macros (cond b us (t ∷ u ∷ us)) ≡ None →
    cond b (labelled_step s number from (t ∷ u ∷ us)) (word_step s number from (t ∷ u ∷ us) (unlabelled (t ∷ u ∷ us))) ≡ plain_step s number (t ∷ u ∷ us)
plain_two s number from t u us true e none = rw (e, none) refl
plain_two s number from t u us false e none = plain_bare s number from (t ∷ u ∷ us) e none

plain_out : (s : State) (number : ℕ) (from : List Mark) (ts : List Token) → word_of ts ≡ words.Other → called s.macros (behind_its_label ts) ≡ None → line_step s false number from ts ≡ plain_step s number ts
unfolding line_step word_of
plain_out s number from [] e none = plain_bare s number from [] e none
plain_out s number from (t ∷ []) e none = plain_bare s number from (t ∷ []) e none
plain_out s number from (t ∷ u ∷ us) e none = plain_two s number from t u us (is_free_name t && is_sign 58 u) e none

-- a line at the beginning that comes out, with any marks
plain_first : (s : State) (p : Piece) (o : Option (List Token)) → p.tokens ≡ o → are_plain s.macros o ≡ true →
    (next : State) × ((next.macros ≡ s.macros) × ((rest : List Piece) (from : List Mark) → step (on_text s (record p { from = from } ∷ rest)) ≡ counted p.number (on_text next rest)))
plain_first s p None e h = absurd (cc)
plain_first s p (Some ts) e h =
    let both : (is_other (word_of ts) ≡ true) × (not (is_some (called s.macros (behind_its_label ts))) ≡ true) = and_parts _ _ h in
    (emitted p.number ts (record s { values = noted ts s.values }), (refl, λ rest from. rw e (plain_out (on_text s rest) p.number from ts (other_word _ both.0) (none_called _ both.1))))

-- ---- up to the EXITM

exit_word : (s : State) (x : Mark) (last : Piece) (o : Option (List Token)) (rest : List Piece) → last.tokens ≡ o → is_exitm (word_at o) ≡ true → innermost (x ∷ last.from) ≡ Some x → step (on_text s (marked x last ∷ rest)) ≡ Quiet (on_text s (left_out x rest))
unfolding word_of
exit_word s x last None rest e h inner = absurd (cc)
exit_word s x last (Some ts) rest e h inner = rw e (choice (has_label ts) refl)
  where
    is_it : (w : Word) → is_exitm w ≡ true → w ≡ words.Exitm
    is_it words.Exitm k = refl
    is_it words.Other k = absurd (cc)
    is_it words.Macro k = absurd (cc)
    is_it words.Local k = absurd (cc)
    is_it words.Else k = absurd (cc)
    is_it words.Endif k = absurd (cc)
    is_it words.Endm k = absurd (cc)
    is_it words.If k = absurd (cc)
    is_it words.Rept k = absurd (cc)
    is_it words.Irp k = absurd (cc)
    is_it words.End k = absurd (cc)

    behind_two_exitm : (us : List Token) → is_exitm (behind_two us) ≡ true → ⊥
    behind_two_exitm [] k = absurd (cc)
    behind_two_exitm (t ∷ []) k = absurd (cc)
    behind_two_exitm (t ∷ u ∷ us) k = behind_exitm us k

    choice : (b : Bool) → has_label ts ≡ b → step (on_text s (record { number = last.number; from = x ∷ last.from; tokens = Some ts } ∷ rest)) ≡ Quiet (on_text s (left_out x rest))
    choice true f = absurd (behind_two_exitm ts (rw f at h))
    choice false f =
        let word : unlabelled ts ≡ words.Exitm = is_it (unlabelled ts) (rw f at h) in
        word_first (record s { labelled = false }) last.number (x ∷ last.from) ts rest words.Exitm (rw (f, word) refl) ∙ rw inner refl

leaves : (x : Mark) (left : ℕ) (back rest : List Piece) → IsOwn x left → ComesNone x rest → left_out x (map (marked x) back ++ rest) ≡ rest
unfolding left_out
leaves x left [] [] own none = refl
leaves x left [] (p ∷ rest) own none = let first : comes_from x p ≡ false = (or_parts (comes_from x p) (list_any (comes_from x) rest) none).0 in rw first refl
leaves x left (p ∷ back) rest own none = rw own.own (leaves x left back rest own none)

counted_same : (a c s : State) (number : ℕ) (ps qs : List Piece) → step a ≡ counted number (on_text s ps) → step c ≡ counted number (on_text s qs) →
    (run_out (record (on_text s ps) { left = s.left - 1 }) ≡ run_out (record (on_text s qs) { left = s.left - 1 })) → run_out a ≡ run_out c
counted_same a c s number ps qs e f same = one_answer 0 a c (counted_both (Turns 0) a c (on_text s ps) number qs e f (λ _. inl (sym same)))

to_the_exit : (x : Mark) (left : ℕ) (prefix : List Piece) (last : Piece) (back rest : List Piece) (s : State) → IsOwn x left → come_out s.macros prefix → Is is_exitm last → ComesNone x rest →
    run_out (on_text s (map (marked x) (prefix ++ last ∷ back) ++ rest)) ≡ run_out (on_text s (prefix ++ rest))
to_the_exit x left [] last back rest s own out exit none =
    after_quiet (on_text s (marked x last ∷ (map (marked x) back ++ rest))) (on_text s rest) (exit_word s x last last.tokens (map (marked x) back ++ rest) refl exit (own.plain last.from) ∙ ap (λ ps. Quiet (on_text s ps)) (leaves x left back rest own none))
to_the_exit x left (p ∷ prefix) last back rest s own out exit none =
    let both : (are_plain s.macros p.tokens ≡ true) × come_out s.macros prefix = and_parts _ _ out in
    let first : (next : State) × ((next.macros ≡ s.macros) × ((more : List Piece) (from : List Mark) → step (on_text s (record p { from = from } ∷ more)) ≡ counted p.number (on_text next more))) = plain_first s p p.tokens refl both.0 in
    counted_same (on_text s (marked x p ∷ (map (marked x) (prefix ++ last ∷ back) ++ rest))) (on_text s (p ∷ (prefix ++ rest))) first.0 p.number (map (marked x) (prefix ++ last ∷ back) ++ rest) (prefix ++ rest)
    (first.1.1 (map (marked x) (prefix ++ last ∷ back) ++ rest) (x ∷ p.from)) (first.1.1 (prefix ++ rest) p.from)
    (to_the_exit x left prefix last back rest (record first.0 { left = first.0.left - 1 }) own (rw first.1.0 both.1) exit none)

some_left : (n : ℕ) → 0 < n → (n == 0) ≡ false
some_left n h = grind arith

pub exitm_in_a_call : ExitmInACall
exitm_in_a_call s number from tokens rest m prefix last back is names old filled out exit =
    call_copy s number from tokens rest m (prefix ++ last ∷ back) (prefix ++ rest) is names filled
    (λ some. inl (sym (to_the_exit (Call s.left) s.left prefix last back rest (called_on s rest m) (own_call s.left (some_left s.left some)) out exit
    (old_none (Call s.left) s.left rest (own_call s.left (some_left s.left some)) (and_parts _ _ old).1))))

-- the later turns have the same mark
later_turns : (x : Mark) (k : ℕ) (head : Piece) (ps : List Piece) → repeated k (marked x head ∷ map (marked x) ps) ≡ map (marked x) (repeated k (head ∷ ps))
unfolding repeated
later_turns x zero head ps = refl
later_turns x (suc k) head ps = ap (λ qs. marked x head ∷ qs) (ap (λ qs. map (marked x) ps ++ qs) (later_turns x k head ps) ∙ sym (map-append (marked x) ps (repeated k (head ∷ ps))))

rept_exit : (s : State) (b : Block) (n : ℕ) (prefix : List Piece) (last : Piece) (back : List Piece) → IsBlock s words.Rept b → HasOldMarks (at_text s (text_of b)) → operand (drop 1 b.tokens) s.values ≡ Ok n → 0 < n →
    IsJoined b.body (prefix ++ last ∷ back) → come_out s.macros prefix → Is is_exitm last → run_out (at_text s (text_of b)) ≡ run_out (on_text s (one_counted b.number b.from ∷ (prefix ++ b.rest)))
rept_exit s b zero prefix last back is old value some joined out exit = absurd (omega arith)
rept_exit s b (suc k) prefix last back is old value some joined out exit =
    one_answer s.left (at_text s (text_of b)) (on_text s (one_counted b.number b.from ∷ (prefix ++ b.rest)))
    (counted_both (Turns s.left) (at_text s (text_of b)) (on_text s (one_counted b.number b.from ∷ (prefix ++ b.rest))) (on_text s (turns ++ b.rest)) b.number (prefix ++ b.rest)
    (rept_some s b k (prefix ++ last ∷ back) is value joined ∙ ap (λ ps. counted b.number (on_text s ps)) all_turns) refl
    (λ more. inl (sym (to_the_exit (Turns s.left) s.left prefix last (back ++ later) b.rest (record s { left = s.left - 1 }) (own_turns s.left (some_left s.left more)) out exit
    (old_none (Turns s.left) s.left b.rest (own_turns s.left (some_left s.left more)) (rest_old s b old))))))
  where
    x : Mark
    x = Turns s.left

    later : List Piece
    later = repeated k (one_counted b.number b.from ∷ (prefix ++ last ∷ back))

    turns : List Piece
    turns = map (marked x) (prefix ++ last ∷ (back ++ later))

    all_turns : map (marked x) (prefix ++ last ∷ back) ++ (repeated k (turn_head s.left b.number b.from ∷ map (marked x) (prefix ++ last ∷ back)) ++ b.rest) ≡ turns ++ b.rest
    all_turns = ap (λ qs. map (marked x) (prefix ++ last ∷ back) ++ (qs ++ b.rest)) (later_turns x k (one_counted b.number b.from) (prefix ++ last ∷ back))
        ∙ sym (append_assoc (map (marked x) (prefix ++ last ∷ back)) (map (marked x) later) b.rest)
        ∙ ap (λ qs. qs ++ b.rest) (sym (map-append (marked x) (prefix ++ last ∷ back) later) ∙ ap (map (marked x)) (append_assoc prefix (last ∷ back) later))

pub exitm_in_a_rept : ExitmInARept
exitm_in_a_rept = rept_exit

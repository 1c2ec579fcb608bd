-- A text is that of one run, or has one first line that no board prints there.
use Rattle.std.proofs.Common.{◌≡◌, ℕ, true, false, Result, Ok, Err, List, [], ◌∷◌, ◌++◌, map, refl, sym, ap, subst, ◌∙◌}
use Rattle.kc_base.specs.TextLines.{text_lines}
use Rattle.kc_events.specs.declared.line.Line.{Line}
use Rattle.kc_events.specs.Lines.{line_text}
use Rattle.kc_events.specs.Grammar.{Place, start_place, MayFollow, AreLines, after_line, place_after, is_over, IsRun}
use Rattle.kc_events.specs.Reading.{IsWrong, one_more}
use Rattle.kc_events.specs.Reporting.{IsFirstWrong, count_with}
use Rattle.kc_events.specs.Laws.{IsReadAs, OneReading}
use Rattle.kc_events.proofs.LineLemmas.{same_text}
use Rattle.kc_events.proofs.TraceLemmas.{first_fits, rest_fits, one_trace}

-- no line that may come at a place has the text of a wrong one
not_wrong : (p : Place) (texts : List (List ℕ)) (line : Line) (more : List (List ℕ)) → texts ≡ line_text line ∷ more → MayFollow p line → IsWrong p texts → ⊥
not_wrong p texts line more is fits wrong =
    let none : (other : Line) → MayFollow p other → line_text other ≡ line_text line → ⊥ = subst (IsWrong p) is wrong in
    none line fits refl

same_line : (p : Place) (x o : Line) (xs os : List Line) → AreLines p (x ∷ xs) → AreLines p (o ∷ os) → line_text x ≡ line_text o → x ≡ o
same_line p x o xs os h k e = same_text x o (first_fits p x xs h).sound (first_fits p o os k).sound e

-- ---- the lines before the first wrong one

place_behind : (p : Place) (line : Line) (lines : List Line) → place_after p (line ∷ lines) ≡ place_after (after_line p line) lines
unfolding place_after
place_behind p line lines = refl

place_none : (p : Place) → place_after p [] ≡ p
unfolding place_after
place_none p = refl

same_before : (p : Place) (before others : List Line) (texts more : List (List ℕ)) → map line_text before ++ texts ≡ map line_text others ++ more
    → AreLines p before → AreLines p others → IsWrong (place_after p before) texts → IsWrong (place_after p others) more → before ≡ others
same_before p [] [] texts more e h k wrong none = refl
same_before p [] (o ∷ others) texts more e h k wrong none =
    absurd (not_wrong p texts o (map line_text others ++ more) e (first_fits p o others k) (subst (λ q. IsWrong q texts) (place_none p) wrong))
same_before p (x ∷ before) [] texts more e h k wrong none =
    absurd (not_wrong p more x (map line_text before ++ texts) (sym e) (first_fits p x before h) (subst (λ q. IsWrong q more) (place_none p) none))
same_before p (x ∷ before) (o ∷ others) texts more e h k wrong none =
    let head : line_text x ≡ line_text o = cc in
    let tail : map line_text before ++ texts ≡ map line_text others ++ more = cc in
    let same : x ≡ o = same_line p x o before others h k head in
    let rest : before ≡ others = same_before (after_line p x) before others texts more tail (rest_fits p x before h)
    (subst (λ y. AreLines (after_line p y) others) (sym same) (rest_fits p o others k))
    (subst (λ q. IsWrong q texts) (place_behind p x before) wrong)
    (subst (λ y. IsWrong (place_after (after_line p y) others) more) (sym same) (subst (λ q. IsWrong q more) (place_behind p o others) none)) in
    (λ i. same i ∷ rest i)

one_line : (text : List ℕ) (line other : ℕ) → IsFirstWrong (start_place 0) text 0 line → IsFirstWrong (start_place 0) text 0 other → line ≡ other
one_line text line other h k =
    let same : h.before ≡ k.before = same_before (start_place 0) h.before k.before h.others k.others (sym h.spelled ∙ k.spelled) h.follow k.follow h.wrong k.wrong in
    h.number ∙ (ap (λ lines. one_more (count_with 0 lines)) same ∙ sym k.number)

-- ---- a run has no wrong line

whole_run : (p : Place) (lines before : List Line) (texts : List (List ℕ)) → map line_text lines ≡ map line_text before ++ texts
    → AreLines p lines → is_over (place_after p lines).stage ≡ true → AreLines p before → IsWrong (place_after p before) texts → ⊥
whole_run p [] [] [] e h over k wrong =
    let here : is_over (place_after p []).stage ≡ false = wrong in
    let both : true ≡ false = sym over ∙ here in
    absurd cc
whole_run p [] [] (t ∷ texts) e h over k wrong = absurd cc
whole_run p [] (o ∷ before) texts e h over k wrong = absurd cc
whole_run p (x ∷ lines) [] texts e h over k wrong =
    not_wrong p texts x (map line_text lines) (sym e) (first_fits p x lines h) (subst (λ q. IsWrong q texts) (place_none p) wrong)
whole_run p (x ∷ lines) (o ∷ before) texts e h over k wrong =
    let head : line_text x ≡ line_text o = cc in
    let tail : map line_text lines ≡ map line_text before ++ texts = cc in
    let same : x ≡ o = same_line p x o lines before h k head in
    whole_run (after_line p x) lines before texts tail (rest_fits p x lines h)
    (subst (λ (q : Place). is_over q.stage ≡ true) (place_behind p x lines) over)
    (subst (λ y. AreLines (after_line p y) before) (sym same) (rest_fits p o before k))
    (subst (λ y. IsWrong (place_after (after_line p y) before) texts) (sym same) (subst (λ q. IsWrong q texts) (place_behind p o before) wrong))

never_wrong : (text : List ℕ) (lines : List Line) (line : ℕ) → IsReadAs text (Ok lines) → IsReadAs text (Err line) → ⊥
never_wrong text lines line h k = whole_run (start_place 0) lines k.before k.others (sym h.0 ∙ k.spelled) h.1.follow h.1.whole k.follow k.wrong

pub one_reading : OneReading
one_reading text (Ok lines) (Ok others) h k = ap Ok (one_trace lines others h.1.follow k.1.follow (sym h.0 ∙ k.0))
one_reading text (Ok lines) (Err line) h k = absurd (never_wrong text lines line h k)
one_reading text (Err line) (Ok lines) h k = absurd (never_wrong text lines line k h)
one_reading text (Err line) (Err other) h k = ap Err (one_line text line other h k)

-- The lines of traces, one behind the other.
use Rattle.std.proofs.Common.{◌≡◌, ℕ, ◌<◌, Option, Some, None, List, [], ◌∷◌, ◌++◌, map, flat_map, length, refl, sym, ap, subst, ◌∙◌, append_assoc, arith}
use Rattle.std.specs.Io.KnownBytes.{IsAtEnd}
use Rattle.kc_base.specs.TextLines.{text_lines}
use Rattle.kc_base.proofs.Words.{plain_line, no_lines}
use Rattle.kc_byte_source.specs.Feed.{IsLongLine, GaveLine}
use Rattle.kc_events.specs.declared.line.Line.{Line}
use Rattle.kc_events.specs.Lines.{line_text, trace_text}
use Rattle.kc_events.specs.Grammar.{Place, start_place, MayFollow, AreLines, after_line}
use Rattle.kc_events.specs.Reading.{IsWrong, IsWrongNext}
use Rattle.kc_events.specs.Laws.{TracesAreRead, OneTrace}
use Rattle.kc_events.proofs.LineLemmas.{same_text, plain_text, short_text}

pub first_fits : (p : Place) (line : Line) (lines : List Line) → AreLines p (line ∷ lines) → MayFollow p line
unfolding AreLines
first_fits p line lines h = h.0

pub rest_fits : (p : Place) (line : Line) (lines : List Line) → AreLines p (line ∷ lines) → AreLines (after_line p line) lines
unfolding AreLines
rest_fits p line lines h = h.1

lines_read : (p : Place) (lines : List Line) → AreLines p lines → text_lines (flat_map (λ line. line_text line ++ 10 ∷ []) lines) ≡ map line_text lines
lines_read p [] h = no_lines
lines_read p (x ∷ xs) h =
    let rest : List ℕ = flat_map (λ line. line_text line ++ 10 ∷ []) xs in
    ap text_lines (append_assoc (line_text x) (10 ∷ []) rest)
    ∙ plain_line (line_text x) rest (plain_text x (first_fits p x xs h).sound)
    ∙ ap (λ (ls : List (List ℕ)). line_text x ∷ ls) (lines_read (after_line p x) xs (rest_fits p x xs h))

pub traces_are_read : TracesAreRead
unfolding trace_text
traces_are_read lines h = lines_read (start_place 0) lines h

one_from : (p : Place) (lines others : List Line) → AreLines p lines → AreLines p others → map line_text lines ≡ map line_text others → lines ≡ others
one_from p [] [] h k e = refl
one_from p [] (o ∷ others) h k e = absurd cc
one_from p (x ∷ lines) [] h k e = absurd cc
one_from p (x ∷ lines) (o ∷ others) h k e =
    let head : line_text x ≡ line_text o = cc in
    let tail : map line_text lines ≡ map line_text others = cc in
    let same : x ≡ o = same_text x o (first_fits p x lines h).sound (first_fits p o others k).sound head in
    let rest : lines ≡ others = one_from (after_line p x) lines others (rest_fits p x lines h) (subst (λ y. AreLines (after_line p y) others) (sym same) (rest_fits p o others k)) tail in
    (λ i. same i ∷ rest i)

pub one_trace : OneTrace
one_trace lines others h k e = one_from (start_place 0) lines others h k e

-- ---- the line that comes next

wrong_at : (p : Place) (line : List ℕ) (lines all : List (List ℕ)) → all ≡ line ∷ lines → ((other : Line) → MayFollow p other → line_text other ≡ line → ⊥) → IsWrong p all
wrong_at p line lines all is none = subst (IsWrong p) (sym is) none

pub long_is_wrong : (p : Place) (left : Option (List ℕ)) → IsLongLine 255 left → IsWrongNext p left
long_is_wrong p None h = tt
long_is_wrong p (Some text) h = wrong_at p h.0 h.1 (text_lines text) h.2 (λ other fits e.
    let short = short_text other fits.sound in
    let long : 255 < length h.0 = h.3 in
    let same : length (line_text other) ≡ length h.0 = ap length e in
    absurd (omega (arith, short, long, same)))

pub given_is_wrong : (p : Place) (left now : Option (List ℕ)) (line : List ℕ) → GaveLine left line now → ((other : Line) → MayFollow p other → line_text other ≡ line → ⊥) → IsWrongNext p left
given_is_wrong p None now line h none = tt
given_is_wrong p (Some text) None line h none = absurd h
given_is_wrong p (Some text) (Some rest) line h none = wrong_at p line (text_lines rest) (text_lines text) h none

pub end_is_wrong : (p : Place) (left : Option (List ℕ)) → IsWrong p [] → IsAtEnd left → IsWrongNext p left
end_is_wrong p None h k = tt
end_is_wrong p (Some text) h k = subst (IsWrong p) (sym (ap text_lines k ∙ no_lines)) h

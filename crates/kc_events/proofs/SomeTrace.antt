-- Each number of a line is that of the first wrong line of some text, and lines of a run are those of a text.
use Rattle.std.proofs.Common.{◌≡◌, ℕ, zero, suc, ◌+◌, ◌-◌, ◌^◌, ◌<◌, ◌≤◌, min, false, true, List, [], ◌∷◌, ◌++◌, map, replicate, refl, sym, ap, subst, ◌∙◌, arith}
use Rattle.kc_base.specs.TextLines.{text_lines}
use Rattle.kc_trace.specs.declared.record.Record.TheVariants.{Entered}
use Rattle.kc_events.specs.declared.line.Line.{Line}
use Rattle.kc_events.specs.declared.line.Line.TheVariants.{Printed}
use Rattle.kc_events.specs.declared.reader.Stage.TheVariants.{Living}
use Rattle.kc_events.specs.Lines.{line_text, trace_text}
use Rattle.kc_events.specs.Grammar.{Place, start_place, MayFollow, AreLines, after_line, place_after, IsRun}
use Rattle.kc_events.specs.Reading.{IsWrong, one_more}
use Rattle.kc_events.specs.Reporting.{IsFirstWrong, count_with}
use Rattle.kc_events.proofs.TraceLemmas.{traces_are_read}

-- an entry in state 0, which may come again and again
abbrev entry : Line
entry = Printed (Entered 0 0 0)

abbrev entries : ℕ → List Line
entries n = replicate n entry

pub record IsAtStart (p : Place) : Type 0 where
  pub base : p.base ≡ 0
  pub past : p.past ≤ 1
  pub stage : p.stage ≡ Living

entry_fits : (p : Place) → IsAtStart p → MayFollow p entry
entry_fits p at = record { sound = (tt, (omega arith, omega arith, omega arith)); fits = grind (arith, at.base, at.past, at.stage) }

entry_stays : (p : Place) → IsAtStart p → IsAtStart (after_line p entry)
entry_stays p at = record { base = at.base; past = omega arith; stage = at.stage }

entries_follow : (n : ℕ) (p : Place) → IsAtStart p → AreLines p (entries n)
unfolding AreLines
entries_follow zero p at = tt
entries_follow (suc n) p at = (entry_fits p at, entries_follow n (after_line p entry) (entry_stays p at))

entries_end : (n : ℕ) (p : Place) → IsAtStart p → IsWrong (place_after p (entries n)) []
unfolding place_after
entries_end zero p at = cc (at.stage)
entries_end (suc n) p at = entries_end n (after_line p entry) (entry_stays p at)

entries_count : (n count : ℕ) → count + n < 2 ^ 64 → count_with count (entries n) ≡ count + n
unfolding count_with
entries_count zero count few = omega arith
entries_count (suc n) count few =
    let one : one_more count ≡ count + 1 = grind (arith, few) in
    let rest : count_with (count + 1) (entries n) ≡ count + 1 + n = entries_count n (count + 1) (omega (arith, few)) in
    subst (λ k. count_with k (entries n) ≡ count + suc n) (sym one) (omega (arith, rest))

with_none : {T : Type 0} (xs : List T) → xs ++ [] ≡ xs
with_none [] = refl
with_none (x ∷ xs) = ap (λ rest. x ∷ rest) (with_none xs)

at_start : IsAtStart (start_place 0)
at_start = record { base = refl; past = omega arith; stage = refl }

pub some_wrong : (line : ℕ) → 1 ≤ line → line < 2 ^ 64 → (text : List ℕ) × IsFirstWrong (start_place 0) text 0 line
some_wrong line some few =
    let before = entries (line - 1) in
    let counted : count_with 0 before ≡ 0 + (line - 1) = entries_count (line - 1) 0 (omega (arith, some, few)) in (
      trace_text before,
      record {
        before = before;
        others = [];
        spelled = traces_are_read before (entries_follow (line - 1) (start_place 0) at_start) ∙ sym (with_none (map line_text before));
        follow = entries_follow (line - 1) (start_place 0) at_start;
        wrong = entries_end (line - 1) (start_place 0) at_start;
        number = grind (arith, counted, some, few);
      },
    )

-- the lines of a run are those of the text that the board prints
pub some_run : (lines : List Line) → IsRun (start_place 0) lines → (text : List ℕ) × (text_lines text ≡ map line_text lines)
some_run lines run = (trace_text lines, traces_are_read lines run.follow)

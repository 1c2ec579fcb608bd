-- What a reader of the dump of a run knows in each state of its lives.
use Rattle.std.proofs.Common.{◌≡◌, ℕ, zero, suc, ◌+◌, ◌*◌, ◌/◌, ◌<◌, ◌≤◌, Bool, true, eqb, leb, Some, List, [], refl, sym, ap, subst, ◌∙◌, arith}
use Rattle.std.specs.Prelude.{slice_get}
use Rattle.std.proofs.Math.Nat.{lt-div-mul-add, div-le_self}
use Rattle.kc_trace.specs.Lives.{Life}
use Rattle.kc_events.specs.Grammar.{start_place}
use Rattle.kc_events.specs.Lives.{start_levels}
use Rattle.kc_events.specs.Steps.{Seen, steps_of}
use Rattle.kc_vcd.specs.declared.variable.Variable.{Variable}
use Rattle.kc_vcd.specs.Variables.{variables_of}
use Rattle.kc_vcd.specs.Changes.{changes_by, end_by}
use Rattle.kc_vcd.specs.Dump.{Shown, state_length, shown_of}
use Rattle.kc_vcd.specs.Laws.{AreKnown, IsSound, IsEvent, Member, level_behind, count_among}
use Rattle.kc_trace.specs.declared.life.What.{What}
use Rattle.kc_vcd.specs.declared.variable.Variable.TheVariants.{Entry, Transfer}
use Rattle.kc_vcd.specs.Variables.{name_of}
use Rattle.kc_vcd.specs.Reader.{count_described}
use Rattle.kc_vcd.specs.Runs.{Run, IsShownRun, IsIn, begin_of, lives_in, dump_for, time_of, count_in, is_entry, is_transfer, DumpsShowLevels, DumpsShowValues, DumpsShowEvents}
use Rattle.kc_vcd.proofs.RunValues.{steps_none, value_timed, spans_end}
use Rattle.kc_vcd.proofs.RunCounts.{Shows, entry_shows, transfer_shows, spans_count}
use Rattle.kc_vcd.proofs.Behind.{shown_changes}
use Rattle.kc_vcd.proofs.Shows.{shown_known, signal_there, channel_there, entry_there, transfer_there}
use Rattle.kc_vcd.proofs.Spans.{Span, span_lives, spans_with, AreSpans, steps_spans, lives_spans, are_spans}
use Rattle.kc_vcd.proofs.Picked.{picked, spans_known}
use Rattle.kc_vcd.proofs.RunLevels.{spans_level}
use Rattle.kc_vcd.proofs.Valued.{are_samples, timed_known, end_few, level_timed, count_timed}

length_some : (clock : ℕ) → 1 ≤ clock → clock ≤ 2000000000000 → 1 ≤ state_length clock
length_some clock goes slow = by (2000000000000 / clock) (lt-div-mul-add goes)
  where
    by : (n : ℕ) → 2000000000000 < n * clock + clock → 1 ≤ n
    by zero h = absurd (omega (arith, h, slow))
    by (suc n) h = omega arith

abbrev shown_in_run : Run → Shown
shown_in_run run = shown_of run.clock run.drives run.samples

abbrev steps_in : Run → List Seen
steps_in run = steps_of run.drives run.lines

abbrev spans_in : Run → List Span
spans_in run = spans_with [] run.lines

spans_sound : (run : Run) → IsShownRun run → AreSpans 0 (spans_in run)
spans_sound run is = are_spans (start_place 0) [] run.lines is.whole.follow (omega arith) tt

run_sound : (run : Run) → IsShownRun run → IsSound (shown_in_run run) (steps_in run)
run_sound run is =
    let vs = variables_of run.drives run.samples in
    let start = start_levels run.drives 0 in
    let known = shown_known run.drives run.samples in
    record {
      variables = known;
      changes = timed_known run.samples (end_by 0 (steps_in run)) (changes_by vs true 0 start (steps_in run)) (are_samples run.samples is.values.values) (end_few 0 (steps_in run) (omega arith))
          (subst (λ steps. AreKnown (changes_by vs true 0 start steps)) (sym (steps_spans run.drives 0 [] run.lines)) (spans_known vs true 0 start run.drives 0 (spans_in run) known (omega arith) (spans_sound run is)));
      goes = length_some run.clock is.goes is.slow;
      slow = div-le_self 2000000000000 run.clock;
    }

-- the life, and when its state is, by the spans
life_there : (run : Run) (count t : ℕ) (life : Life) → IsIn count life t run → slice_get (span_lives run.drives 0 (spans_in run)) count ≡ Some life
life_there run count t life there = subst (λ lives. slice_get lives count ≡ Some life) (lives_spans run.drives 0 [] run.lines) there.place

time_there : (run : Run) (count t : ℕ) → begin_of count (lives_in run) + t ≡ 0 + (begin_of count (span_lives run.drives 0 (spans_in run)) + t)
time_there run count t = let same = ap (begin_of count) (lives_spans run.drives 0 [] run.lines) in omega (arith, same)

pub run_levels : DumpsShowLevels
run_levels run count t life signal is there shown =
    let vs = variables_of run.drives run.samples in
    let start = start_levels run.drives 0 in
    let time = begin_of count (lives_in run) + t in
    let test : ℕ → Bool = λ at. leb at time in
    let member = signal_there run.drives run.samples signal shown in
    shown_changes.levels (shown_in_run run) (steps_in run) signal time (run_sound run is) member
    ∙ ap (λ l. Some l) (level_timed signal (start signal) test run.samples (end_by 0 (steps_in run)) (changes_by vs true 0 start (steps_in run))
    ∙ ap (λ (steps : List Seen). level_behind signal (start signal) (picked test (changes_by vs true 0 start steps))) (steps_spans run.drives 0 [] run.lines)
    ∙ spans_level signal vs run.drives (spans_in run) true 0 0 count t time start life member (spans_sound run is) refl (omega arith) (life_there run count t life there) there.state (time_there run count t))

pub run_values : DumpsShowValues
run_values run count t channel life is there less has =
    let vs = variables_of run.drives run.samples in
    let start = start_levels run.drives 0 in
    let time = begin_of count (lives_in run) + t in
    let end_spans = spans_end run.drives (spans_in run) 0 0 count t time life (spans_sound run is) refl (omega arith) (life_there run count t life there) there.state (time_there run count t) in
    let end : time < end_by 0 (steps_in run) = subst (λ steps. time < end_by 0 steps) (sym (steps_spans run.drives 0 [] run.lines)) end_spans in
    shown_changes.values (shown_in_run run) (steps_in run) channel time (run_sound run is) (channel_there run.drives run.samples channel less has)
    ∙ ap (λ n. Some n) (value_timed channel time (end_by 0 (steps_in run)) run.samples (changes_by vs true 0 start (steps_in run)) is.values.order end (steps_none vs true 0 start (steps_in run)))

event_counts : (run : Run) (count t : ℕ) (life : Life) (event : Variable) (wanted : What → Bool) → IsShownRun run → IsIn count life t run → IsEvent event → Member event (variables_of run.drives run.samples) → Shows event wanted →
    count_described (dump_for run) (time_of count t run) (name_of event) ≡ Some (count_in wanted t life)
event_counts run count t life event wanted is there high member shows =
    let vs = variables_of run.drives run.samples in
    let start = start_levels run.drives 0 in
    let time = begin_of count (lives_in run) + t in
    let test : ℕ → Bool = λ at. eqb at time in
    shown_changes.events (shown_in_run run) (steps_in run) event time (run_sound run is) high member
    ∙ ap (λ n. Some n) (count_timed event test run.samples (end_by 0 (steps_in run)) (changes_by vs true 0 start (steps_in run))
    ∙ ap (λ (steps : List Seen). count_among event (picked test (changes_by vs true 0 start steps))) (steps_spans run.drives 0 [] run.lines)
    ∙ spans_count event wanted shows vs run.drives (spans_in run) true 0 0 count t time start life (spans_sound run is) refl (omega arith) (life_there run count t life there) there.state (time_there run count t))

pub run_events : DumpsShowEvents
run_events = record {
  entries = λ run count t number life is there less. event_counts run count t life (Entry number) (is_entry number) is there (omega arith) (entry_there run.drives run.samples number less) (entry_shows number less);
  transfers = λ run count t number life is there less. event_counts run count t life (Transfer number) (is_transfer number) is there (omega arith) (transfer_there run.drives run.samples number less) (transfer_shows number less);
}

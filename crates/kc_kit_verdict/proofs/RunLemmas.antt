-- What the rules of a file have seen of a run: its lives.
use Rattle.std.proofs.Common.{◌≡◌, ℕ, zero, suc, ◌+◌, ◌<◌, ◌≤◌, ◌^◌, ◌⊎◌, inl, inr, true, false, List, [], ◌∷◌, ◌++◌, length, map, filter, get_or, refl, sym, ap, subst, ◌∙◌, append_assoc, append-nil, arith}
use Rattle.std.specs.Prelude.{nat_le}
use Rattle.std.proofs.lemmas.Bool.{leb-true, and_parts}
use Rattle.kc_base.specs.Limits.{max_states}
use Rattle.kc_base.specs.declared.types.Level.{Level}
use Rattle.kc_trace.specs.declared.life.Signal.{Signal}
use Rattle.kc_trace.specs.declared.life.What.{What}
use Rattle.kc_trace.specs.declared.life.Event.{Event}
use Rattle.kc_trace.specs.Lives.{Life, State, AreStatesFrom}
use Rattle.kc_stim.specs.Drives.{Drives}
use Rattle.kc_base.specs.declared.types.Undefined.{Undefined}
use Rattle.kc_trace.specs.declared.record.Record.{Record}
use Rattle.kc_trace.specs.declared.record.Record.TheVariants.{Pin, Entered, Served, Undef, Stopped, Pc, Psw, Wsr, Registers}
use Rattle.kc_rules.specs.declared.rule.Rule.{Rule}
use Rattle.kc_rules.specs.Lines.{Book}
use Rattle.kc_events.specs.declared.line.Line.{Line}
use Rattle.kc_events.specs.declared.line.Line.TheVariants.{Printed, Restarted}
use Rattle.kc_events.specs.declared.reader.Stage.{Stage}
use Rattle.kc_events.specs.declared.reader.Stage.TheVariants as stage
use Rattle.kc_events.specs.Grammar.{Place, start_place, AreLines, place_after, after_line, is_over, is_of_life, is_break, may_print, may_restart, next_stage, IsRun}
use Rattle.kc_events.specs.Lives.{input_edges, start_levels, levels_after, reported_in, states_from, life_of, event_of, end_event, count_at, restart_event, lives_with, lives_of}
use Rattle.kc_events.specs.Steps.{Seen, Begins, Passes, Ends, passes, seen_of, steps_with}
use Rattle.kc_events.proofs.LifeLemmas.{moving, events_moving}
use Rattle.kc_monitor_forms.specs.Tallies.{one_more}
use Rattle.kc_monitor.specs.declared.monitor.Monitor.{Monitor}
use Rattle.kc_monitor.specs.declared.watch.Watch.{Watch}
use Rattle.kc_monitor.specs.Verdicts.{tally_of}
use Rattle.kc_monitor.specs.Reported.{AreStatesUpTo}
use Rattle.kc_monitor.specs.Watching.{AllThree, IsStart}
use Rattle.kc_monitor.specs.Watches.{IsNew, IsBegin, IsOver}
use Rattle.kc_monitor.specs.AllLives.{ReportedLife, life_reported, IsReportedLife, AreReportedLives, Sees, SeesAll}
use Rattle.kc_monitor.proofs.RowLemmas.{three_at, three_third}
use Rattle.kc_monitor.proofs.AllLivesLemmas.{all_reported, all_kept}
use Rattle.kc_kit_verdict.specs.Runs.{is_restart, count_lives, tally_in}
use Rattle.kc_kit_verdict.specs.Watched.{HasWatched, HaveSeen, RunsAreSeen}

-- ---- the states of a life

-- the states in which anything happens were seen, and the end, and these steps behind it
record IsPassed (states : List State) (last : ℕ) (rest : List Seen) (v w : Watch) : Type 0 where
  passed : Watch
  ended : Watch
  sees : Sees (moving states) v passed
  over : IsOver last passed ended
  others : HasWatched ended rest w

passes_seen : (states : List State) (last : ℕ) (rest : List Seen) (v w : Watch) → HasWatched v (passes states ++ Ends last ∷ rest) w → IsPassed states last rest v w
unfolding HasWatched Sees
passes_seen [] last rest v w h = record { passed = v; ended = h.0; sees = refl; over = h.1; others = h.2 }
passes_seen (s ∷ states) last rest v w h = by s.whats h (λ u g. passes_seen states last rest u w g)
  where
    by : (whats : List What) → HasWatched v (passes (record { at = s.at; whats = whats } ∷ states) ++ Ends last ∷ rest) w →
        ((u : Watch) → HasWatched u (passes states ++ Ends last ∷ rest) w → IsPassed states last rest u w) → IsPassed (record { at = s.at; whats = whats } ∷ states) last rest v w
    by [] h others =
        let r = others v h in
        record { passed = r.passed; ended = r.ended; sees = r.sees; over = r.over; others = r.others }
    by (x ∷ whats) h others =
        let r = others h.0 h.2 in
        record { passed = r.passed; ended = r.ended; sees = (h.0, h.1, r.sees); over = r.over; others = r.others }

moving_from : (d : Drives) (base : ℕ) (reported : List Event) (more first t : ℕ) (levels : Signal → Level) → first ≤ t → AreStatesFrom first (moving (states_from d base reported more t levels))
unfolding states_from AreStatesFrom
moving_from d base reported zero first t levels less = none first
  where
    none : (n : ℕ) → AreStatesFrom n []
    none n = tt
moving_from d base reported (suc more) first t levels less =
    let whats = input_edges d levels (base + t) ++ reported_in t reported in
    let after = levels_after levels whats in
    by whats (states_from d base reported more (t + 1) after)
    (λ n is. moving_from d base reported more n (t + 1) after is)
  where
    by : (whats : List What) (others : List State) → ((n : ℕ) → n ≤ t + 1 → AreStatesFrom n (moving others)) → AreStatesFrom first (moving (record { at = t; whats = whats } ∷ others))
    by [] others h = h first (omega (arith, less))
    by (x ∷ whats) others h = (less, h (t + 1) (omega arith))

moving_upto : (d : Drives) (base : ℕ) (reported : List Event) (more t last : ℕ) (levels : Signal → Level) → t + more ≤ last + 1 → AreStatesUpTo last (moving (states_from d base reported more t levels))
unfolding states_from AreStatesUpTo
moving_upto d base reported zero t last levels less = none last
  where
    none : (n : ℕ) → AreStatesUpTo n []
    none n = tt
moving_upto d base reported (suc more) t last levels less =
    let whats = input_edges d levels (base + t) ++ reported_in t reported in
    let after = levels_after levels whats in
    by whats (states_from d base reported more (t + 1) after) (omega (arith, less)) (moving_upto d base reported more (t + 1) last after (omega (arith, less)))
  where
    by : (whats : List What) (others : List State) → t ≤ last → AreStatesUpTo last (moving others) → AreStatesUpTo last (moving (record { at = t; whats = whats } ∷ others))
    by [] others is h = h
    by (x ∷ whats) others is h = (is, h)

-- ---- one life

abbrev reported_life : Drives → ℕ → List Event → ℕ → ReportedLife
reported_life d base reported last = record {
  start = start_levels d base;
  states = moving (states_from d base reported (suc last) 0 (start_levels d base));
  last = last;
}

is_reported : (d : Drives) (base : ℕ) (reported : List Event) (last : ℕ) → last ≤ max_states → IsReportedLife (reported_life d base reported last)
is_reported d base reported last short = record {
  order = moving_from d base reported (suc last) 0 0 (start_levels d base) (omega arith);
  within = moving_upto d base reported (suc last) 0 last (start_levels d base) (omega arith);
  short = omega (arith, short);
}

-- ---- lives one behind the other

-- so many lives are whole, and of the last one none or only its begin was seen
abbrev IsEnded : ℕ → ℕ → Watch → Watch → Type 0
IsEnded whole count v w = ((w ≡ v) × (whole ≡ count)) ⊎ ((levels : Signal → Level) × IsBegin levels v w × (whole + 1 ≡ count))

-- these lives were seen, of so many
record HasSeen (all : List Life) (count : ℕ) (v w : Watch) : Type 0 where
  lives : List ReportedLife
  behind : Watch
  seen : SeesAll lives v behind
  are : AreReportedLives lives
  same : map life_reported lives ≡ all
  ended : IsEnded (length lives) count behind w

one_more_ended : (whole count : ℕ) (v w : Watch) → IsEnded whole count v w → IsEnded (suc whole) (count + 1) v w
one_more_ended whole count v w (inl h) = inl (h.0, omega (arith, h.1))
one_more_ended whole count v w (inr h) = inr (h.0, h.1, omega (arith, h.2))

-- a life with others behind it
life_seen : (d : Drives) (base : ℕ) (reported : List Event) (n : ℕ) (rest : List Seen) (others : List Life) (count : ℕ) (v w : Watch) → 0 < n → n ≤ max_states + 1 →
    ((u : Watch) → HasWatched u rest w → HasSeen others count u w) → HasWatched v (seen_of d base reported n ++ rest) w → HasSeen (life_of d base reported n ++ others) (count + 1) v w
unfolding HasWatched SeesAll AreReportedLives
life_seen d base reported zero rest others count v w some short goes h = absurd (omega (arith, some))
life_seen d base reported (suc last) rest others count v w some short goes h =
    let states = states_from d base reported (suc last) 0 (start_levels d base) in
    let begun = h.0 in
    let split = passes_seen states last rest begun w (subst (λ steps. HasWatched begun steps w) (append_assoc (passes states) (Ends last ∷ []) rest) h.2) in
    let r = goes split.ended split.others in
    record {
      lives = reported_life d base reported last ∷ r.lives;
      behind = r.behind;
      seen = (begun, split.passed, split.ended, h.1, split.sees, split.over, r.seen);
      are = (is_reported d base reported last (omega (arith, short)), r.are);
      same = λ i. record { start = start_levels d base; events = events_moving states i; last = last } ∷ r.same i;
      ended = one_more_ended (length r.lives) count r.behind w r.ended;
    }

-- nothing more
none_seen : (u w : Watch) → HasWatched u [] w → HasSeen [] 0 u w
unfolding HasWatched SeesAll AreReportedLives
none_seen u w h = record { lives = []; behind = u; seen = refl; are = tt; same = refl; ended = inl (h, refl) }

-- the last life
last_seen : (d : Drives) (base : ℕ) (reported : List Event) (n : ℕ) (v w : Watch) → n ≤ max_states + 1 → HasWatched v (seen_of d base reported n) w → HasSeen (life_of d base reported n) 1 v w
unfolding HasWatched SeesAll AreReportedLives
last_seen d base reported zero v w short h = record {
  lives = [];
  behind = v;
  seen = refl;
  are = tt;
  same = refl;
  ended = inr (start_levels d base, subst (λ u. IsBegin (start_levels d base) v u) (sym h.2) h.1, refl);
}
last_seen d base reported (suc last) v w short h =
    let all = seen_of d base reported (suc last) in
    let r = life_seen d base reported (suc last) [] [] 0 v w (omega arith) short (λ u g. none_seen u w g) (subst (λ steps. HasWatched v steps w) (sym (append-nil all)) h) in
    record { lives = r.lives; behind = r.behind; seen = r.seen; are = r.are; same = r.same; ended = r.ended }

-- ---- the lines of a run

differ : false ≡ true → ⊥
differ e = absurd cc

over_next : (s : Stage) → is_over s ≡ true → is_over (next_stage s) ≡ true
over_next stage.Living over = absurd (differ over)
over_next (stage.Broken t) over = absurd (differ over)
over_next (stage.Over n) over = refl

none_undefined : (p : Place) (s : Stage) (what : Undefined) → is_over s ≡ true → may_print p s (Undef what) ≡ true → ⊥
none_undefined p stage.Living what over fits = differ over
none_undefined p (stage.Broken t) what over fits = differ over
none_undefined p (stage.Over n) what over fits = differ fits

none_restart : (p : Place) (s : Stage) (at : ℕ) → is_over s ≡ true → may_restart p s at ≡ true → ⊥
none_restart p stage.Living at over fits = differ over
none_restart p (stage.Broken t) at over fits = differ over
none_restart p (stage.Over n) at over fits = differ fits

still_over : (p : Place) (item : Record) → is_over p.stage ≡ true → may_print p p.stage item ≡ true → is_over (after_line p (Printed item)).stage ≡ true
still_over p (Pin at edge) over fits = over
still_over p (Entered at vector back) over fits = over
still_over p (Served at vector mode count) over fits = over
still_over p (Undef what) over fits = absurd (none_undefined p p.stage what over fits)
still_over p (Stopped at how) over fits = over_next p.stage over
still_over p (Pc value) over fits = over_next p.stage over
still_over p (Psw value) over fits = over_next p.stage over
still_over p (Wsr value) over fits = over_next p.stage over
still_over p (Registers base bytes) over fits = over_next p.stage over

-- behind the end of a run no life begins
none_restarted : (p : Place) (lines : List Line) → is_over p.stage ≡ true → AreLines p lines → filter is_restart lines ≡ []
unfolding AreLines
none_restarted p [] over h = refl
none_restarted p (Printed item ∷ lines) over h = none_restarted (after_line p (Printed item)) lines (still_over p item over h.0.fits) h.1
none_restarted p (Restarted at by_watchdog ∷ lines) over h = absurd (none_restart p p.stage at over h.0.fits)

-- and before it nothing stands that comes behind it
none_behind : (p : Place) (s : Stage) (item : Record) → is_over s ≡ false → is_of_life p item ≡ false → ((at : ℕ) → is_break at item ≡ false) → may_print p s item ≡ true → ⊥
none_behind p stage.Living item going life breaks fits = differ (sym life ∙ fits)
none_behind p (stage.Broken t) item going life breaks fits = differ (sym (breaks t) ∙ fits)
none_behind p (stage.Over n) item going life breaks fits = differ (sym going)

count_short : (at how : ℕ) → at ≤ max_states → count_at at how ≤ max_states + 1
count_short at zero short = omega (arith, short)
count_short at (suc how) short = omega (arith, short)

run_behind : (p : Place) (line : Line) (lines : List Line) → IsRun p (line ∷ lines) → IsRun (after_line p line) lines
unfolding AreLines place_after
run_behind p line lines run = record { follow = run.follow.1; whole = run.whole }

run_seen : (p : Place) (d : Drives) (base : ℕ) (reported : List Event) (lines : List Line) (v w : Watch) → is_over p.stage ≡ false → IsRun p lines →
    HasWatched v (steps_with d base reported lines) w → HasSeen (lives_with d base reported lines) (count_lives lines) v w
unfolding AreLines place_after steps_with lives_with
run_seen p d base reported [] v w going run h = absurd (differ (sym going ∙ run.whole))
run_seen p d base reported (Printed (Pin at edge) ∷ lines) v w going run h =
    run_seen (after_line p (Printed (Pin at edge))) d base (reported ++ event_of (Pin at edge)) lines v w going (run_behind p (Printed (Pin at edge)) lines run) h
run_seen p d base reported (Printed (Entered at vector back) ∷ lines) v w going run h =
    run_seen (after_line p (Printed (Entered at vector back))) d base (reported ++ event_of (Entered at vector back)) lines v w going (run_behind p (Printed (Entered at vector back)) lines run) h
run_seen p d base reported (Printed (Served at vector mode count) ∷ lines) v w going run h =
    run_seen (after_line p (Printed (Served at vector mode count))) d base (reported ++ event_of (Served at vector mode count)) lines v w going (run_behind p (Printed (Served at vector mode count)) lines run) h
run_seen p d base reported (Printed (Undef what) ∷ lines) v w going run h =
    run_seen (after_line p (Printed (Undef what))) d base (reported ++ event_of (Undef what)) lines v w refl (run_behind p (Printed (Undef what)) lines run) h
run_seen p d base reported (Printed (Stopped at how) ∷ lines) v w going run h =
    let behind = run_behind p (Printed (Stopped at how)) lines run in
    let none = none_restarted (after_line p (Printed (Stopped at how))) lines (over_stopped p.stage going) behind.follow in
    let last = last_seen d base (reported ++ end_event at how) (count_at at how) v w (count_short at how run.follow.0.sound.1) h in
    subst (λ (restarts : List Line). HasSeen (life_of d base (reported ++ end_event at how) (count_at at how)) (length restarts + 1) v w) (sym none) last
  where
    over_stopped : (s : Stage) → is_over s ≡ false → is_over (next_stage s) ≡ true
    over_stopped stage.Living is = refl
    over_stopped (stage.Broken t) is = refl
    over_stopped (stage.Over n) is = refl
run_seen p d base reported (Printed (Pc value) ∷ lines) v w going run h = absurd (none_behind p p.stage (Pc value) going refl (λ at. refl) run.follow.0.fits)
run_seen p d base reported (Printed (Psw value) ∷ lines) v w going run h = absurd (none_behind p p.stage (Psw value) going refl (λ at. refl) run.follow.0.fits)
run_seen p d base reported (Printed (Wsr value) ∷ lines) v w going run h = absurd (none_behind p p.stage (Wsr value) going refl (λ at. refl) run.follow.0.fits)
run_seen p d base reported (Printed (Registers at bytes) ∷ lines) v w going run h = absurd (none_behind p p.stage (Registers at bytes) going refl (λ at. refl) run.follow.0.fits)
run_seen p d base reported (Restarted at by_watchdog ∷ lines) v w going run h =
    let short : at ≤ max_states = run.follow.0.sound in
    let behind = run_behind p (Restarted at by_watchdog) lines run in
    let with_restart = reported ++ restart_event at by_watchdog ∷ [] in
    let more : length (filter is_restart lines) + 1 + 1 ≡ suc (length (filter is_restart lines)) + 1 = omega arith in
    subst (λ n. HasSeen (life_of d base with_restart (at + 1) ++ lives_with d (base + at + 1) [] lines) n v w) more
    (life_seen d base with_restart (at + 1) (steps_with d (base + at + 1) [] lines) (lives_with d (base + at + 1) [] lines) (count_lives lines) v w (omega arith) (omega (arith, short))
    (λ u g. run_seen (start_place (p.base + at + 1)) d (base + at + 1) [] lines u w refl behind g) h)

-- ---- how many lives

same_base : (p : Place) (item : Record) → (after_line p (Printed item)).base ≡ p.base
same_base p (Pin at edge) = refl
same_base p (Entered at vector back) = refl
same_base p (Served at vector mode count) = refl
same_base p (Undef what) = refl
same_base p (Stopped at how) = refl
same_base p (Pc value) = refl
same_base p (Psw value) = refl
same_base p (Wsr value) = refl
same_base p (Registers base bytes) = refl

restart_early : (p : Place) (s : Stage) (at : ℕ) → may_restart p s at ≡ true → p.base + at ≤ max_states
restart_early p stage.Living at fits = leb-true (p.base + at) max_states (and_parts (nat_le p.past (at + 1)) (nat_le (p.base + at) max_states) fits).1
restart_early p (stage.Broken t) at fits = absurd (differ fits)
restart_early p (stage.Over n) at fits = absurd (differ fits)

few_restarts : (p : Place) (lines : List Line) → p.base ≤ max_states + 1 → AreLines p lines → length (filter is_restart lines) + p.base ≤ max_states + 1
unfolding AreLines
few_restarts p [] early h = omega (arith, early)
few_restarts p (Printed item ∷ lines) early h =
    let same = same_base p item in
    let few = few_restarts (after_line p (Printed item)) lines (subst (λ n. n ≤ max_states + 1) (sym same) early) h.1 in
    subst (λ n. length (filter is_restart lines) + n ≤ max_states + 1) same few
few_restarts p (Restarted at by_watchdog ∷ lines) early h =
    let now = restart_early p p.stage at h.0.fits in
    let few : length (filter is_restart lines) + (p.base + at + 1) ≤ max_states + 1 = few_restarts (start_place (p.base + at + 1)) lines (omega (arith, now)) h.1 in
    let goal : suc (length (filter is_restart lines)) + p.base ≤ max_states + 1 = omega (arith, few) in
    goal

few_lives : (lines : List Line) → AreLines (start_place 0) lines → count_lives lines ≤ max_states + 2
few_lives lines h =
    let few : length (filter is_restart lines) + 0 ≤ max_states + 1 = few_restarts (start_place 0) lines (omega arith) h in
    omega (arith, few)

-- ---- each rule with its monitor

-- a monitor has counted these lives, and has what became of what its rule asks of them
abbrev HasCounted : Book → ℕ → List Life → Rule → Monitor → Type 0
HasCounted book count lives rule m = (m.life ≡ count) × (m.tally ≡ tally_in book lives rule)

have_seen : (book : Book) (count : ℕ) (lives : List Life) (rules : List Rule) (monitors : List Monitor) → (0 < length rules → length monitors ≡ length rules) →
    ((k : ℕ) → k < length rules → (r : Rule) (m : Monitor) → HasCounted book count lives (get_or rules k r) (get_or monitors k m)) → HaveSeen book count lives rules monitors
unfolding HaveSeen
have_seen book count lives [] monitors many all = tt
have_seen book count lives (rule ∷ rules) [] many all = let none = many (omega arith) in absurd (omega (arith, none))
have_seen book count lives (rule ∷ rules) (m ∷ monitors) many all =
    let first = all 0 (omega arith) rule m in (
      first.0,
      first.1,
      have_seen book count lives rules monitors (λ some. let same = many (omega arith) in omega (arith, same)) (λ k less r n. all (suc k) (omega (arith, less)) r n),
    )

record Ended (book : Book) (count : ℕ) (lives : List Life) (w : Watch) : Type 0 where
  many : 0 < length book.rules → length w.monitors.items ≡ length book.rules
  each : (k : ℕ) → k < length book.rules → (r : Rule) (m : Monitor) → HasCounted book count lives (get_or book.rules k r) (get_or w.monitors.items k m)

ended_seen : (book : Book) (all : List Life) (count : ℕ) (v w : Watch) (lives : List ReportedLife) (behind : Watch) → IsNew book.marks book.rules v → SeesAll lives v behind → AreReportedLives lives →
    map life_reported lives ≡ all → count ≤ max_states + 2 → IsEnded (length lives) count behind w → Ended book count all w
ended_seen book all count v w lives behind new sees are same few (inl h) =
    let short : length lives < 2 ^ 63 = omega (arith, few, h.1) in
    record {
      many = λ some. ap (λ (u : Watch). length u.monitors.items) h.0 ∙ (all_kept lives v behind book.marks book.rules new sees are short some).1;
      each = λ k less r m.
          let seen = all_reported lives v behind book.marks book.rules k r m new sees are short less in (
            ap (λ (u : Watch). (get_or u.monitors.items k m).life) h.0 ∙ seen.0 ∙ h.1,
            ap (λ (u : Watch). (get_or u.monitors.items k m).tally) h.0 ∙ seen.1 ∙ ap (λ (ls : List Life). tally_of book.marks (get_or book.rules k r) ls) same,
          );
    }
ended_seen book all count v w lives behind new sees are same few (inr h) =
    let short : length lives < 2 ^ 63 = omega (arith, few, h.2) in
    let starts : 0 < length book.rules → AllThree (IsStart h.0) book.rules behind.monitors.items w.monitors.items = λ some.
    let kept = all_kept lives v behind book.marks book.rules new sees are short some in
    let rules : behind.rules.rules ≡ book.rules = ap (λ b. b.rules) kept.0 ∙ new.rules_are in
    subst (λ rs. AllThree (IsStart h.0) rs behind.monitors.items w.monitors.items) rules (h.1.monitors (ap length rules ∙ sym kept.1)) in
    record {
      many = λ some. three_third (IsStart h.0) book.rules behind.monitors.items w.monitors.items (starts some);
      each = λ k less r m.
          let seen = all_reported lives v behind book.marks book.rules k r m new sees are short less in
          let start = three_at (IsStart h.0) book.rules behind.monitors.items w.monitors.items k r m m (starts (omega (arith, less))) less in
          let life : (get_or w.monitors.items k m).life ≡ count = start.life ∙ ap one_more seen.0 ∙ omega (arith, short, h.2) in
          (life, start.tally ∙ seen.1 ∙ ap (λ (ls : List Life). tally_of book.marks (get_or book.rules k r) ls) same);
    }

pub runs_are_seen : RunsAreSeen
runs_are_seen book d lines v w run new h =
    let seen = run_seen (start_place 0) d 0 [] lines v w refl run h in
    let ended = ended_seen book (lives_of d lines) (count_lives lines) v w seen.lives seen.behind new seen.seen seen.are seen.same (few_lives lines run.follow) seen.ended in
    have_seen book (count_lives lines) (lives_of d lines) book.rules w.monitors.items ended.many ended.each

-- the rules stay
pub rules_stay : (steps : List Seen) (v w : Watch) → HasWatched v steps w → w.rules ≡ v.rules
unfolding HasWatched
rules_stay [] v w h = ap (λ (u : Watch). u.rules) h
rules_stay (Begins levels ∷ steps) v w h = rules_stay steps h.0 w h.2 ∙ h.1.rules
rules_stay (Passes state ∷ steps) v w h = rules_stay steps h.0 w h.2 ∙ h.1.rules
rules_stay (Ends last ∷ steps) v w h = rules_stay steps h.0 w h.2 ∙ h.1.rules

-- The lives of a run, by its steps.
use Rattle.std.proofs.Common.{◌≡◌, ℕ, zero, suc, ◌+◌, ◌≤◌, List, [], ◌∷◌, ◌++◌, filter, not, refl, sym, ap, ◌∙◌, append_assoc, append-nil, arith}
use Rattle.std.specs.Prelude.{All}
use Rattle.std.proofs.lemmas.List.Elements.{All-nil, All-cons}
use Rattle.kc_base.specs.Limits.{max_states}
use Rattle.kc_base.specs.declared.types.Level.{Level}
use Rattle.kc_trace.specs.declared.life.Signal.{Signal}
use Rattle.kc_trace.specs.declared.life.What.{What}
use Rattle.kc_trace.specs.declared.life.Event.{Event}
use Rattle.kc_trace.specs.Lives.{Life, State, IsLife, IsOrderedFrom, IsUpTo, events_in, events_of}
use Rattle.kc_stim.specs.Drives.{Drives}
use Rattle.kc_trace.specs.declared.record.Record.TheVariants.{Pin, Entered, Served, Undef, Stopped, Pc, Psw, Wsr, Registers}
use Rattle.kc_events.specs.declared.line.Line.{Line}
use Rattle.kc_events.specs.declared.line.Line.TheVariants.{Printed, Restarted}
use Rattle.kc_events.specs.Grammar.{Place, start_place, AreLines, after_line}
use Rattle.kc_events.specs.Lives.{input_edges, start_levels, levels_after, reported_in, states_from, life_of, event_of, end_event, count_at, restart_event, lives_with}
use Rattle.kc_events.specs.Steps.{Seen, Ends, is_still, passes, seen_of, steps_with, lives_seen}
use Rattle.kc_events.specs.Laws.{StepsMakeLives, LivesAreLives}

-- ---- the steps of a life make it up

-- the states in which anything happens
abbrev pub moving : List State → List State
moving states = filter (λ s. not (is_still s.whats)) states

pub events_moving : (states : List State) → events_of (moving states) ≡ events_of states
events_moving [] = refl
events_moving (s ∷ states) = by s.whats (events_moving states)
  where
    by : (whats : List What) → events_of (moving states) ≡ events_of states → events_of (moving (record { at = s.at; whats = whats } ∷ states)) ≡ events_in s.at whats ++ events_of states
    by [] others = others
    by (w ∷ whats) others = ap (λ (events : List Event). events_in s.at (w ∷ whats) ++ events) others

seen_passes : (start : Signal → Level) (before states : List State) (rest : List Seen) → lives_seen start before (passes states ++ rest) ≡ lives_seen start (before ++ moving states) rest
seen_passes start before [] rest = ap (λ (all : List State). lives_seen start all rest) (sym (append-nil before))
seen_passes start before (s ∷ states) rest = by s.whats (λ more. seen_passes start more states rest)
  where
    by : (whats : List What) → ((more : List State) → lives_seen start more (passes states ++ rest) ≡ lives_seen start (more ++ moving states) rest) → lives_seen start before (passes (record { at = s.at; whats = whats } ∷ states) ++ rest) ≡ lives_seen start (before ++ moving (record { at = s.at; whats = whats } ∷ states)) rest
    by [] others = others before
    by (w ∷ whats) others =
        let t : State = record { at = s.at; whats = w ∷ whats } in
        others (before ++ t ∷ []) ∙ ap (λ (all : List State). lives_seen start all rest) (append_assoc before (t ∷ []) (moving states))

seen_life : (d : Drives) (base : ℕ) (reported : List Event) (count : ℕ) (start : Signal → Level) (rest : List Seen) (lives : List Life) → ((other : Signal → Level) → lives_seen other [] rest ≡ lives) →
    lives_seen start [] (seen_of d base reported count ++ rest) ≡ life_of d base reported count ++ lives
seen_life d base reported zero start rest lives others = others (start_levels d base)
seen_life d base reported (suc last) start rest lives others =
    let states = states_from d base reported (suc last) 0 (start_levels d base) in
    ap (lives_seen (start_levels d base) []) (append_assoc (passes states) (Ends last ∷ []) rest)
    ∙ seen_passes (start_levels d base) [] states (Ends last ∷ rest)
    ∙ (λ i. record { start = start_levels d base; events = events_moving states i; last = last } ∷ others (start_levels d base) i)

seen_last : (d : Drives) (base : ℕ) (reported : List Event) (count : ℕ) (start : Signal → Level) → lives_seen start [] (seen_of d base reported count) ≡ life_of d base reported count
seen_last d base reported count start =
    ap (lives_seen start []) (sym (append-nil (seen_of d base reported count))) ∙ seen_life d base reported count start [] [] (λ other. refl) ∙ append-nil (life_of d base reported count)

seen_with : (d : Drives) (base : ℕ) (reported : List Event) (lines : List Line) (start : Signal → Level) → lives_seen start [] (steps_with d base reported lines) ≡ lives_with d base reported lines
unfolding steps_with lives_with
seen_with d base reported [] start = refl
seen_with d base reported (Printed (Pin at edge) ∷ lines) start = seen_with d base (reported ++ event_of (Pin at edge)) lines start
seen_with d base reported (Printed (Entered at vector back) ∷ lines) start = seen_with d base (reported ++ event_of (Entered at vector back)) lines start
seen_with d base reported (Printed (Served at vector mode count) ∷ lines) start = seen_with d base (reported ++ event_of (Served at vector mode count)) lines start
seen_with d base reported (Printed (Undef what) ∷ lines) start = seen_with d base (reported ++ event_of (Undef what)) lines start
seen_with d base reported (Printed (Stopped at how) ∷ lines) start = seen_last d base (reported ++ end_event at how) (count_at at how) start
seen_with d base reported (Printed (Pc value) ∷ lines) start = seen_with d base (reported ++ []) lines start
seen_with d base reported (Printed (Psw value) ∷ lines) start = seen_with d base (reported ++ []) lines start
seen_with d base reported (Printed (Wsr value) ∷ lines) start = seen_with d base (reported ++ []) lines start
seen_with d base reported (Printed (Registers at bytes) ∷ lines) start = seen_with d base (reported ++ []) lines start
seen_with d base reported (Restarted at by_watchdog ∷ lines) start =
    seen_life d base (reported ++ restart_event at by_watchdog ∷ []) (at + 1) start (steps_with d (base + at + 1) [] lines) (lives_with d (base + at + 1) [] lines) (λ other. seen_with d (base + at + 1) [] lines other)

pub steps_make_lives : StepsMakeLives
steps_make_lives d lines start = seen_with d 0 [] lines start

-- ---- lives stand in the order of states

order_less : (s t : ℕ) (events : List Event) → s ≤ t → IsOrderedFrom t events → IsOrderedFrom s events
unfolding IsOrderedFrom
order_less s t [] less h = tt
order_less s t (e ∷ events) less h = (let first : t ≤ e.at = h.0 in omega (arith, first, less), h.1)

order_in : (s t : ℕ) (whats : List What) (rest : List Event) → s ≤ t → IsOrderedFrom t rest → IsOrderedFrom s (events_in t whats ++ rest)
unfolding IsOrderedFrom
order_in s t [] rest less h = order_less s t rest less h
order_in s t (w ∷ whats) rest less h = (less, order_in t t whats rest (omega arith) h)

order_from : (d : Drives) (base : ℕ) (reported : List Event) (more s t : ℕ) (levels : Signal → Level) → s ≤ t → IsOrderedFrom s (events_of (states_from d base reported more t levels))
unfolding states_from IsOrderedFrom
order_from d base reported zero s t levels less = none s
  where
    none : (s : ℕ) → IsOrderedFrom s []
    none s = tt
order_from d base reported (suc more) s t levels less =
    let whats = input_edges d levels (base + t) ++ reported_in t reported in
    let others = states_from d base reported more (t + 1) (levels_after levels whats) in
    order_in s t whats (events_of others) less (order_from d base reported more t (t + 1) (levels_after levels whats) (omega arith))

within_in : (last t : ℕ) (whats : List What) (rest : List Event) → t ≤ last → IsUpTo last rest → IsUpTo last (events_in t whats ++ rest)
unfolding IsUpTo
within_in last t [] rest less h = h
within_in last t (w ∷ whats) rest less h = (less, within_in last t whats rest less h)

within_from : (d : Drives) (base : ℕ) (reported : List Event) (more t last : ℕ) (levels : Signal → Level) → t + more ≤ last + 1 → IsUpTo last (events_of (states_from d base reported more t levels))
unfolding states_from IsUpTo
within_from d base reported zero t last levels less = none last
  where
    none : (n : ℕ) → IsUpTo n []
    none n = tt
within_from d base reported (suc more) t last levels less =
    let whats = input_edges d levels (base + t) ++ reported_in t reported in
    let others = states_from d base reported more (t + 1) (levels_after levels whats) in
    within_in last t whats (events_of others) (omega (arith, less)) (within_from d base reported more (t + 1) last (levels_after levels whats) (omega (arith, less)))

abbrev life : Drives → ℕ → List Event → ℕ → Life
life d base reported last = record {
  start = start_levels d base;
  events = events_of (states_from d base reported (suc last) 0 (start_levels d base));
  last = last;
}

life_and : (d : Drives) (base : ℕ) (reported : List Event) (count : ℕ) (others : List Life) → count ≤ max_states + 1 → All IsLife others → All IsLife (life_of d base reported count ++ others)
life_and d base reported zero others short h = h
life_and d base reported (suc last) others short h =
    All-cons IsLife (life d base reported last) others (record {
      order = order_from d base reported (suc last) 0 0 (start_levels d base) (omega arith);
      within = within_from d base reported (suc last) 0 last (start_levels d base) (omega arith);
      short = omega (arith, short);
    }) h

count_short : (at how : ℕ) → at ≤ max_states → count_at at how ≤ max_states + 1
count_short at zero short = omega (arith, short)
count_short at (suc how) short = omega (arith, short)

lives_with_order : (p : Place) (d : Drives) (base : ℕ) (reported : List Event) (lines : List Line) → AreLines p lines → All IsLife (lives_with d base reported lines)
unfolding AreLines lives_with
lives_with_order p d base reported [] h = All-nil IsLife
lives_with_order p d base reported (Printed (Pin at edge) ∷ lines) h = lives_with_order (after_line p (Printed (Pin at edge))) d base (reported ++ event_of (Pin at edge)) lines h.1
lives_with_order p d base reported (Printed (Entered at vector back) ∷ lines) h = lives_with_order (after_line p (Printed (Entered at vector back))) d base (reported ++ event_of (Entered at vector back)) lines h.1
lives_with_order p d base reported (Printed (Served at vector mode count) ∷ lines) h = lives_with_order (after_line p (Printed (Served at vector mode count))) d base (reported ++ event_of (Served at vector mode count)) lines h.1
lives_with_order p d base reported (Printed (Undef what) ∷ lines) h = lives_with_order (after_line p (Printed (Undef what))) d base (reported ++ event_of (Undef what)) lines h.1
lives_with_order p d base reported (Printed (Stopped at how) ∷ lines) h = last_life (reported ++ end_event at how) (count_at at how) (count_short at how h.0.sound.1)
  where
    last_life : (all : List Event) (count : ℕ) → count ≤ max_states + 1 → All IsLife (life_of d base all count)
    last_life all zero short = All-nil IsLife
    last_life all (suc last) short = life_and d base all (suc last) [] short (All-nil IsLife)
lives_with_order p d base reported (Printed (Pc value) ∷ lines) h = lives_with_order (after_line p (Printed (Pc value))) d base (reported ++ []) lines h.1
lives_with_order p d base reported (Printed (Psw value) ∷ lines) h = lives_with_order (after_line p (Printed (Psw value))) d base (reported ++ []) lines h.1
lives_with_order p d base reported (Printed (Wsr value) ∷ lines) h = lives_with_order (after_line p (Printed (Wsr value))) d base (reported ++ []) lines h.1
lives_with_order p d base reported (Printed (Registers at bytes) ∷ lines) h = lives_with_order (after_line p (Printed (Registers at bytes))) d base (reported ++ []) lines h.1
lives_with_order p d base reported (Restarted at by_watchdog ∷ lines) h =
    let short : at ≤ max_states = h.0.sound in
    life_and d base (reported ++ restart_event at by_watchdog ∷ []) (at + 1) (lives_with d (base + at + 1) [] lines) (omega (arith, short)) (lives_with_order (after_line p (Restarted at by_watchdog)) d (base + at + 1) [] lines h.1)

pub lives_are_lives : LivesAreLives
lives_are_lives d lines h = lives_with_order (start_place 0) d 0 [] lines h

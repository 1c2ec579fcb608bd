-- The lives of a run, each by what is reported of it and by how many states it has.
use Rattle.std.proofs.Common.{◌≡◌, ℕ, zero, suc, ◌+◌, ◌≤◌, Bool, true, false, cond, eqb, leb, ◌&&◌, not, List, [], ◌∷◌, ◌++◌, flat_map, filter, map, refl, sym, ap, subst, ◌∙◌, append-nil, arith}
use Rattle.std.specs.List.{range_with_len}
use Rattle.std.proofs.lemmas.Bool.{and_parts, leb-true, false≢true}
use Rattle.kc_base.specs.Limits.{max_states}
use Rattle.kc_base.specs.Pins.{pin_count, is_input, is_printed}
use Rattle.kc_base.specs.declared.types.Level.{Level}
use Rattle.kc_trace.specs.declared.life.Signal.{Signal}
use Rattle.kc_trace.specs.declared.life.Signal.TheVariants.{Input}
use Rattle.kc_trace.specs.declared.life.What.{What}
use Rattle.kc_trace.specs.declared.life.What.TheVariants as what
use Rattle.kc_trace.specs.declared.life.Event.{Event}
use Rattle.kc_trace.specs.Lives.{Life, State}
use Rattle.kc_stim.specs.Drives.{Drives, wire_to}
use Rattle.kc_trace.specs.declared.record.Record.TheVariants.{Pin, Entered, Served, Undef, Stopped, Pc, Psw, Wsr, Registers}
use Rattle.kc_events.specs.declared.line.Line.{Line}
use Rattle.kc_events.specs.declared.line.Line.TheVariants.{Printed, Restarted}
use Rattle.kc_events.specs.declared.reader.Stage.{Stage}
use Rattle.kc_events.specs.declared.reader.Stage.TheVariants.{Living, Broken, Over}
use Rattle.kc_events.specs.Grammar.{Place, is_in_order, same_level, may_print, may_restart, after_line, AreLines}
use Rattle.kc_events.specs.Lives.{edge_between, input_level, input_before, edge_if_input, input_edges, reported_in, levels_after, states_from, life_of, event_of, end_event, count_at, restart_event, lives_with}
use Rattle.kc_events.specs.Steps.{Seen, seen_of, steps_with}
use Rattle.kc_vcd.specs.Changes.{change_by}
use Rattle.kc_vcd.specs.Laws.{IsKnownChange}

pub data Span : Type 0 where
  Lasts : List Event → ℕ → Span

abbrev pub span_steps : Drives → ℕ → List Span → List Seen
span_steps d base [] = []
span_steps d base (Lasts reported count ∷ spans) = seen_of d base reported count ++ span_steps d (base + count) spans

abbrev pub span_lives : Drives → ℕ → List Span → List Life
span_lives d base [] = []
span_lives d base (Lasts reported count ∷ spans) = life_of d base reported count ++ span_lives d (base + count) spans

abbrev pub AreWhats : List What → Type 0
AreWhats [] = Unit {0}
AreWhats (w ∷ whats) = IsKnownChange (change_by w) × AreWhats whats

abbrev pub AreEvents : List Event → Type 0
AreEvents [] = Unit {0}
AreEvents (e ∷ events) = IsKnownChange (change_by e.what) × AreEvents events

-- states that a run may have, and what may be reported of them
abbrev pub AreSpans : ℕ → List Span → Type 0
AreSpans base [] = Unit {0}
AreSpans base (Lasts reported count ∷ spans) = (base + count ≤ 4000000000000000) × AreEvents reported × AreSpans (base + count) spans

-- ---- of lines

abbrev pub spans_with : List Event → List Line → List Span
spans_with reported [] = []
spans_with reported (Printed (Stopped at how) ∷ lines) = Lasts (reported ++ end_event at how) (count_at at how) ∷ []
spans_with reported (Printed item ∷ lines) = spans_with (reported ++ event_of item) lines
spans_with reported (Restarted at by_watchdog ∷ lines) = Lasts (reported ++ restart_event at by_watchdog ∷ []) (at + 1) ∷ spans_with [] lines

pub steps_spans : (d : Drives) (base : ℕ) (reported : List Event) (lines : List Line) → steps_with d base reported lines ≡ span_steps d base (spans_with reported lines)
unfolding steps_with
steps_spans d base reported [] = refl
steps_spans d base reported (Printed (Pin at edge) ∷ lines) = steps_spans d base (reported ++ event_of (Pin at edge)) lines
steps_spans d base reported (Printed (Entered at vector back) ∷ lines) = steps_spans d base (reported ++ event_of (Entered at vector back)) lines
steps_spans d base reported (Printed (Served at vector mode count) ∷ lines) = steps_spans d base (reported ++ event_of (Served at vector mode count)) lines
steps_spans d base reported (Printed (Undef what) ∷ lines) = steps_spans d base (reported ++ event_of (Undef what)) lines
steps_spans d base reported (Printed (Stopped at how) ∷ lines) = sym (append-nil (seen_of d base (reported ++ end_event at how) (count_at at how)))
steps_spans d base reported (Printed (Pc value) ∷ lines) = steps_spans d base (reported ++ []) lines
steps_spans d base reported (Printed (Psw value) ∷ lines) = steps_spans d base (reported ++ []) lines
steps_spans d base reported (Printed (Wsr value) ∷ lines) = steps_spans d base (reported ++ []) lines
steps_spans d base reported (Printed (Registers at bytes) ∷ lines) = steps_spans d base (reported ++ []) lines
steps_spans d base reported (Restarted at by_watchdog ∷ lines) =
    let next : base + at + 1 ≡ base + (at + 1) = omega arith in
    let first = seen_of d base (reported ++ restart_event at by_watchdog ∷ []) (at + 1) in
    ap (λ (rest : List Seen). first ++ rest) (steps_spans d (base + at + 1) [] lines ∙ ap (λ b. span_steps d b (spans_with [] lines)) next)

pub lives_spans : (d : Drives) (base : ℕ) (reported : List Event) (lines : List Line) → lives_with d base reported lines ≡ span_lives d base (spans_with reported lines)
unfolding lives_with
lives_spans d base reported [] = refl
lives_spans d base reported (Printed (Pin at edge) ∷ lines) = lives_spans d base (reported ++ event_of (Pin at edge)) lines
lives_spans d base reported (Printed (Entered at vector back) ∷ lines) = lives_spans d base (reported ++ event_of (Entered at vector back)) lines
lives_spans d base reported (Printed (Served at vector mode count) ∷ lines) = lives_spans d base (reported ++ event_of (Served at vector mode count)) lines
lives_spans d base reported (Printed (Undef what) ∷ lines) = lives_spans d base (reported ++ event_of (Undef what)) lines
lives_spans d base reported (Printed (Stopped at how) ∷ lines) = sym (append-nil (life_of d base (reported ++ end_event at how) (count_at at how)))
lives_spans d base reported (Printed (Pc value) ∷ lines) = lives_spans d base (reported ++ []) lines
lives_spans d base reported (Printed (Psw value) ∷ lines) = lives_spans d base (reported ++ []) lines
lives_spans d base reported (Printed (Wsr value) ∷ lines) = lives_spans d base (reported ++ []) lines
lives_spans d base reported (Printed (Registers at bytes) ∷ lines) = lives_spans d base (reported ++ []) lines
lives_spans d base reported (Restarted at by_watchdog ∷ lines) =
    let next : base + at + 1 ≡ base + (at + 1) = omega arith in
    let first = life_of d base (reported ++ restart_event at by_watchdog ∷ []) (at + 1) in
    ap (λ (rest : List Life). first ++ rest) (lives_spans d (base + at + 1) [] lines ∙ ap (λ b. span_lives d b (spans_with [] lines)) next)

both_events : (xs ys : List Event) → AreEvents xs → AreEvents ys → AreEvents (xs ++ ys)
both_events [] ys h k = k
both_events (x ∷ xs) ys h k = (h.0, both_events xs ys h.1 k)

end_known : (at how : ℕ) → AreEvents (end_event at how)
end_known at zero = tt
end_known at (suc zero) = (tt, tt)
end_known at (suc (suc zero)) = (tt, tt)
end_known at (suc (suc (suc how))) = tt

restart_known : (at : ℕ) (by_watchdog : Bool) → AreEvents (restart_event at by_watchdog ∷ [])
restart_known at true = (tt, tt)
restart_known at false = (tt, tt)

-- an edge is one of a pin that is printed
edge_printed : (p : Place) (stage : Stage) (at pin : ℕ) (level : Level) → may_print p stage (Pin at (record { pin = record { 0 = pin }; level = level })) ≡ true → is_printed pin ≡ true
edge_printed p Living at pin level fits = (and_parts (is_printed pin) (not (same_level level (p.levels pin))) (and_parts (is_in_order p at) (is_printed pin && not (same_level level (p.levels pin))) fits).1).0
edge_printed p (Broken t) at pin level fits = absurd (false≢true fits)
edge_printed p (Over n) at pin level fits = absurd (false≢true fits)

-- a reset is no later than a run may last
restart_short : (p : Place) (stage : Stage) (at : ℕ) → may_restart p stage at ≡ true → p.base + at ≤ max_states
restart_short p Living at fits = leb-true (p.base + at) max_states (and_parts (leb p.past (at + 1)) (leb (p.base + at) max_states) fits).1
restart_short p (Broken t) at fits = absurd (false≢true fits)
restart_short p (Over n) at fits = absurd (false≢true fits)

count_few : (base at how : ℕ) → base ≤ max_states + 1 → at ≤ max_states → base + count_at at how ≤ 4000000000000000
count_few base at zero low short = omega (arith, low, short)
count_few base at (suc how) low short = omega (arith, low, short)

pub are_spans : (p : Place) (reported : List Event) (lines : List Line) → AreLines p lines → p.base ≤ max_states + 1 → AreEvents reported → AreSpans p.base (spans_with reported lines)
unfolding AreLines
are_spans p reported [] h low known = tt
are_spans p reported (Printed (Pin at edge) ∷ lines) h low known =
    are_spans (after_line p (Printed (Pin at edge))) (reported ++ event_of (Pin at edge)) lines h.1 low (both_events reported (event_of (Pin at edge)) known (edge_printed p p.stage at edge.pin.0 edge.level h.0.fits, tt))
are_spans p reported (Printed (Entered at vector back) ∷ lines) h low known =
    are_spans (after_line p (Printed (Entered at vector back))) (reported ++ event_of (Entered at vector back)) lines h.1 low (both_events reported (event_of (Entered at vector back)) known ((h.0.sound.1.1, omega arith), tt))
are_spans p reported (Printed (Served at vector mode count) ∷ lines) h low known =
    are_spans (after_line p (Printed (Served at vector mode count))) (reported ++ event_of (Served at vector mode count)) lines h.1 low (both_events reported (event_of (Served at vector mode count)) known ((h.0.sound.1.1, omega arith), tt))
are_spans p reported (Printed (Undef what) ∷ lines) h low known =
    are_spans (after_line p (Printed (Undef what))) (reported ++ event_of (Undef what)) lines h.1 low (both_events reported (event_of (Undef what)) known ((tt, omega arith), tt))
are_spans p reported (Printed (Stopped at how) ∷ lines) h low known =
    (count_few p.base at how low h.0.sound.1, both_events reported (end_event at how) known (end_known at how), tt)
are_spans p reported (Printed (Pc value) ∷ lines) h low known = are_spans (after_line p (Printed (Pc value))) (reported ++ []) lines h.1 low (both_events reported [] known tt)
are_spans p reported (Printed (Psw value) ∷ lines) h low known = are_spans (after_line p (Printed (Psw value))) (reported ++ []) lines h.1 low (both_events reported [] known tt)
are_spans p reported (Printed (Wsr value) ∷ lines) h low known = are_spans (after_line p (Printed (Wsr value))) (reported ++ []) lines h.1 low (both_events reported [] known tt)
are_spans p reported (Printed (Registers at bytes) ∷ lines) h low known = are_spans (after_line p (Printed (Registers at bytes))) (reported ++ []) lines h.1 low (both_events reported [] known tt)
are_spans p reported (Restarted at by_watchdog ∷ lines) h low known =
    let short = restart_short p p.stage at h.0.fits in
    let next : p.base + at + 1 ≡ p.base + (at + 1) = omega arith in (
      omega (arith, short),
      both_events reported (restart_event at by_watchdog ∷ []) known (restart_known at by_watchdog),
      subst (λ b. AreSpans b (spans_with [] lines)) next (are_spans (after_line p (Restarted at by_watchdog)) [] lines h.1 (omega (arith, short)) tt),
    )

-- ---- the states of a life

-- each has changes of variables that a dump may have, and none is behind the last one
abbrev pub AreStates : ℕ → List State → Type 0
AreStates last [] = Unit {0}
AreStates last (s ∷ states) = (s.at ≤ last) × AreWhats s.whats × AreStates last states

pub both_whats : (xs ys : List What) → AreWhats xs → AreWhats ys → AreWhats (xs ++ ys)
both_whats [] ys h k = k
both_whats (x ∷ xs) ys h k = (h.0, both_whats xs ys h.1 k)

reported_known : (t : ℕ) (reported : List Event) → AreEvents reported → AreWhats (reported_in t reported)
reported_known t [] known = tt
reported_known t (e ∷ reported) known = by_test (eqb e.at t) (reported_known t reported known.1)
  where
    by_test : (b : Bool) → AreWhats (reported_in t reported) → AreWhats (map (λ (x : Event). x.what) (cond b (e ∷ filter (λ x. eqb x.at t) reported) (filter (λ x. eqb x.at t) reported)))
    by_test true rest = (known.0, rest)
    by_test false rest = rest

edge_known : (pin : ℕ) (a b : Level) → is_input pin ≡ true → AreWhats (edge_between pin a b)
edge_known pin a b is = by_test (same_level a b)
  where
    by_test : (same : Bool) → AreWhats (cond same [] (what.Edge (Input (record { 0 = pin })) b ∷ []))
    by_test true = tt
    by_test false = (is, tt)

edges_known : (d : Drives) (levels : Signal → Level) (t : ℕ) → AreWhats (input_edges d levels t)
unfolding input_edges
edges_known d levels t = over (range_with_len 0 pin_count)
  where
    one : (pin : ℕ) (b : Bool) → is_input pin ≡ b → AreWhats (cond b (edge_between pin (input_before d levels t pin (wire_to d.wires pin)) (input_level d levels t pin (wire_to d.wires pin))) [])
    one pin true is = edge_known pin (input_before d levels t pin (wire_to d.wires pin)) (input_level d levels t pin (wire_to d.wires pin)) is
    one pin false is = tt

    over : (pins : List ℕ) → AreWhats (flat_map (edge_if_input d levels t) pins)
    over [] = tt
    over (pin ∷ pins) = both_whats (edge_if_input d levels t pin) (flat_map (edge_if_input d levels t) pins) (one pin (is_input pin) refl) (over pins)

pub are_states : (d : Drives) (base : ℕ) (reported : List Event) (more t last : ℕ) (levels : Signal → Level) → AreEvents reported → t + more ≤ last + 1 → AreStates last (states_from d base reported more t levels)
unfolding states_from
are_states d base reported zero t last levels known few = tt
are_states d base reported (suc more) t last levels known few =
    let whats = input_edges d levels (base + t) ++ reported_in t reported in (
      omega (arith, few),
      both_whats (input_edges d levels (base + t)) (reported_in t reported) (edges_known d levels (base + t)) (reported_known t reported known),
      are_states d base reported more (t + 1) last (levels_after levels whats) known (omega (arith, few)),
    )

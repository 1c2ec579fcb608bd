-- Lines of a trace, by what they report.
use Rattle.std.proofs.Common.{◌≡◌, ℕ, zero, suc, ◌+◌, ◌≤◌, Bool, true, false, Option, Some, List, [], ◌∷◌, ◌++◌, refl, sym, ap, subst, ◌∙◌, append-nil, arith}
use Rattle.kc_trace.specs.declared.life.Event.{Event}
use Rattle.kc_trace.specs.declared.record.Record.{Record}
use Rattle.kc_trace.specs.declared.record.Record.TheVariants.{Pin, Entered, Served, Undef, Stopped, Pc, Psw, Wsr, Registers}
use Rattle.kc_events.specs.declared.line.Line.{Line}
use Rattle.kc_events.specs.declared.line.Line.TheVariants.{Printed, Restarted}
use Rattle.kc_events.specs.declared.course.Known.TheVariants.{Living, Ending}
use Rattle.kc_events.specs.Lives.{event_of, end_event, count_at, restart_event}
use Rattle.kc_events.specs.Steps.{steps_with}
use Rattle.kc_events.specs.Coming.{Present, rest_of, rest_by, events_ahead, rest_at, AreFrom, state_behind, AreDue, MayCome, IsFed}

-- ---- a line is fed

abbrev pub IsNoEnd : Record → Type 0
IsNoEnd (Stopped at how) = ⊥
IsNoEnd _ = Unit {0}

fed_steps : (item : Record) → IsNoEnd item → (p : Present) (lines : List Line) → rest_by p (event_of item) lines ≡ rest_by p [] (Printed item ∷ lines)
unfolding rest_by
fed_steps (Pin at edge) without p lines = refl
fed_steps (Entered at vector back) without p lines = refl
fed_steps (Served at vector mode count) without p lines = refl
fed_steps (Undef what) without p lines = refl
fed_steps (Pc value) without p lines = refl
fed_steps (Psw value) without p lines = refl
fed_steps (Wsr value) without p lines = refl
fed_steps (Registers base bytes) without p lines = refl
fed_steps (Stopped at how) without p lines = absurd without

fed_due : (item : Record) → IsNoEnd item → (t : ℕ) (lines : List Line) → AreDue t (Printed item ∷ lines) → AreFrom t (event_of item) × AreDue (state_behind t (event_of item)) lines
unfolding AreDue
fed_due (Pin at edge) without t lines h = h
fed_due (Entered at vector back) without t lines h = h
fed_due (Served at vector mode count) without t lines h = h
fed_due (Undef what) without t lines h = h
fed_due (Pc value) without t lines h = h
fed_due (Psw value) without t lines h = h
fed_due (Wsr value) without t lines h = h
fed_due (Registers base bytes) without t lines h = h
fed_due (Stopped at how) without t lines h = absurd without

pub fed_record : (item : Record) (ahead : Option Event) → IsNoEnd item → events_ahead ahead ≡ event_of item → IsFed (Printed item) ahead Living
fed_record item ahead without is = record {
  steps = λ p lines. ap (λ (events : List Event). rest_by p events lines) is ∙ fed_steps item without p lines;
  next = λ t lines h. subst (λ (events : List Event). AreFrom t events × AreDue (state_behind t events) lines) (sym is) (fed_due item without t lines h);
}

pub fed_end : (at how : ℕ) (ahead : Option Event) → events_ahead ahead ≡ end_event at how → IsFed (Printed (Stopped at how)) ahead (Ending (count_at at how) false)
unfolding rest_by AreDue
fed_end at how ahead is = record {
  steps = λ p lines. append-nil (rest_of p (events_ahead ahead) (count_at at how)) ∙ ap (λ (events : List Event). rest_of p events (count_at at how)) is ∙ stop_steps p lines;
  next = λ t lines h. subst (λ (events : List Event). AreFrom t events × ((state_behind t events ≤ count_at at how) × Unit {0})) (sym is) (stop_due t lines h);
}
  where
    stop_steps : (p : Present) (lines : List Line) → rest_of p (end_event at how) (count_at at how) ≡ rest_by p [] (Printed (Stopped at how) ∷ lines)
    stop_steps p lines = refl

    due_at : (t n : ℕ) → AreFrom t (end_event at n) → t ≤ count_at at n → AreFrom t (end_event at n) × ((state_behind t (end_event at n) ≤ count_at at n) × Unit {0})
    due_at t zero from less = (from, (less, tt))
    due_at t (suc zero) from less = (from, (omega arith, tt))
    due_at t (suc (suc zero)) from less = (from, (omega arith, tt))
    due_at t (suc (suc (suc n))) from less = (from, (less, tt))

    stop_due : (t : ℕ) (lines : List Line) → AreDue t (Printed (Stopped at how) ∷ lines) → AreFrom t (end_event at how) × ((state_behind t (end_event at how) ≤ count_at at how) × Unit {0})
    stop_due t lines h = due_at t how h.0 h.1

pub fed_restart : (at : ℕ) (by_watchdog : Bool) → IsFed (Restarted at by_watchdog) (Some (restart_event at by_watchdog)) (Ending (at + 1) true)
unfolding rest_by AreDue
fed_restart at by_watchdog = record { steps = restart_steps; next = restart_due }
  where
    restart_steps : (p : Present) (lines : List Line) → rest_at p (restart_event at by_watchdog ∷ []) (Ending (at + 1) true) lines ≡ rest_by p [] (Restarted at by_watchdog ∷ lines)
    restart_steps p lines =
        let same : p.base + (at + 1) ≡ p.base + at + 1 = omega arith in
        ap (λ b. rest_of p (restart_event at by_watchdog ∷ []) (at + 1) ++ steps_with p.drives b [] lines) same

    restart_due : (t : ℕ) (lines : List Line) → AreDue t (Restarted at by_watchdog ∷ lines) → AreFrom t (restart_event at by_watchdog ∷ []) × MayCome at (Ending (at + 1) true) lines
    restart_due t lines h = ((h.0, tt), (omega arith, h.1))

pub no_end : (item : Record) → ((at how : ℕ) → item ≡ Stopped at how → ⊥) → IsNoEnd item
no_end (Pin at edge) without = tt
no_end (Entered at vector back) without = tt
no_end (Served at vector mode count) without = tt
no_end (Undef what) without = tt
no_end (Stopped at how) without = without at how refl
no_end (Pc value) without = tt
no_end (Psw value) without = tt
no_end (Wsr value) without = tt
no_end (Registers base bytes) without = tt

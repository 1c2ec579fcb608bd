-- States of a run pass.
use Rattle.std.proofs.Common.{◌≡◌, ℕ, zero, suc, ◌+◌, ◌-◌, ◌<◌, ◌≤◌, true, List, [], ◌∷◌, ◌++◌, refl, sym, ap, subst, ◌∙◌, append_assoc, arith}
use Rattle.kc_trace.specs.declared.life.What.{What}
use Rattle.kc_trace.specs.declared.life.Event.{Event}
use Rattle.kc_trace.specs.Lives.{State}
use Rattle.kc_trace.specs.declared.record.Record.TheVariants.{Pin, Entered, Served, Undef, Stopped, Pc, Psw, Wsr, Registers}
use Rattle.kc_events.specs.declared.line.Line.{Line}
use Rattle.kc_events.specs.declared.line.Line.TheVariants.{Printed, Restarted}
use Rattle.kc_events.specs.declared.course.Known.{Known}
use Rattle.kc_events.specs.declared.course.Known.TheVariants.{Living, Ending, Ended}
use Rattle.kc_events.specs.Lives.{input_edges, levels_after, event_of, end_event, count_at, restart_event}
use Rattle.kc_events.specs.Steps.{Seen, Passes, Ends, passes, steps_with}
use Rattle.kc_events.specs.Coming.{Present, states_on, begin_of, rest_of, rest_by, others_of, rest_at, AreFrom, state_behind, AreDue, MayCome, behind, GoesOn, IsBeyond, HasSameRest, HasPassed}
use Rattle.kc_events.proofs.StateLemmas.{from-append, from-less, states-passed}

-- ---- a state passes

-- the present state, as it passes
abbrev pub passing : Present → List Seen
passing p = passes (record { at = p.now; whats = p.whats } ∷ [])

passes-cons : (s : State) (states : List State) → passes (s ∷ states) ≡ passes (s ∷ []) ++ passes states
passes-cons s states = by s.whats
  where
    by : (whats : List What) → passes (record { at = s.at; whats = whats } ∷ states) ≡ passes (record { at = s.at; whats = whats } ∷ []) ++ passes states
    by [] = refl
    by (w ∷ whats) = refl

-- the rest of a life that has begun, once its present state has passed
rest-passed : (p : Present) (reported : List Event) (count : ℕ) → p.has_begun ≡ true → p.now + 1 ≤ count → AreFrom (p.now + 1) reported → rest_of p reported count ≡ passing p ++ rest_of (behind p) reported count
rest-passed p reported zero begun less later = absurd (omega (arith, less))
rest-passed p reported (suc last) begun less later =
    let more = last - p.now in
    let size : suc last - p.now ≡ suc more = omega (arith, less) in
    let rest : suc last - (p.now + 1) ≡ more = omega (arith, less) in
    let s : State = record { at = p.now; whats = p.whats } in
    let q = behind p in
    let states = states-passed p.drives p.base reported more p.now p.levels p.whats later in
    let none : begin_of p.has_begun p.levels ≡ [] = ap (λ b. begin_of b p.levels) begun in
    let none_behind : begin_of p.has_begun q.levels ≡ [] = ap (λ b. begin_of b q.levels) begun in
    let left = passes (states_on p.drives p.base reported more q.now q.levels q.whats) in
    (λ i. none i ++ (passes (states_on p.drives p.base reported (size i) p.now p.levels p.whats) ++ Ends last ∷ []))
    ∙ ap (λ (all : List State). passes all ++ Ends last ∷ []) states
    ∙ ap (λ (seen : List Seen). seen ++ Ends last ∷ []) (passes-cons s (states_on p.drives p.base reported more q.now q.levels q.whats))
    ∙ append_assoc (passes (s ∷ [])) left (Ends last ∷ [])
    ∙ (λ i. passes (s ∷ []) ++ (sym none_behind i ++ (passes (states_on p.drives p.base reported (sym rest i) q.now q.levels q.whats) ++ Ends last ∷ [])))

-- lines that are due from one state on are due from an earlier one on
due-less : (t s : ℕ) (lines : List Line) → s ≤ t → AreDue t lines → AreDue s lines
unfolding AreDue
due-less t s [] less h = h
due-less t s (Printed (Pin at edge) ∷ lines) less h = (from-less t s (event_of (Pin at edge)) less h.0, h.1)
due-less t s (Printed (Entered at vector back) ∷ lines) less h = (from-less t s (event_of (Entered at vector back)) less h.0, h.1)
due-less t s (Printed (Served at vector mode count) ∷ lines) less h = (from-less t s (event_of (Served at vector mode count)) less h.0, h.1)
due-less t s (Printed (Undef what) ∷ lines) less h = (from-less t s (event_of (Undef what)) less h.0, h.1)
due-less t s (Printed (Stopped at how) ∷ lines) less h =
    let first : t ≤ count_at at how = h.1 in
    (from-less t s (end_event at how) less h.0, omega (arith, first, less))
due-less t s (Printed (Pc value) ∷ lines) less h = (tt, due-less t s lines less h.1)
due-less t s (Printed (Psw value) ∷ lines) less h = (tt, due-less t s lines less h.1)
due-less t s (Printed (Wsr value) ∷ lines) less h = (tt, due-less t s lines less h.1)
due-less t s (Printed (Registers at bytes) ∷ lines) less h = (tt, due-less t s lines less h.1)
due-less t s (Restarted at by_watchdog ∷ lines) less h =
    let first : t ≤ at = h.0 in
    (omega (arith, first, less), h.1)

-- what is due behind events of later states is due behind the present state
due-behind : (t : ℕ) (events : List Event) (lines : List Line) → AreFrom t events → AreDue (state_behind t events) lines → AreDue t lines
due-behind t events lines from due = by events t (omega arith) from due
  where
    by : (events : List Event) (s : ℕ) → t ≤ s → AreFrom t events → AreDue (state_behind s events) lines → AreDue t lines
    by [] s later from due = due-less s t lines later due
    by (e ∷ events) s later from due = by events e.at from.0 from.1 due

come-less : (t s : ℕ) (known : Known) (lines : List Line) → s ≤ t → MayCome t known lines → MayCome s known lines
come-less t s Living lines less h = due-less t s lines less h
come-less t s (Ending count is_followed) lines less h =
    let first : t ≤ count = h.0 in
    (omega (arith, first, less), h.1)
come-less t s Ended lines less h = tt

by-passed : (p : Present) (reported : List Event) (lines : List Line) → p.has_begun ≡ true → AreFrom (p.now + 1) reported → AreDue (p.now + 1) lines → rest_by p reported lines ≡ passing p ++ rest_by (behind p) reported lines
unfolding rest_by AreDue
by-passed p reported [] begun later due = absurd due
by-passed p reported (Printed (Pin at edge) ∷ lines) begun later due = by-passed p (reported ++ event_of (Pin at edge)) lines begun (from-append (p.now + 1) reported (event_of (Pin at edge)) later due.0) (due-behind (p.now + 1) (event_of (Pin at edge)) lines due.0 due.1)
by-passed p reported (Printed (Entered at vector back) ∷ lines) begun later due = by-passed p (reported ++ event_of (Entered at vector back)) lines begun (from-append (p.now + 1) reported (event_of (Entered at vector back)) later due.0) (due-behind (p.now + 1) (event_of (Entered at vector back)) lines due.0 due.1)
by-passed p reported (Printed (Served at vector mode count) ∷ lines) begun later due = by-passed p (reported ++ event_of (Served at vector mode count)) lines begun (from-append (p.now + 1) reported (event_of (Served at vector mode count)) later due.0) (due-behind (p.now + 1) (event_of (Served at vector mode count)) lines due.0 due.1)
by-passed p reported (Printed (Undef what) ∷ lines) begun later due = by-passed p (reported ++ event_of (Undef what)) lines begun (from-append (p.now + 1) reported (event_of (Undef what)) later due.0) (due-behind (p.now + 1) (event_of (Undef what)) lines due.0 due.1)
by-passed p reported (Printed (Stopped at how) ∷ lines) begun later due =
    rest-passed p (reported ++ end_event at how) (count_at at how) begun due.1 (from-append (p.now + 1) reported (end_event at how) later due.0)
by-passed p reported (Printed (Pc value) ∷ lines) begun later due = by-passed p (reported ++ []) lines begun (from-append (p.now + 1) reported [] later tt) due.1
by-passed p reported (Printed (Psw value) ∷ lines) begun later due = by-passed p (reported ++ []) lines begun (from-append (p.now + 1) reported [] later tt) due.1
by-passed p reported (Printed (Wsr value) ∷ lines) begun later due = by-passed p (reported ++ []) lines begun (from-append (p.now + 1) reported [] later tt) due.1
by-passed p reported (Printed (Registers base bytes) ∷ lines) begun later due = by-passed p (reported ++ []) lines begun (from-append (p.now + 1) reported [] later tt) due.1
by-passed p reported (Restarted at by_watchdog ∷ lines) begun later due =
    let e = restart_event at by_watchdog in
    let first : p.now + 1 ≤ at = due.0 in
    let others = steps_with p.drives (p.base + at + 1) [] lines in
    ap (λ (seen : List Seen). seen ++ others) (rest-passed p (reported ++ e ∷ []) (at + 1) begun (omega (arith, first)) (from-append (p.now + 1) reported (e ∷ []) later (first, tt)))
    ∙ append_assoc (passing p) (rest_of (behind p) (reported ++ e ∷ []) (at + 1)) others

at-passed : (p : Present) (reported : List Event) (known : Known) (lines : List Line) → p.has_begun ≡ true → AreFrom (p.now + 1) reported → MayCome (p.now + 1) known lines → GoesOn known →
    rest_at p reported known lines ≡ passing p ++ rest_at (behind p) reported known lines
at-passed p reported Living lines begun later due goes = by-passed p reported lines begun later due
at-passed p reported (Ending count is_followed) lines begun later due goes =
    let others = others_of is_followed p.drives (p.base + count) lines in
    ap (λ (seen : List Seen). seen ++ others) (rest-passed p reported count begun due.0 later)
    ∙ append_assoc (passing p) (rest_of (behind p) reported count) others
at-passed p reported Ended lines begun later due goes = absurd goes

passed : (p : Present) (at : ℕ) → p.has_begun ≡ true → p.now + 1 ≤ at → (reported : List Event) (known : Known) (lines : List Line) → IsBeyond at reported known lines →
    rest_at p reported known lines ≡ passing p ++ rest_at (behind p) reported known lines
passed p at begun less reported known lines b = at-passed p reported known lines begun (from-less at (p.now + 1) reported less b.events) (come-less at (p.now + 1) known lines less b.coming) b.goes

passes_some : (t : ℕ) (whats : List What) → (whats ≡ [] → ⊥) → passes (record { at = t; whats = whats } ∷ []) ≡ Passes (record { at = t; whats = whats }) ∷ []
passes_some t [] some = absurd (some refl)
passes_some t (w ∷ whats) some = refl

passes_none : (t : ℕ) (whats : List What) → whats ≡ [] → passes (record { at = t; whats = whats } ∷ []) ≡ []
passes_none t [] none = refl
passes_none t (w ∷ whats) none = absurd cc

-- a state in which anything has happened
pub has_passed : (p : Present) (at : ℕ) → p.has_begun ≡ true → (p.whats ≡ [] → ⊥) → p.now + 1 ≤ at → HasPassed at p (record { at = p.now; whats = p.whats }) (behind p)
has_passed p at begun some less = λ reported known lines b.
    passed p at begun less reported known lines b ∙ ap (λ (seen : List Seen). seen ++ rest_at (behind p) reported known lines) (passes_some p.now p.whats some)

-- in a later state, behind which nothing has happened
abbrev pub later_at : Present → ℕ → Present
later_at p t = record p { now = t; whats = input_edges p.drives p.levels (p.base + t) }

behind_still : (p : Present) → p.whats ≡ [] → behind p ≡ later_at p (p.now + 1)
behind_still p none = λ i. record p {
  now = p.now + 1;
  levels = levels_after p.levels (none i);
  whats = input_edges p.drives (levels_after p.levels (none i)) (p.base + (p.now + 1));
}

step_still : (p : Present) (at : ℕ) → p.has_begun ≡ true → p.whats ≡ [] → p.now + 1 ≤ at → HasSameRest at p (later_at p (p.now + 1))
step_still p at begun none less = λ reported known lines b.
    passed p at begun less reported known lines b
    ∙ ap (λ (seen : List Seen). seen ++ rest_at (behind p) reported known lines) (passes_none p.now p.whats none)
    ∙ ap (λ q. rest_at q reported known lines) (behind_still p none)

-- states in which nothing happens
skipped : (more : ℕ) (p : Present) (at to : ℕ) → to ≡ p.now + 1 + more → p.has_begun ≡ true → p.whats ≡ [] → to ≤ at →
    ((t : ℕ) → p.now < t → t < to → input_edges p.drives p.levels (p.base + t) ≡ []) → HasSameRest at p (later_at p to)
skipped zero p at to is begun none within still =
    let next : p.now + 1 ≡ to = omega (arith, is) in
    subst (λ t. HasSameRest at p (later_at p t)) next (step_still p at begun none (omega (arith, next, within)))
skipped (suc more) p at to is begun none within still =
    let q = later_at p (p.now + 1) in
    let first = step_still p at begun none (omega (arith, is, within)) in
    let there : to ≡ p.now + 1 + 1 + more = omega (arith, is) in
    let rest = skipped more q at to there begun (still (p.now + 1) (omega arith) (omega (arith, is))) within (λ t after before. still t (omega (arith, after)) before) in
    λ reported known lines b. first reported known lines b ∙ rest reported known lines b

pub has_skipped : (p : Present) (at to : ℕ) → p.now < to → p.has_begun ≡ true → p.whats ≡ [] → to ≤ at →
    ((t : ℕ) → p.now < t → t < to → input_edges p.drives p.levels (p.base + t) ≡ []) → HasSameRest at p (later_at p to)
has_skipped p at to later begun none within still = skipped (to - (p.now + 1)) p at to (omega (arith, later)) begun none within still

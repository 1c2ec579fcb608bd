-- How a run goes on.
use Rattle.std.proofs.Common.{◌≡◌, ℕ, zero, suc, ◌+◌, ◌-◌, Bool, true, false, List, [], ◌∷◌, ◌++◌, refl, ap, arith}
use Rattle.kc_trace.specs.declared.life.What.{What}
use Rattle.kc_trace.specs.declared.life.Event.{Event}
use Rattle.kc_trace.specs.Lives.{State}
use Rattle.kc_trace.specs.declared.record.Record.TheVariants.{Pin, Entered, Served, Undef, Stopped, Pc, Psw, Wsr, Registers}
use Rattle.kc_events.specs.declared.line.Line.{Line}
use Rattle.kc_events.specs.declared.line.Line.TheVariants.{Printed, Restarted}
use Rattle.kc_events.specs.declared.course.Known.{Known}
use Rattle.kc_events.specs.declared.course.Known.TheVariants.{Living, Ending, Ended}
use Rattle.kc_events.specs.Lives.{event_of, end_event, count_at, restart_event}
use Rattle.kc_events.specs.Steps.{Seen, Begins, Ends, passes, steps_with}
use Rattle.kc_events.specs.Coming.{Present, states_on, begin_of, rest_of, rest_by, others_of, rest_at, AreDue, MayCome, GoesOn}
use Rattle.kc_events.proofs.StateLemmas.{states-pushed}

-- ---- an event happens

abbrev pub pushed : Present → What → Present
pushed p what = record p { whats = p.whats ++ what ∷ [] }

rest-pushed : (p : Present) (e : Event) (reported : List Event) (count : ℕ) → e.at ≡ p.now → rest_of p (e ∷ reported) count ≡ rest_of (pushed p e.what) reported count
rest-pushed p e reported zero same = refl
rest-pushed p e reported (suc last) same =
    ap (λ (states : List State). begin_of p.has_begun p.levels ++ (passes states ++ Ends last ∷ [])) (states-pushed p.drives p.base e reported (suc last - p.now) p.now p.levels p.whats same)

by-pushed : (p : Present) (e : Event) (reported : List Event) (lines : List Line) → e.at ≡ p.now → rest_by p (e ∷ reported) lines ≡ rest_by (pushed p e.what) reported lines
unfolding rest_by
by-pushed p e reported [] same = refl
by-pushed p e reported (Printed (Pin at edge) ∷ lines) same = by-pushed p e (reported ++ event_of (Pin at edge)) lines same
by-pushed p e reported (Printed (Entered at vector back) ∷ lines) same = by-pushed p e (reported ++ event_of (Entered at vector back)) lines same
by-pushed p e reported (Printed (Served at vector mode count) ∷ lines) same = by-pushed p e (reported ++ event_of (Served at vector mode count)) lines same
by-pushed p e reported (Printed (Undef what) ∷ lines) same = by-pushed p e (reported ++ event_of (Undef what)) lines same
by-pushed p e reported (Printed (Stopped at how) ∷ lines) same = rest-pushed p e (reported ++ end_event at how) (count_at at how) same
by-pushed p e reported (Printed (Pc value) ∷ lines) same = by-pushed p e (reported ++ []) lines same
by-pushed p e reported (Printed (Psw value) ∷ lines) same = by-pushed p e (reported ++ []) lines same
by-pushed p e reported (Printed (Wsr value) ∷ lines) same = by-pushed p e (reported ++ []) lines same
by-pushed p e reported (Printed (Registers base bytes) ∷ lines) same = by-pushed p e (reported ++ []) lines same
by-pushed p e reported (Restarted at by_watchdog ∷ lines) same =
    ap (λ (seen : List Seen). seen ++ steps_with p.drives (p.base + at + 1) [] lines) (rest-pushed p e (reported ++ restart_event at by_watchdog ∷ []) (at + 1) same)

pub at-pushed : (p : Present) (e : Event) (known : Known) (lines : List Line) → e.at ≡ p.now → rest_at p (e ∷ []) known lines ≡ rest_at (pushed p e.what) [] known lines
at-pushed p e Living lines same = by-pushed p e [] lines same
at-pushed p e (Ending count is_followed) lines same = ap (λ (seen : List Seen). seen ++ others_of is_followed p.drives (p.base + count) lines) (rest-pushed p e [] count same)
at-pushed p e Ended lines same = refl

-- ---- a life begins

abbrev pub begun : Present → Present
begun p = record p { has_begun = true }

rest-begun : (p : Present) (reported : List Event) (count : ℕ) → p.has_begun ≡ false → rest_of p reported count ≡ Begins p.levels ∷ rest_of (begun p) reported count
rest-begun p reported zero none = ap (λ b. begin_of b p.levels) none
rest-begun p reported (suc last) none = ap (λ b. begin_of b p.levels ++ (passes (states_on p.drives p.base reported (suc last - p.now) p.now p.levels p.whats) ++ Ends last ∷ [])) none

by-begun : (p : Present) (reported : List Event) (t : ℕ) (lines : List Line) → p.has_begun ≡ false → AreDue t lines → rest_by p reported lines ≡ Begins p.levels ∷ rest_by (begun p) reported lines
unfolding rest_by AreDue
by-begun p reported t [] none due = absurd due
by-begun p reported t (Printed (Pin at edge) ∷ lines) none due = by-begun p (reported ++ event_of (Pin at edge)) at lines none due.1
by-begun p reported t (Printed (Entered at vector back) ∷ lines) none due = by-begun p (reported ++ event_of (Entered at vector back)) at lines none due.1
by-begun p reported t (Printed (Served at vector mode count) ∷ lines) none due = by-begun p (reported ++ event_of (Served at vector mode count)) at lines none due.1
by-begun p reported t (Printed (Undef what) ∷ lines) none due = by-begun p (reported ++ event_of (Undef what)) what.at lines none due.1
by-begun p reported t (Printed (Stopped at how) ∷ lines) none due = rest-begun p (reported ++ end_event at how) (count_at at how) none
by-begun p reported t (Printed (Pc value) ∷ lines) none due = by-begun p (reported ++ []) t lines none due.1
by-begun p reported t (Printed (Psw value) ∷ lines) none due = by-begun p (reported ++ []) t lines none due.1
by-begun p reported t (Printed (Wsr value) ∷ lines) none due = by-begun p (reported ++ []) t lines none due.1
by-begun p reported t (Printed (Registers base bytes) ∷ lines) none due = by-begun p (reported ++ []) t lines none due.1
by-begun p reported t (Restarted at by_watchdog ∷ lines) none due =
    ap (λ (seen : List Seen). seen ++ steps_with p.drives (p.base + at + 1) [] lines) (rest-begun p (reported ++ restart_event at by_watchdog ∷ []) (at + 1) none)

pub at-begun : (p : Present) (reported : List Event) (t : ℕ) (known : Known) (lines : List Line) → p.has_begun ≡ false → GoesOn known → MayCome t known lines →
    rest_at p reported known lines ≡ Begins p.levels ∷ rest_at (begun p) reported known lines
at-begun p reported t Living lines none goes due = by-begun p reported t lines none due
at-begun p reported t (Ending count is_followed) lines none goes due =
    ap (λ (seen : List Seen). seen ++ others_of is_followed p.drives (p.base + count) lines) (rest-begun p reported count none)
at-begun p reported t Ended lines none goes due = absurd goes

-- ---- a life ends

abbrev pub last_of : ℕ → List Seen
last_of zero = []
last_of (suc last) = Ends last ∷ []

rest_ended : (p : Present) (count : ℕ) → p.has_begun ≡ true → p.now ≡ count → rest_of p [] count ≡ last_of count
rest_ended p zero begun here = ap (λ b. begin_of b p.levels) begun
rest_ended p (suc last) begun here =
    let none : suc last - p.now ≡ 0 = omega (arith, here) in
    (λ i. begin_of (begun i) p.levels ++ (passes (states_on p.drives p.base [] (none i) p.now p.levels p.whats) ++ Ends last ∷ []))

pub at_end : (p : Present) (count : ℕ) (is_followed : Bool) (lines : List Line) → p.has_begun ≡ true → p.now ≡ count →
    rest_at p [] (Ending count is_followed) lines ≡ last_of count ++ others_of is_followed p.drives (p.base + count) lines
at_end p count is_followed lines begun here = ap (λ (seen : List Seen). seen ++ others_of is_followed p.drives (p.base + count) lines) (rest_ended p count begun here)

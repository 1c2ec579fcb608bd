-- A life that is to begin.
use Rattle.std.proofs.Common.{◌≡◌, ℕ, zero, suc, ◌+◌, ◌-◌, false, List, [], ◌∷◌, ◌++◌, refl, sym, ap, ◌∙◌, arith}
use Rattle.kc_base.specs.declared.types.Level.{Level}
use Rattle.kc_trace.specs.declared.life.Signal.{Signal}
use Rattle.kc_trace.specs.declared.life.What.{What}
use Rattle.kc_trace.specs.declared.life.Event.{Event}
use Rattle.kc_trace.specs.Lives.{State}
use Rattle.kc_stim.specs.Drives.{Drives}
use Rattle.kc_trace.specs.declared.record.Record.TheVariants.{Pin, Entered, Served, Undef, Stopped, Pc, Psw, Wsr, Registers}
use Rattle.kc_events.specs.declared.line.Line.{Line}
use Rattle.kc_events.specs.declared.line.Line.TheVariants.{Printed, Restarted}
use Rattle.kc_events.specs.Lives.{input_edges, start_levels, states_from, event_of, end_event, count_at, restart_event}
use Rattle.kc_events.specs.Steps.{Seen, Begins, Ends, passes, seen_of, steps_with}
use Rattle.kc_events.specs.Coming.{Present, start_of, states_on, begin_of, rest_of, rest_by}
use Rattle.kc_events.proofs.StateLemmas.{states-on}

-- the states of a life, by a present state that is its first
module _ (p : Present) (none : p.has_begun ≡ false) (first : p.now ≡ 0) (level : p.levels ≡ start_levels p.drives p.base) (edges : p.whats ≡ input_edges p.drives p.levels p.base) where
  rest-first : (reported : List Event) (count : ℕ) → rest_of p reported count ≡ seen_of p.drives p.base reported count
  rest-first reported zero = (λ i. begin_of (none i) (level i))
  rest-first reported (suc last) =
      let size : suc last - p.now ≡ suc last = omega (arith, first) in
      let here : p.base ≡ p.base + 0 = omega arith in
      (λ i. begin_of (none i) p.levels ++ (passes (states_on p.drives p.base reported (size i) (first i) p.levels p.whats) ++ Ends last ∷ []))
      ∙ ap (λ (whats : List What). Begins p.levels ∷ (passes (states_on p.drives p.base reported (suc last) 0 p.levels whats) ++ Ends last ∷ [])) (edges ∙ ap (input_edges p.drives p.levels) here)
      ∙ ap (λ (states : List State). Begins p.levels ∷ (passes states ++ Ends last ∷ [])) (sym (states-on p.drives p.base reported (suc last) 0 p.levels))
      ∙ ap (λ (levels : Signal → Level). Begins levels ∷ (passes (states_from p.drives p.base reported (suc last) 0 levels) ++ Ends last ∷ [])) level

  by-first : (reported : List Event) (lines : List Line) → rest_by p reported lines ≡ steps_with p.drives p.base reported lines
  unfolding rest_by steps_with
  by-first reported [] = refl
  by-first reported (Printed (Pin at edge) ∷ lines) = by-first (reported ++ event_of (Pin at edge)) lines
  by-first reported (Printed (Entered at vector back) ∷ lines) = by-first (reported ++ event_of (Entered at vector back)) lines
  by-first reported (Printed (Served at vector mode count) ∷ lines) = by-first (reported ++ event_of (Served at vector mode count)) lines
  by-first reported (Printed (Undef what) ∷ lines) = by-first (reported ++ event_of (Undef what)) lines
  by-first reported (Printed (Stopped at how) ∷ lines) = rest-first (reported ++ end_event at how) (count_at at how)
  by-first reported (Printed (Pc value) ∷ lines) = by-first (reported ++ []) lines
  by-first reported (Printed (Psw value) ∷ lines) = by-first (reported ++ []) lines
  by-first reported (Printed (Wsr value) ∷ lines) = by-first (reported ++ []) lines
  by-first reported (Printed (Registers at bytes) ∷ lines) = by-first (reported ++ []) lines
  by-first reported (Restarted at by_watchdog ∷ lines) =
      ap (λ (seen : List Seen). seen ++ steps_with p.drives (p.base + at + 1) [] lines) (rest-first (reported ++ restart_event at by_watchdog ∷ []) (at + 1))

pub by-start : (d : Drives) (base : ℕ) (reported : List Event) (lines : List Line) → steps_with d base reported lines ≡ rest_by (start_of d base) reported lines
by-start d base reported lines = sym (by-first (start_of d base) refl refl refl refl reported lines)

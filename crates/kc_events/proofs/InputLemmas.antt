-- Levels and edges of inputs.
use Rattle.std.proofs.Common.{◌≡◌, ℕ, zero, suc, ◌+◌, ◌<◌, ◌≤◌, Bool, true, false, cond, inl, inr, Option, Some, None, List, [], ◌∷◌, ◌++◌, flat_map, refl, sym, ap, ◌∙◌, append-nil, add-one, arith}
use Rattle.std.specs.List.{range_with_len}
use Rattle.std.proofs.lemmas.Bool.{cases_lt}
use Rattle.std.proofs.lemmas.Grind.{flat_map-append}
use Rattle.kc_base.specs.declared.types.Level.{Level}
use Rattle.kc_base.specs.declared.types.Level.TheVariants.{Low, High}
use Rattle.kc_base.specs.Levels.{level_of}
use Rattle.kc_base.specs.Pins.{pin_count, pin_facts, is_input}
use Rattle.kc_base.proofs.PinLemmas.{no_facts, no_input}
use Rattle.kc_trace.specs.declared.life.Signal.{Signal}
use Rattle.kc_trace.specs.declared.life.Signal.TheVariants.{Output, Input}
use Rattle.kc_trace.specs.declared.life.What.{What}
use Rattle.kc_trace.specs.Signals.{pin_of, starts_high}
use Rattle.kc_stim.specs.Drives.{Drives, wire_to, level_at, level_before, IsStill}
use Rattle.kc_events.specs.Lives.{input_level, input_before, edge_between, edge_if_input, input_edges, start_by, start_levels}

-- ---- the edges of one pin more

range-more : (a n : ℕ) → range_with_len a (n + 1) ≡ range_with_len a n ++ (a + n) ∷ []
range-more a n = rw add-one (by_count a n)
  where
    by_count : (a n : ℕ) → range_with_len a (suc n) ≡ range_with_len a n ++ (a + n) ∷ []
    by_count a zero = let same : a + 0 ≡ a = omega arith in rw same refl
    by_count a (suc n) = let next : a + suc n ≡ a + 1 + n = omega arith in rw next (ap (λ (r : List ℕ). a ∷ r) (by_count (a + 1) n))

-- the edges of the pins below a number
abbrev pub edges_below : Drives → (Signal → Level) → ℕ → ℕ → List What
edges_below d levels t n = flat_map (edge_if_input d levels t) (range_with_len 0 n)

pub edges-more : (d : Drives) (levels : Signal → Level) (t n : ℕ) → edges_below d levels t (n + 1) ≡ edges_below d levels t n ++ edge_if_input d levels t n
edges-more d levels t n =
    let f = edge_if_input d levels t in
    let last : 0 + n ≡ n = omega arith in
    ap (flat_map f) (range-more 0 n) ∙ flat_map-append f (range_with_len 0 n) ((0 + n) ∷ []) ∙ ap (λ (w : List What). flat_map f (range_with_len 0 n) ++ w) (append-nil (f (0 + n)) ∙ ap f last)

pub edges-all : (d : Drives) (levels : Signal → Level) (t : ℕ) → input_edges d levels t ≡ edges_below d levels t pin_count
unfolding input_edges
edges-all d levels t = refl

-- ---- no edge

first_none : (a b : List What) → a ++ b ≡ [] → a ≡ []
first_none [] b h = refl
first_none (x ∷ a) b h = absurd cc

other_none : (a b : List What) → a ++ b ≡ [] → b ≡ []
other_none [] b h = h
other_none (x ∷ a) b h = absurd cc

edge_same : (pin : ℕ) (level : Level) → edge_between pin level level ≡ []
edge_same pin Low = refl
edge_same pin High = refl

pin_still : (d : Drives) (levels : Signal → Level) (s t pin : ℕ) → level_at d.stimuli pin t ≡ level_before d.stimuli pin t → edge_if_input d levels s pin ≡ [] → edge_if_input d levels t pin ≡ []
pin_still d levels s t pin still h = by (is_input pin) (wire_to d.wires pin) h
  where
    by : (b : Bool) (wire : Option ℕ) → cond b (edge_between pin (input_before d levels s pin wire) (input_level d levels s pin wire)) [] ≡ [] →
        cond b (edge_between pin (input_before d levels t pin wire) (input_level d levels t pin wire)) [] ≡ []
    by false wire h = refl
    by true (Some output) h = h
    by true None h = ap (edge_between pin (level_before d.stimuli pin t)) still ∙ edge_same pin (level_before d.stimuli pin t)

pins_still : (d : Drives) (levels : Signal → Level) (s t : ℕ) (pins : List ℕ) → IsStill d.stimuli t → flat_map (edge_if_input d levels s) pins ≡ [] → flat_map (edge_if_input d levels t) pins ≡ []
pins_still d levels s t [] still h = refl
pins_still d levels s t (pin ∷ pins) still h =
    let first = pin_still d levels s t pin (still pin) (first_none (edge_if_input d levels s pin) (flat_map (edge_if_input d levels s) pins) h) in
    let others = pins_still d levels s t pins still (other_none (edge_if_input d levels s pin) (flat_map (edge_if_input d levels s) pins) h) in
    (λ i. first i ++ others i)

-- where no input has an edge, none has one later at the same levels, unless the stimuli move one
pub edges_still : (d : Drives) (levels : Signal → Level) (s t : ℕ) → IsStill d.stimuli t → input_edges d levels s ≡ [] → input_edges d levels t ≡ []
unfolding input_edges
edges_still d levels s t still h = pins_still d levels s t (range_with_len 0 pin_count) still h

-- ---- levels before state 0

past_low : (pin : ℕ) → 41 ≤ pin → starts_high (Output (record { 0 = pin })) ≡ false
unfolding pin_facts
past_low pin past = rw (no_facts pin past) refl

-- a number of no pin has low levels
pub start_past : (d : Drives) (base : ℕ) (signal : Signal) → 41 ≤ pin_of signal → start_levels d base signal ≡ Low
start_past d base (Output pin) past = ap level_of (past_low pin.0 past)
start_past d base (Input pin) past = ap (λ b. cond b (start_by d base pin.0 (wire_to d.wires pin.0)) Low) (no_input pin.0 past)

pub all_start : (d : Drives) (base n : ℕ) (levels : Signal → Level) → n ≡ 41 → ((signal : Signal) → pin_of signal < n → levels signal ≡ start_levels d base signal) →
    ((signal : Signal) → n ≤ pin_of signal → levels signal ≡ Low) → levels ≡ start_levels d base
all_start d base n levels all start past = λ i signal. at signal i
  where
    at : (signal : Signal) → levels signal ≡ start_levels d base signal
    at signal = elim (cases_lt (pin_of signal) n) [
      | inl less ↦ start signal less
      | inr most ↦ past signal most ∙ sym (start_past d base signal (omega (arith, most, all)))
    ]

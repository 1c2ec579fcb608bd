-- The pulse-width outputs by the widths written so far.
use Rattle.std.proofs.Common.{◌≡◌, ℕ, zero, suc, ◌-◌, ◌*◌, ◌/◌, ◌%◌, ◌<◌, ◌==◌, Bool, true, false, ◌&&◌, refl, sym, ◌∙◌, ap, arith, inl, inr, List, [], ◌∷◌, ◌++◌}
use Rattle.std.specs.Prelude.{if◌then◌else◌, fold, All}
use Rattle.std.proofs.lemmas.Bool.{cases_eq, ne_eqb, eq-eqb, le-ltb}
use Rattle.std.proofs.lemmas.List.Elements.{All-tail}
use Rattle.kc_extra.specs.Two.{either_holds}
use Rattle.kc_convert.specs.declared.pulses.Output.{Output}
use Rattle.kc_convert.specs.declared.pulses.Pulses.{Pulses}
use Rattle.kc_base.specs.Pins.{pwm0, pwm1, pwm2}
use Rattle.kc_convert.specs.Pulsing.{period, level, level_before, taken_over, edge_between, output_edges, new_output, new_pulses, pulsed_in, is_first, is_second, is_third, written_if, with_width, pulses_further}
use Rattle.kc_extra.specs.Histories.{Access, Driven, accessed, started_if, data_at}
use Rattle.kc_convert.specs.Pulse.{width_by, width_before, pulse, pulse_before, pulses_at, WritesBytes, PulsesAreByWidths}

-- a width that bytes are written to is a byte
width_small : (is_own : ℕ → ℕ → Bool) (width : ℕ) (accesses : List Access) → width < 256 → All (λ a. a.value < 256) accesses → fold (width_by is_own) width accesses < 256
width_small is_own width [] lt bytes = lt
width_small is_own width (a ∷ accesses) lt bytes =
    width_small is_own (width_by is_own width a) accesses
    (either_holds (λ n. n < 256) (a.is_write && is_own a.window a.sfr) a.value width (bytes 0 a (omega arith)) lt)
    (All-tail (λ b. b.value < 256) a accesses bytes)

width_byte : (is_own : ℕ → ℕ → Bool) (h : Driven) (t : ℕ) → WritesBytes h → width_before is_own h t < 256
unfolding width_before
width_byte is_own h zero bytes = omega arith
width_byte is_own h (suc t) bytes = width_small is_own (width_before is_own h t) (h.accesses t) (width_byte is_own h t bytes) (bytes t)

-- the width in force as a state begins
in_force_at : (ℕ → ℕ → Bool) → Driven → ℕ → ℕ
in_force_at is_own h zero = 0
in_force_at is_own h (suc t) = width_before is_own h (t / 256 * 256)

start_of : (t : ℕ) → t % 256 ≡ 0 → t / 256 * 256 ≡ t
start_of t start = omega arith

same_start : (t : ℕ) → (suc t % 256 ≡ 0 → ⊥) → t / 256 * 256 ≡ suc t / 256 * 256
same_start t on = omega arith

-- what a Tick takes over
in_force_next : (is_own : ℕ → ℕ → Bool) (h : Driven) (t : ℕ) →
    (if t % period == 0 then width_before is_own h t else in_force_at is_own h t) ≡ width_before is_own h (t / period * period)
unfolding in_force_at
in_force_next is_own h zero = refl
in_force_next is_own h (suc t) = elim (cases_eq (suc t % 256) 0) [
  | inl start ↦ rw (eq-eqb (suc t % 256) 0 start) (ap (width_before is_own h) (sym (start_of (suc t) start)))
  | inr on ↦ rw (ne_eqb (suc t % 256) 0 on) (ap (width_before is_own h) (same_start t on))
]

-- the level before a state
level_before_is : (is_own : ℕ → ℕ → Bool) (h : Driven) (t : ℕ) → WritesBytes h → level_before (in_force_at is_own h t) t ≡ pulse_before is_own h t
unfolding in_force_at
level_before_is is_own h zero bytes = refl
level_before_is is_own h (suc t) bytes =
    let less : suc t - 1 ≡ t = omega arith in
    elim (cases_eq (suc t % 256) 0) [
      | inl start ↦
          let byte : width_before is_own h (t / 256 * 256) < 256 = width_byte is_own h (t / 256 * 256) bytes in
          let last : t % 256 ≡ 255 = omega arith in
          rw (eq-eqb (suc t % 256) 0 start) (sym (le-ltb (t % 256) (width_before is_own h (t / 256 * 256)) (omega arith)))
      | inr on ↦ rw (ne_eqb (suc t % 256) 0 on) (ap (level (width_before is_own h (t / 256 * 256))) less)
    ]

-- a start is nothing to them
start_same : (starts : Bool) (t : ℕ) (d : Pulses) → started_if pulses_further starts t d ≡ d
start_same true t d = refl
start_same false t d = refl

state_step : (h : Driven) (t : ℕ) → pulses_at h (suc t) ≡ fold (accessed pulses_further t) (pulsed_in t (pulses_at h t)) (h.accesses t)
unfolding data_at
state_step h t = ap (λ d. fold (accessed pulses_further t) d (h.accesses t)) (start_same (h.starts t) t (pulsed_in t (pulses_at h t)))

module _ (output : Pulses → Output) (is_own : ℕ → ℕ → Bool)
    (written : (w s v : ℕ) (d : Pulses) → output (with_width w s v d) ≡ written_if (is_own w s) v (output d))
    (ticked : (t : ℕ) (d : Pulses) → output (pulsed_in t d) ≡ taken_over t (output d))
    (start : output new_pulses ≡ new_output) where
  access_step : (t : ℕ) (d : Pulses) (a : Access) → output (accessed pulses_further t d a) ≡ record { written = width_by is_own (output d).written a; in_force = (output d).in_force }
  access_step t d a = by a.is_write
    where
      by : (w : Bool) →
          output (if w then with_width a.window a.sfr a.value d else d)
          ≡ record { written = if w && is_own a.window a.sfr then a.value else (output d).written; in_force = (output d).in_force }
      by true = written a.window a.sfr a.value d
      by false = refl

  accesses_step : (t : ℕ) (d : Pulses) (accesses : List Access) →
      output (fold (accessed pulses_further t) d accesses) ≡ record { written = fold (width_by is_own) (output d).written accesses; in_force = (output d).in_force }
  accesses_step t d [] = refl
  accesses_step t d (a ∷ accesses) =
      accesses_step t (accessed pulses_further t d a) accesses
      ∙ ap (λ o. record { written = fold (width_by is_own) o.written accesses; in_force = o.in_force }) (access_step t d a)

  output_at : (h : Driven) (t : ℕ) → output (pulses_at h t) ≡ record { written = width_before is_own h t; in_force = in_force_at is_own h t }
  unfolding data_at width_before in_force_at
  output_at h zero = start
  output_at h (suc t) =
      ap output (state_step h t)
      ∙ accesses_step t (pulsed_in t (pulses_at h t)) (h.accesses t)
      ∙ ap (λ o. record { written = fold (width_by is_own) o.written (h.accesses t); in_force = o.in_force })
      (ticked t (pulses_at h t) ∙ ap (taken_over t) (output_at h t))
      ∙ ap (λ w. record { written = fold (width_by is_own) (width_before is_own h t) (h.accesses t); in_force = w }) (in_force_next is_own h t)

  edges_at : (pin : ℕ) (h : Driven) (t : ℕ) → WritesBytes h →
      output_edges pin t (output (pulses_at h t)) ≡ edge_between pin (pulse_before is_own h t) (pulse is_own h t)
  edges_at pin h t bytes =
      ap (output_edges pin t) (output_at h t)
      ∙ ap (λ b. edge_between pin b (level (if t % period == 0 then width_before is_own h t else in_force_at is_own h t) t)) (level_before_is is_own h t bytes)
      ∙ ap (λ w. edge_between pin (pulse_before is_own h t) (level w t)) (in_force_next is_own h t)

pub by_widths : PulsesAreByWidths
by_widths h t bytes =
    ap (λ es. es ++ (output_edges pwm1 t (pulses_at h t).second ++ output_edges pwm2 t (pulses_at h t).third))
    (edges_at (λ d. d.first) is_first (λ w s v d. refl) (λ t d. refl) refl pwm0 h t bytes)
    ∙ ap (λ es. edge_between pwm0 (pulse_before is_first h t) (pulse is_first h t) ++ (es ++ output_edges pwm2 t (pulses_at h t).third))
    (edges_at (λ d. d.second) is_second (λ w s v d. refl) (λ t d. refl) refl pwm1 h t bytes)
    ∙ ap (λ es. edge_between pwm0 (pulse_before is_first h t) (pulse is_first h t) ++ (edge_between pwm1 (pulse_before is_second h t) (pulse is_second h t) ++ es))
    (edges_at (λ d. d.third) is_third (λ w s v d. refl) (λ t d. refl) refl pwm2 h t bytes)

-- Laws of Timer 2 over a span without inputs.
use Rattle.std.proofs.Common.{◌≡◌, ℕ, zero, suc, ◌+◌, ◌-◌, ◌*◌, ◌/◌, ◌%◌, ◌<◌, ◌≤◌, ◌==◌, Bool, true, false, ◌&&◌, ◌||◌, refl, sym, ap, arith, add-zero, add-suc, subst}
use Rattle.std.specs.Prelude.{if◌then◌else◌}
use Rattle.std.proofs.lemmas.Bool.Decides.{nat_tests}
use Rattle.kc_span.specs.Span.{after, QuietFor, DueAt}
use Rattle.kc_span.proofs.SpanLaws.{after-zero, after-suc}
use Rattle.kc_timers.specs.declared.T2Control.{T2Control}
use Rattle.kc_timers.specs.T2.{T2, is_count, counted, last_before, timer2_rule, counts_in, counts_left, every_of, moved, value_at, view_of}

-- one more state counts once more, or not
eighth_step : (from t : ℕ) → from ≤ t → suc t / 8 - from / 8 ≡ (if (t % 8 == 7) then suc (t / 8 - from / 8) else (t / 8 - from / 8))
eighth_step from t h = grind (arith, nat_tests)

each_step : (from t : ℕ) → from ≤ t → suc t - from ≡ suc (t - from)
each_step from t h = omega arith

moved_zero : (down : Bool) (v : ℕ) → v < 65536 → moved down v 0 ≡ v
moved_zero true v h = omega arith
moved_zero false v h = omega arith

moved_suc : (down : Bool) (v n : ℕ) → moved down v (suc n) ≡ counted down (moved down v n)
moved_suc true v n = omega arith
moved_suc false v n = omega arith

-- the number of counts in a span that is one state longer
counts_suc_by : (internal fast : Bool) (from t : ℕ) → from ≤ t →
    counts_in (if internal then (if fast then 1 else 8) else 0) from (suc t) ≡
    (if (if internal then (fast || (t % 8 == 7)) else false)
    then suc (counts_in (if internal then (if fast then 1 else 8) else 0) from t)
    else (counts_in (if internal then (if fast then 1 else 8) else 0) from t))
counts_suc_by false fast from t h = refl
counts_suc_by true true from t h = each_step from t h
counts_suc_by true false from t h = eighth_step from t h

counts_suc : (control : T2Control) (from t : ℕ) → from ≤ t →
    counts_in (every_of control) from (suc t) ≡
    (if is_count control false t then suc (counts_in (every_of control) from t) else (counts_in (every_of control) from t))
counts_suc control from t h = counts_suc_by control.internal control.fast from t h

moved_if : (b down : Bool) (v n : ℕ) → moved down v (if b then suc n else n) ≡ (if b then counted down (moved down v n) else moved down v n)
moved_if true down v n = moved_suc down v n
moved_if false down v n = refl

counts_none_by : (internal fast : Bool) (from : ℕ) → counts_in (if internal then (if fast then 1 else 8) else 0) from from ≡ 0
counts_none_by false fast from = refl
counts_none_by true true from = omega arith
counts_none_by true false from = omega arith

counts_none : (control : T2Control) (from : ℕ) → counts_in (every_of control) from from ≡ 0
counts_none control from = counts_none_by control.internal control.fast from

-- Timer 2 after a span in which no input has an edge, whatever it passes
pub timer2_after : (control : T2Control) (from n : ℕ) (d : T2) → d.value < 65536 →
    after (timer2_rule control) from n d ≡ record { value = moved control.down d.value (counts_in (every_of control) from (from + n)); captured = d.captured }
timer2_after control from zero d h = rw (after-zero, add-zero, counts_none control from, moved_zero control.down d.value h) refl
timer2_after control from (suc n) d h =
    let step : from ≤ from + n = omega arith in
    rw (after-suc, timer2_after control from n d h, add-suc from n, counts_suc control from (from + n) step, moved_if) refl

-- the state in which the inner clock passes between FFFFH and 0, if nothing comes before
abbrev pub due_state : T2Control → ℕ → ℕ → ℕ
due_state control now value =
    let left = counts_left control.down value in
    if control.fast then now + left else now / 8 * 8 + 7 + 8 * left

early_fast_up : (v from t : ℕ) → v < 65536 → from ≤ t → t < from + (65535 - v) → ((v + (t - from)) % 65536 == 65535) ≡ false
early_fast_up v from t h le early = grind (arith, nat_tests)

early_fast_down : (v from t : ℕ) → v < 65536 → from ≤ t → t < from + v → ((v + (t - from) * 65535) % 65536 == 0) ≡ false
early_fast_down v from t h le early = grind (arith, nat_tests)

early_slow_up : (v from t : ℕ) → v < 65536 → from ≤ t → t < from / 8 * 8 + 7 + 8 * (65535 - v) →
    ((t % 8 == 7) && ((v + (t / 8 - from / 8)) % 65536 == 65535)) ≡ false
early_slow_up v from t h le early = grind (arith, nat_tests)

early_slow_down : (v from t : ℕ) → v < 65536 → from ≤ t → t < from / 8 * 8 + 7 + 8 * v →
    ((t % 8 == 7) && ((v + (t / 8 - from / 8) * 65535) % 65536 == 0)) ≡ false
early_slow_down v from t h le early = grind (arith, nat_tests)

late_fast_up : (v from : ℕ) → v < 65536 → ((v + (from + (65535 - v) - from)) % 65536 == 65535) ≡ true
late_fast_up v from h = grind (arith, nat_tests)

late_fast_down : (v from : ℕ) → v < 65536 → ((v + (from + v - from) * 65535) % 65536 == 0) ≡ true
late_fast_down v from h = grind (arith, nat_tests)

late_slow_up : (v from : ℕ) → v < 65536 →
    (((from / 8 * 8 + 7 + 8 * (65535 - v)) % 8 == 7) && ((v + ((from / 8 * 8 + 7 + 8 * (65535 - v)) / 8 - from / 8)) % 65536 == 65535)) ≡ true
late_slow_up v from h = grind (arith, nat_tests)

late_slow_down : (v from : ℕ) → v < 65536 →
    (((from / 8 * 8 + 7 + 8 * v) % 8 == 7) && ((v + ((from / 8 * 8 + 7 + 8 * v) / 8 - from / 8) * 65535) % 65536 == 0)) ≡ true
late_slow_down v from h = grind (arith, nat_tests)

abbrev due_by : Bool → Bool → ℕ → ℕ → ℕ
due_by fast down from v =
    let left = if down then v else 65535 - v in
    if fast then from + left else from / 8 * 8 + 7 + 8 * left

abbrev passes : Bool → Bool → ℕ → ℕ → ℕ → Bool
passes fast down v from t = (fast || (t % 8 == 7)) && (moved down v (counts_in (if fast then 1 else 8) from t) == last_before down)

early : (fast down : Bool) (v from t : ℕ) → v < 65536 → from ≤ t → t < due_by fast down from v → passes fast down v from t ≡ false
early true true v from t h le lt = early_fast_down v from t h le lt
early true false v from t h le lt = early_fast_up v from t h le lt
early false true v from t h le lt = early_slow_down v from t h le lt
early false false v from t h le lt = early_slow_up v from t h le lt

late : (fast down : Bool) (v from : ℕ) → v < 65536 → passes fast down v from (due_by fast down from v) ≡ true
late true true v from h = late_fast_down v from h
late true false v from h = late_fast_up v from h
late false true v from h = late_slow_down v from h
late false false v from h = late_slow_up v from h

not_early : (fast down : Bool) (v from : ℕ) → v < 65536 → from ≤ due_by fast down from v
not_early true down v from h = omega arith
not_early false true v from h = omega arith
not_early false false v from h = omega arith

-- on the inner clock Timer 2 is due where it passes between FFFFH and 0
pub timer2_due : (control : T2Control) (now : ℕ) (d : T2) → d.value < 65536 → control.internal ≡ true →
    DueAt (timer2_rule control) now d (due_state control now d.value)
timer2_due control now d h inner = record {
  later = not_early control.fast control.down d.value now h;
  before = λ k lt.
      let sooner : now + k < due_by control.fast control.down now d.value = omega arith in
      let le : now ≤ now + k = omega arith in
      rw (timer2_after control now k d h, inner, early control.fast control.down d.value now (now + k) h le sooner) refl;
  active =
      let le : now ≤ due_by control.fast control.down now d.value = not_early control.fast control.down d.value now h in
      let e : now + (due_by control.fast control.down now d.value - now) ≡ due_by control.fast control.down now d.value = omega arith in
      rw (timer2_after control now (due_by control.fast control.down now d.value - now) d h, e, inner, late control.fast control.down d.value now h) refl;
}

-- without the inner clock it is never due
pub timer2_never : (control : T2Control) (now : ℕ) (d : T2) → control.internal ≡ false → (n : ℕ) → QuietFor (timer2_rule control) now n d
timer2_never control now d outer n k lt = rw outer refl

-- the same state, as the inner clock is fast or not
pub due_fast : (control : T2Control) (now left : ℕ) (d : T2) → d.value < 65536 → control.internal ≡ true → control.fast ≡ true →
    left ≡ counts_left control.down d.value → DueAt (timer2_rule control) now d (now + left)
due_fast control now left d h inner fast e = subst (λ at. DueAt (timer2_rule control) now d at) (by control.fast fast) (timer2_due control now d h inner)
  where
    by : (b : Bool) → b ≡ true → (if b then now + counts_left control.down d.value else now / 8 * 8 + 7 + 8 * counts_left control.down d.value) ≡ now + left
    by true is = ap (λ l. now + l) (sym e)
    by false is = cc

pub due_slow : (control : T2Control) (now left : ℕ) (d : T2) → d.value < 65536 → control.internal ≡ true → control.fast ≡ false →
    left ≡ counts_left control.down d.value → DueAt (timer2_rule control) now d (now / 8 * 8 + 7 + 8 * left)
due_slow control now left d h inner slow e = subst (λ at. DueAt (timer2_rule control) now d at) (by control.fast slow) (timer2_due control now d h inner)
  where
    by : (b : Bool) → b ≡ false → (if b then now + counts_left control.down d.value else now / 8 * 8 + 7 + 8 * counts_left control.down d.value) ≡ now / 8 * 8 + 7 + 8 * left
    by true is = cc
    by false is = ap (λ l. now / 8 * 8 + 7 + 8 * l) (sym e)

-- a view gives the value after as many Ticks
pub view_shows : (control : T2Control) (from to : ℕ) (d : T2) → d.value < 65536 → from ≤ to →
    value_at (view_of control d) from to ≡ (after (timer2_rule control) from (to - from) d).value
view_shows control from to d h le =
    let whole : from + (to - from) ≡ to = omega arith in
    rw (timer2_after control from (to - from) d h, whole) refl

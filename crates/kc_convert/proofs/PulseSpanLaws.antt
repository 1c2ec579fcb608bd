-- A pulse-width output over a span, and the state of its next edge.
use Rattle.std.proofs.Common.{◌≡◌, ℕ, zero, suc, ◌+◌, ◌-◌, ◌*◌, ◌%◌, ◌<◌, ◌≤◌, ◌==◌, Bool, true, false, not, refl, sym, ◌∙◌, ap, subst, arith, inl, inr}
use Rattle.std.specs.Prelude.{nat_lt, if◌then◌else◌}
use Rattle.std.proofs.lemmas.Bool.{cases_lt, cases_eq, ne_eqb, eq-eqb, lt-ltb, le-ltb}
use Rattle.kc_span.specs.Span.{after, QuietFor, DueAt}
use Rattle.kc_span.proofs.SpanLaws.{after-zero, after-suc}
use Rattle.kc_extra.specs.Further.{is_empty}
use Rattle.kc_convert.specs.declared.pulses.Output.{Output}
use Rattle.kc_convert.specs.Pulsing.{period, taken_over, edge_between, output_edges, output_rule}
use Rattle.kc_convert.specs.PulseSpans.{periods_before, width_after, output_after}

-- no period begins in no states
none_begins : (from : ℕ) → nat_lt (periods_before from) (periods_before (from + 0)) ≡ false
none_begins from = le-ltb (periods_before from) (periods_before (from + 0)) (omega arith)

-- a period begins in the last of these states
last_begins : (from n : ℕ) → (from + n) % 256 ≡ 0 → nat_lt (periods_before from) (periods_before (from + suc n)) ≡ true
last_begins from n start = lt-ltb (periods_before from) (periods_before (from + suc n)) (omega arith)

-- none begins in the last of them
last_goes_on : (from n : ℕ) → ((from + n) % 256 ≡ 0 → ⊥) → periods_before (from + suc n) ≡ periods_before (from + n)
last_goes_on from n on = omega arith

width_next : (from n : ℕ) (o : Output) → (if (from + n) % period == 0 then o.written else width_after from n o) ≡ width_after from (suc n) o
width_next from n o = elim (cases_eq ((from + n) % 256) 0) [
  | inl start ↦ rw (eq-eqb ((from + n) % 256) 0 start, last_begins from n start) refl
  | inr on ↦ rw (ne_eqb ((from + n) % 256) 0 on) (ap (λ p. if nat_lt (periods_before from) p then o.written else o.in_force) (sym (last_goes_on from n on)))
]

pub output_spans : (pin from n : ℕ) (o : Output) → after (output_rule pin) from n o ≡ output_after from n o
output_spans pin from zero o =
    after-zero (output_rule pin) from o
    ∙ sym (ap (λ b. record { written = o.written; in_force = if b then o.written else o.in_force }) (none_begins from))
output_spans pin from (suc n) o =
    after-suc (output_rule pin) from n o
    ∙ ap (taken_over (from + n)) (output_spans pin from n o)
    ∙ ap (λ w. record { written = o.written; in_force = w }) (width_next from n o)

-- an edge between equal levels is none
no_edge : (pin : ℕ) (b h : Bool) → b ≡ h → is_empty (edge_between pin b h) ≡ true
no_edge pin true true e = refl
no_edge pin false false e = refl
no_edge pin true false e = absurd (cc)
no_edge pin false true e = absurd (cc)

an_edge : (pin : ℕ) (b h : Bool) → b ≡ not h → is_empty (edge_between pin b h) ≡ false
an_edge pin true true e = absurd (cc)
an_edge pin false false e = absurd (cc)
an_edge pin true false e = refl
an_edge pin false true e = refl

-- at the start of a period an output rises, where the width written is not 0
start_quiet : (pin t : ℕ) (o : Output) → t % 256 ≡ 0 → o.written ≡ 0 → is_empty (output_edges pin t o) ≡ true
start_quiet pin t o start none =
    let low : nat_lt (t % 256) o.written ≡ false = le-ltb (t % 256) o.written (omega arith) in
    rw (eq-eqb (t % 256) 0 start) (no_edge pin false (nat_lt (t % 256) o.written) (sym low))

start_rises : (pin t : ℕ) (o : Output) → t % 256 ≡ 0 → 0 < o.written → is_empty (output_edges pin t o) ≡ false
start_rises pin t o start some =
    let high : nat_lt (t % 256) o.written ≡ true = lt-ltb (t % 256) o.written (omega arith) in
    rw (eq-eqb (t % 256) 0 start) (an_edge pin false (nat_lt (t % 256) o.written) (ap not (sym high)))

-- elsewhere it falls, where the width in force is passed
on_quiet : (pin t : ℕ) (o : Output) → (t % 256 ≡ 0 → ⊥) → (t % 256 ≡ o.in_force → ⊥) → is_empty (output_edges pin t o) ≡ true
on_quiet pin t o on other =
    let place : (t - 1) % 256 + 1 ≡ t % 256 = omega arith in
    rw (ne_eqb (t % 256) 0 on) (no_edge pin (nat_lt ((t - 1) % 256) o.in_force) (nat_lt (t % 256) o.in_force) (elim (cases_lt (t % 256) o.in_force) [
      | inl high ↦ lt-ltb ((t - 1) % 256) o.in_force (omega arith) ∙ sym (lt-ltb (t % 256) o.in_force high)
      | inr low ↦ le-ltb ((t - 1) % 256) o.in_force (omega arith) ∙ sym (le-ltb (t % 256) o.in_force low)
    ]))

on_falls : (pin t : ℕ) (o : Output) → (t % 256 ≡ 0 → ⊥) → t % 256 ≡ o.in_force → is_empty (output_edges pin t o) ≡ false
on_falls pin t o on here =
    let place : (t - 1) % 256 + 1 ≡ t % 256 = omega arith in
    let before : nat_lt ((t - 1) % 256) o.in_force ≡ true = lt-ltb ((t - 1) % 256) o.in_force (omega arith) in
    let now : nat_lt (t % 256) o.in_force ≡ false = le-ltb (t % 256) o.in_force (omega arith) in
    rw (ne_eqb (t % 256) 0 on) (an_edge pin (nat_lt ((t - 1) % 256) o.in_force) (nat_lt (t % 256) o.in_force) (before ∙ ap not (sym now)))

-- no period has begun
in_force_still : (from n : ℕ) (o : Output) → periods_before (from + n) ≡ periods_before from → output_after from n o ≡ o
in_force_still from n o same =
    ap (λ b. record { written = o.written; in_force = if b then o.written else o.in_force })
    (le-ltb (periods_before from) (periods_before (from + n)) (omega arith))

module _ (pin now : ℕ) (o : Output) where
  -- quiet where the output that the span leaves is
  span_quiet : (n : ℕ) → ((k : ℕ) → k < n → is_empty (output_edges pin (now + k) (output_after now k o)) ≡ true) → QuietFor (output_rule pin) now n o
  span_quiet n quiet k lt = ap (λ d. is_empty (output_edges pin (now + k) d)) (output_spans pin now k o) ∙ quiet k lt

  -- in a period that has begun, with its fall ahead
  pub fall_due : (now % 256 ≡ 0 → ⊥) → now % 256 ≤ o.in_force → o.in_force < 256 → DueAt (output_rule pin) now o (now - now % 256 + o.in_force)
  fall_due on le byte =
      let span : now - now % 256 + o.in_force - now ≡ o.in_force - now % 256 = omega arith in
      let at : now + (o.in_force - now % 256) ≡ now - now % 256 + o.in_force = omega arith in
      record {
        later = omega arith;
        before = subst (λ n. QuietFor (output_rule pin) now n o) (sym span) (span_quiet (o.in_force - now % 256) (λ k lt.
            let place : (now + k) % 256 ≡ now % 256 + k = omega arith in
            let same : periods_before (now + k) ≡ periods_before now = omega arith in
            ap (λ d. is_empty (output_edges pin (now + k) d)) (in_force_still now k o same)
            ∙ on_quiet pin (now + k) o (λ e. omega arith) (λ e. omega arith)));
        active =
            let place : (now - now % 256 + o.in_force) % 256 ≡ o.in_force = omega arith in
            let same : periods_before (now + (o.in_force - now % 256)) ≡ periods_before now = omega arith in
            ap (λ n. is_empty (output_edges pin (now - now % 256 + o.in_force) (after (output_rule pin) now n o))) span
            ∙ ap (λ d. is_empty (output_edges pin (now - now % 256 + o.in_force) d)) (output_spans pin now (o.in_force - now % 256) o ∙ in_force_still now (o.in_force - now % 256) o same)
            ∙ on_falls pin (now - now % 256 + o.in_force) o (λ e. omega arith) place;
      }

  -- in a period in which it is low, or at its start
  low_quiet : ((now % 256 ≡ 0 → ⊥) → o.in_force < now % 256) → (k : ℕ) → now + k < periods_before now * 256 → is_empty (output_edges pin (now + k) (output_after now k o)) ≡ true
  low_quiet low k lt =
      let on : now % 256 ≡ 0 → ⊥ = λ e. omega arith in
      let less : o.in_force < now % 256 = low on in
      let place : (now + k) % 256 ≡ now % 256 + k = omega arith in
      let same : periods_before (now + k) ≡ periods_before now = omega arith in
      ap (λ d. is_empty (output_edges pin (now + k) d)) (in_force_still now k o same)
      ∙ on_quiet pin (now + k) o (λ e. omega arith) (λ e. omega arith)

  pub rise_due : ((now % 256 ≡ 0 → ⊥) → o.in_force < now % 256) → 0 < o.written → DueAt (output_rule pin) now o (periods_before now * 256)
  rise_due low some =
      let n : ℕ = periods_before now * 256 - now in
      let later : now ≤ periods_before now * 256 = omega arith in
      let start : (periods_before now * 256) % 256 ≡ 0 = omega arith in
      record {
        later = later;
        before = span_quiet (periods_before now * 256 - now) (λ k lt. low_quiet low k (omega arith));
        active =
            ap (λ d. is_empty (output_edges pin (periods_before now * 256) d)) (output_spans pin now (periods_before now * 256 - now) o)
            ∙ start_rises pin (periods_before now * 256) (output_after now (periods_before now * 256 - now) o) start some;
      }

  pub never_rises : ((now % 256 ≡ 0 → ⊥) → o.in_force < now % 256) → o.written ≡ 0 → (n : ℕ) → QuietFor (output_rule pin) now n o
  never_rises low none n = span_quiet n (λ k lt. elim (cases_lt (now + k) (periods_before now * 256)) [
    | inl sooner ↦ low_quiet low k sooner
    | inr begun ↦ elim (cases_eq ((now + k) % 256) 0) [
      | inl start ↦ start_quiet pin (now + k) (output_after now k o) start none
      | inr on ↦
          let grown : periods_before now < periods_before (now + k) = omega arith in
          let zero_width : width_after now k o ≡ 0 = ap (λ b. if b then o.written else o.in_force) (lt-ltb (periods_before now) (periods_before (now + k)) grown) ∙ none in
          on_quiet pin (now + k) (output_after now k o) on (λ e. on (e ∙ zero_width))
    ]
  ])

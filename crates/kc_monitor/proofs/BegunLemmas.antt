-- A machine of a form, before the first point, has all of the form's obligations still to report.
use Rattle.std.proofs.Common.{◌≡◌, ℕ, ◌+◌, ◌-◌, ◌^◌, ◌≤◌, min, Bool, List, [], ◌∷◌, length, None, sym, ap, ◌∙◌, inl, inr, arith}
use Rattle.std.specs.Prelude.{filter, if◌then◌else◌}
use Rattle.std.proofs.lemmas.Bool.{cases_Bool}
use Rattle.kc_rules.specs.declared.rule.Form.{Form}
use Rattle.kc_rules.specs.declared.rule.Form.TheVariants as forms
use Rattle.kc_monitor_forms.specs.declared.obligation.Point.{Point}
use Rattle.kc_monitor_forms.specs.declared.tally.Tally.{Tally}
use Rattle.kc_monitor_forms.specs.declared.after.After.{After}
use Rattle.kc_monitor_forms.specs.Tallies.{one_more, with_all}
use Rattle.kc_monitor_forms.specs.Obligations.{measured}
use Rattle.kc_monitor_forms.specs.Spans.{is_within}
use Rattle.kc_monitor_forms.specs.Never.{never, count_of}
use Rattle.kc_monitor_forms.specs.After.{after}
use Rattle.kc_monitor_forms.specs.Apart.{Times}
use Rattle.kc_monitor_forms.specs.Sides.{asked_from}
use Rattle.kc_monitor_forms.specs.Machines.{count_with, counted_rest, placed_rest, gaps_rest, duty_rest, in_life_rest, after_total, waiting_total}
use Rattle.kc_monitor_forms.proofs.PointLemmas.{counted_kept, placed_kept}
use Rattle.kc_monitor_forms.proofs.SideLemmas.{apart_kept}
use Rattle.kc_monitor.specs.declared.machine.Machine.{Machine}
use Rattle.kc_monitor.specs.declared.machine.Machine.TheVariants as machines
use Rattle.kc_monitor.specs.Rules.{asked}
use Rattle.kc_monitor.specs.Machines.{machine_total, IsBegun}

-- ---- a count

count_all : (n : ℕ) (points : List Point) → n ≤ 2 ^ 64 - 1 → count_with n points ≡ min (n + length (filter (λ p. p.event) points)) (2 ^ 64 - 1)
unfolding count_with
count_all n [] le = omega arith
count_all n (p ∷ points) le = elim (cases_Bool p.event) [
  | inl is ↦
      let more : one_more n ≤ 2 ^ 64 - 1 = omega arith in
      rw is (count_all (one_more n) points more ∙ omega arith)
  | inr other ↦ rw other (count_all n points le)
]

count_begun : (points : List Point) → count_with 0 points ≡ count_of points
count_begun points = count_all 0 points (omega arith) ∙ omega arith

-- ---- each form

after_begun : (life : ℕ) (tally : Tally) (m : After) (none : Bool) (a b end : ℕ) (points : List Point) → m.none ≡ none → m.least ≡ a → m.most ≡ b →
    m.waiting.items ≡ [] → m.late ≡ None → after_total life tally m end points ≡ with_all life tally (after none a b end points)
after_begun life tally m none a b end points is_none is_least is_most waiting late =
    λ i. waiting_total life tally (is_none i) (is_least i) (is_most i) (late i) (waiting i) end points

pub begun_total : (life : ℕ) (tally : Tally) (form : Form) (machine : Machine) (first end : ℕ) (points : List Point) (one other : Times) → IsBegun form machine →
    machine_total life tally machine first end points one other first ≡ with_all life tally (asked form first end points one other)
begun_total life tally (forms.Never e) (machines.Never m) first end points one other is =
    ap (λ b. with_all life tally (if b then [] else never first points)) is
begun_total life tally (forms.After f none e a b) (machines.After m) first end points one other is =
    after_begun life tally m none a b end points is.0 is.1 is.2 is.3 is.4
begun_total life tally (forms.At e share f g within) (machines.Placed m) first end points one other is =
    ap (λ m. with_all life tally (placed_rest m.share m.within m.piece points)) is ∙ ap (λ os. with_all life tally os) (sym (placed_kept share within None points))
begun_total life tally (forms.For steady span) (machines.Gaps m) first end points one other is = ap (λ m. with_all life tally (gaps_rest m end points)) is
begun_total life tally (forms.ForShare steady shares) (machines.Duty m) first end points one other is = ap (λ m. with_all life tally (duty_rest m points)) is
begun_total life tally (forms.Every e span) (machines.Gaps m) first end points one other is = ap (λ m. with_all life tally (gaps_rest m end points)) is
begun_total life tally (forms.InEach span e f g) (machines.Counted m) first end points one other is =
    ap (λ m. with_all life tally (counted_rest m.span m.piece points)) is ∙ ap (λ os. with_all life tally os) (sym (counted_kept span None points))
begun_total life tally (forms.InLife span e) (machines.InLife m) first end points one other is =
    ap (λ m. with_all life tally (in_life_rest m first points)) is
    ∙ ap (λ n. with_all life tally (measured first n (is_within span n) ∷ [])) (count_begun points)
begun_total life tally (forms.Apart s u d) (machines.Apart m) first end points one other is =
    ap (λ m. with_all life tally (asked_from m.distance m.one m.other one other first (end - first))) is
    ∙ ap (λ os. with_all life tally os) (sym (apart_kept d first end one other))
begun_total life tally (forms.Never e) (machines.After m) first end points one other is = absurd is
begun_total life tally (forms.Never e) (machines.Placed m) first end points one other is = absurd is
begun_total life tally (forms.Never e) (machines.Gaps m) first end points one other is = absurd is
begun_total life tally (forms.Never e) (machines.Duty m) first end points one other is = absurd is
begun_total life tally (forms.Never e) (machines.Counted m) first end points one other is = absurd is
begun_total life tally (forms.Never e) (machines.InLife m) first end points one other is = absurd is
begun_total life tally (forms.Never e) (machines.Apart m) first end points one other is = absurd is
begun_total life tally (forms.After f none e a b) (machines.Never m) first end points one other is = absurd is
begun_total life tally (forms.After f none e a b) (machines.Placed m) first end points one other is = absurd is
begun_total life tally (forms.After f none e a b) (machines.Gaps m) first end points one other is = absurd is
begun_total life tally (forms.After f none e a b) (machines.Duty m) first end points one other is = absurd is
begun_total life tally (forms.After f none e a b) (machines.Counted m) first end points one other is = absurd is
begun_total life tally (forms.After f none e a b) (machines.InLife m) first end points one other is = absurd is
begun_total life tally (forms.After f none e a b) (machines.Apart m) first end points one other is = absurd is
begun_total life tally (forms.At e share f g within) (machines.Never m) first end points one other is = absurd is
begun_total life tally (forms.At e share f g within) (machines.After m) first end points one other is = absurd is
begun_total life tally (forms.At e share f g within) (machines.Gaps m) first end points one other is = absurd is
begun_total life tally (forms.At e share f g within) (machines.Duty m) first end points one other is = absurd is
begun_total life tally (forms.At e share f g within) (machines.Counted m) first end points one other is = absurd is
begun_total life tally (forms.At e share f g within) (machines.InLife m) first end points one other is = absurd is
begun_total life tally (forms.At e share f g within) (machines.Apart m) first end points one other is = absurd is
begun_total life tally (forms.For steady span) (machines.Never m) first end points one other is = absurd is
begun_total life tally (forms.For steady span) (machines.After m) first end points one other is = absurd is
begun_total life tally (forms.For steady span) (machines.Placed m) first end points one other is = absurd is
begun_total life tally (forms.For steady span) (machines.Duty m) first end points one other is = absurd is
begun_total life tally (forms.For steady span) (machines.Counted m) first end points one other is = absurd is
begun_total life tally (forms.For steady span) (machines.InLife m) first end points one other is = absurd is
begun_total life tally (forms.For steady span) (machines.Apart m) first end points one other is = absurd is
begun_total life tally (forms.ForShare steady shares) (machines.Never m) first end points one other is = absurd is
begun_total life tally (forms.ForShare steady shares) (machines.After m) first end points one other is = absurd is
begun_total life tally (forms.ForShare steady shares) (machines.Placed m) first end points one other is = absurd is
begun_total life tally (forms.ForShare steady shares) (machines.Gaps m) first end points one other is = absurd is
begun_total life tally (forms.ForShare steady shares) (machines.Counted m) first end points one other is = absurd is
begun_total life tally (forms.ForShare steady shares) (machines.InLife m) first end points one other is = absurd is
begun_total life tally (forms.ForShare steady shares) (machines.Apart m) first end points one other is = absurd is
begun_total life tally (forms.Every e span) (machines.Never m) first end points one other is = absurd is
begun_total life tally (forms.Every e span) (machines.After m) first end points one other is = absurd is
begun_total life tally (forms.Every e span) (machines.Placed m) first end points one other is = absurd is
begun_total life tally (forms.Every e span) (machines.Duty m) first end points one other is = absurd is
begun_total life tally (forms.Every e span) (machines.Counted m) first end points one other is = absurd is
begun_total life tally (forms.Every e span) (machines.InLife m) first end points one other is = absurd is
begun_total life tally (forms.Every e span) (machines.Apart m) first end points one other is = absurd is
begun_total life tally (forms.InEach span e f g) (machines.Never m) first end points one other is = absurd is
begun_total life tally (forms.InEach span e f g) (machines.After m) first end points one other is = absurd is
begun_total life tally (forms.InEach span e f g) (machines.Placed m) first end points one other is = absurd is
begun_total life tally (forms.InEach span e f g) (machines.Gaps m) first end points one other is = absurd is
begun_total life tally (forms.InEach span e f g) (machines.Duty m) first end points one other is = absurd is
begun_total life tally (forms.InEach span e f g) (machines.InLife m) first end points one other is = absurd is
begun_total life tally (forms.InEach span e f g) (machines.Apart m) first end points one other is = absurd is
begun_total life tally (forms.InLife span e) (machines.Never m) first end points one other is = absurd is
begun_total life tally (forms.InLife span e) (machines.After m) first end points one other is = absurd is
begun_total life tally (forms.InLife span e) (machines.Placed m) first end points one other is = absurd is
begun_total life tally (forms.InLife span e) (machines.Gaps m) first end points one other is = absurd is
begun_total life tally (forms.InLife span e) (machines.Duty m) first end points one other is = absurd is
begun_total life tally (forms.InLife span e) (machines.Counted m) first end points one other is = absurd is
begun_total life tally (forms.InLife span e) (machines.Apart m) first end points one other is = absurd is
begun_total life tally (forms.Apart s u d) (machines.Never m) first end points one other is = absurd is
begun_total life tally (forms.Apart s u d) (machines.After m) first end points one other is = absurd is
begun_total life tally (forms.Apart s u d) (machines.Placed m) first end points one other is = absurd is
begun_total life tally (forms.Apart s u d) (machines.Gaps m) first end points one other is = absurd is
begun_total life tally (forms.Apart s u d) (machines.Duty m) first end points one other is = absurd is
begun_total life tally (forms.Apart s u d) (machines.Counted m) first end points one other is = absurd is
begun_total life tally (forms.Apart s u d) (machines.InLife m) first end points one other is = absurd is

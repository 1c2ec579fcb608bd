-- What a machine has reported, with what it has still to report, from state to state.
use Rattle.std.proofs.Common.{◌≡◌, ℕ, suc, ◌+◌, ◌-◌, ◌<◌, ◌≤◌, Bool, List, [], ◌∷◌, ◌++◌, Option, get_or, drop, length, refl, sym, ap, subst, ◌∙◌, arith, add-one, drop-cons}
use Rattle.kc_base.specs.declared.types.Level.{Level}
use Rattle.kc_trace.specs.declared.life.Signal.{Signal}
use Rattle.kc_trace.specs.declared.life.What.{What}
use Rattle.kc_rules.specs.declared.amount.Share.{Share}
use Rattle.kc_rules.specs.declared.rule.Shares.{Shares}
use Rattle.kc_rules.specs.declared.rule.Within.{Within}
use Rattle.kc_rules.specs.declared.rule.Form.{Form}
use Rattle.kc_rules.specs.declared.rule.Form.TheVariants as forms
use Rattle.kc_monitor_forms.specs.declared.obligation.Point.{Point}
use Rattle.kc_monitor_forms.specs.declared.tally.Tally.{Tally}
use Rattle.kc_monitor_forms.specs.declared.pieces.Piece.{Piece}
use Rattle.kc_monitor_forms.specs.declared.shares.Kept.{Kept}
use Rattle.kc_monitor_forms.specs.declared.shares.Kept.TheVariants as kept
use Rattle.kc_monitor_forms.specs.declared.apart.Side.{Side}
use Rattle.kc_monitor_forms.specs.Tallies.{with_all}
use Rattle.kc_monitor_forms.specs.Apart.{Times}
use Rattle.kc_monitor_forms.specs.Sides.{asked_from}
use Rattle.kc_monitor_forms.specs.Shares.{among}
use Rattle.kc_monitor_forms.specs.Machines.{placed_rest, kept_points, IsOrderedFrom}
use Rattle.kc_monitor_forms.proofs.TallyLemmas.{with_all_none}
use Rattle.kc_monitor_forms.proofs.AfterLemmas.{upto_later}
use Rattle.kc_monitor_forms.proofs.SideLemmas.{from_later, from_none}
use Rattle.kc_monitor.specs.declared.machine.Machine.{Machine}
use Rattle.kc_monitor.specs.declared.machine.Machine.TheVariants as machines
use Rattle.kc_monitor.specs.Seens.{Seen}
use Rattle.kc_monitor.specs.Rules.{point_at}
use Rattle.kc_monitor.specs.Machines.{machine_total, IsReady, IsLevel}
use Rattle.kc_monitor.specs.Watching.{points_at}

-- ---- a scope is over

pub placed_over : (life : ℕ) (tally : Tally) (share : Share) (within : Within) (piece : Option Piece) → with_all life tally (placed_rest share within piece []) ≡ tally
unfolding placed_rest
placed_over life tally share within piece = with_all_none life tally

pub duty_over : (life : ℕ) (tally : Tally) (shares : Shares) (k : Kept) → with_all life tally (among shares (kept_points k ++ [])) ≡ tally
unfolding among
duty_over life tally shares kept.Nothing = with_all_none life tally
duty_over life tally shares (kept.One a) = with_all_none life tally
duty_over life tally shares (kept.Two a b) = with_all_none life tally

pub apart_over : (life : ℕ) (tally : Tally) (distance end : ℕ) (has_one has_other : Times) (one other : Side) →
    with_all life tally (asked_from distance one other has_one has_other end (end - end)) ≡ tally
apart_over life tally distance end has_one has_other one other =
    ap (λ os. with_all life tally os) (from_none distance end has_one has_other one other) ∙ with_all_none life tally

-- ---- states in which nothing happens

pub machine_later : (life : ℕ) (tally : Tally) (machine : Machine) (first end : ℕ) (points : List Point) (one other : Times) (t later : ℕ) (one_on other_on : Bool) →
    IsLevel machine one_on other_on → t ≤ later → later ≤ end → ((i : ℕ) → t ≤ i → i < later → one i ≡ one_on) → ((i : ℕ) → t ≤ i → i < later → other i ≡ other_on) →
    machine_total life tally machine first end points one other t ≡ machine_total life tally machine first end points one other later
machine_later life tally (machines.Never m) first end points one other t later one_on other_on level le within kept_one kept_other = refl
machine_later life tally (machines.After m) first end points one other t later one_on other_on level le within kept_one kept_other = refl
machine_later life tally (machines.Placed m) first end points one other t later one_on other_on level le within kept_one kept_other = refl
machine_later life tally (machines.Gaps m) first end points one other t later one_on other_on level le within kept_one kept_other = refl
machine_later life tally (machines.Duty m) first end points one other t later one_on other_on level le within kept_one kept_other = refl
machine_later life tally (machines.Counted m) first end points one other t later one_on other_on level le within kept_one kept_other = refl
machine_later life tally (machines.InLife m) first end points one other t later one_on other_on level le within kept_one kept_other = refl
machine_later life tally (machines.Apart m) first end points one other t later one_on other_on level le within kept_one kept_other =
    ap (λ os. with_all life tally os) (from_later m.distance t later end one other m.one m.other le within
    (λ i from to. kept_one i from to ∙ sym level.0) (λ i from to. kept_other i from to ∙ sym level.1))

pub same_machine : {life life2 : ℕ} {tally tally2 : Tally} {machine machine2 : Machine} (first end : ℕ) (points : List Point) (one other : Times) (next : ℕ) →
    life ≡ life2 → tally ≡ tally2 → machine ≡ machine2 →
    machine_total life tally machine first end points one other next ≡ machine_total life2 tally2 machine2 first end points one other next
same_machine first end points one other next l t m = λ i. machine_total (l i) (t i) (m i) first end points one other next

-- ---- the points of a state

pub point_state : (levels : Signal → Level) (form : Form) (at : ℕ) (what : What) (marks : List Bool) → (point_at levels form at what marks).at ≡ at
point_state levels (forms.Never e) at what marks = refl
point_state levels (forms.After f none e a b) at what marks = refl
point_state levels (forms.At e share f g within) at what marks = refl
point_state levels (forms.For steady span) at what marks = refl
point_state levels (forms.ForShare steady shares) at what marks = refl
point_state levels (forms.Every e span) at what marks = refl
point_state levels (forms.InEach span e f g) at what marks = refl
point_state levels (forms.InLife span e) at what marks = refl
point_state levels (forms.Apart one other d) at what marks = refl

pub points_next : (form : Form) (at : ℕ) (levels : Signal → Level) (seens : List Seen) (i : ℕ) (s : Seen) (p : Point) → i < length seens → s ≡ get_or seens i s →
    p ≡ point_at levels form at s.what s.marks → points_at form at levels (drop i seens) ≡ p ∷ points_at form at levels (drop (i + 1) seens)
points_next form at levels seens i s p less is here =
    ap (λ ss. points_at form at levels ss) (drop-cons seens i s less)
    ∙ ap (λ x. point_at levels form at x.what x.marks ∷ points_at form at levels (drop (suc i) seens)) (sym is)
    ∙ ap (λ q. q ∷ points_at form at levels (drop (suc i) seens)) (sym here)
    ∙ ap (λ k. p ∷ points_at form at levels (drop k seens)) (sym (add-one i))

pub ordered_at : (form : Form) (at : ℕ) (levels : Signal → Level) (seens : List Seen) (points : List Point) → IsOrderedFrom at points →
    IsOrderedFrom at (points_at form at levels seens ++ points)
unfolding IsOrderedFrom
ordered_at form at levels [] points order = order
ordered_at form at levels (s ∷ seens) points order =
    let here : at ≡ (point_at levels form at s.what s.marks).at = sym (point_state levels form at s.what s.marks) in
    let le : at ≤ (point_at levels form at s.what s.marks).at = omega (arith, here) in
    (le, rw (point_state levels form at s.what s.marks) (ordered_at form at levels seens points order))

pub ready_same : {life life2 at at2 : ℕ} (tally : Tally) (machine : Machine) → life ≡ life2 → at ≡ at2 → IsReady life tally machine at → IsReady life2 tally machine at2
ready_same {life} {life2} {at} {at2} tally machine l a ready = subst (λ x. IsReady x tally machine at2) l (subst (λ y. IsReady life tally machine y) a ready)

pub ready_by : {life life2 : ℕ} {tally tally2 : Tally} {machine machine2 : Machine} (at : ℕ) → life ≡ life2 → tally ≡ tally2 → machine ≡ machine2 →
    IsReady life tally machine at → IsReady life2 tally2 machine2 at
ready_by {life} {life2} {tally} {tally2} {machine} {machine2} at l t m ready =
    subst (λ x. IsReady x tally2 machine2 at) l (subst (λ y. IsReady life y machine2 at) t (subst (λ z. IsReady life tally z at) m ready))

pub ready_later : (life : ℕ) (tally : Tally) (machine : Machine) (at later : ℕ) → at ≤ later → IsReady life tally machine at → IsReady life tally machine later
ready_later life tally (machines.After m) at later le ready = record {
  rising = ready.rising;
  upto = upto_later at later m.waiting.items le ready.upto;
  past = omega (arith, ready.past);
  late = ready.late;
  reported = ready.reported;
}
ready_later life tally (machines.Never m) at later le ready = tt
ready_later life tally (machines.Placed m) at later le ready = tt
ready_later life tally (machines.Gaps m) at later le ready = tt
ready_later life tally (machines.Duty m) at later le ready = tt
ready_later life tally (machines.Counted m) at later le ready = tt
ready_later life tally (machines.InLife m) at later le ready = tt
ready_later life tally (machines.Apart m) at later le ready = tt

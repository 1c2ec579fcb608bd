-- What a monitor has reported, with what it has still to report, from moment to moment.
use Rattle.std.proofs.Common.{◌≡◌, ℕ, ◌+◌, ◌<◌, ◌≤◌, true, false, cond, ◌&&◌, leb, ltb, List, [], ◌∷◌, ◌++◌, Option, Some, None, refl, sym, ap, subst, ◌∙◌, ◌⊎◌, inl, inr, arith}
use Rattle.std.specs.Prelude.{filter, flat_map, IfSome}
use Rattle.std.proofs.lemmas.Bool.{cases_Bool, cond-true, cond-false, le-leb, lt-leb, lt-ltb, le-ltb, leb-true, leb-false}
use Rattle.std.proofs.lemmas.List.Elements.{filter-append}
use Rattle.kc_base.specs.declared.types.Level.{Level}
use Rattle.kc_trace.specs.declared.life.Signal.{Signal}
use Rattle.kc_rules.specs.declared.rule.Form.{Form}
use Rattle.kc_rules.specs.declared.rule.When.{When}
use Rattle.kc_rules.specs.declared.rule.When.TheVariants as whens
use Rattle.kc_monitor_forms.specs.declared.obligation.Point.{Point}
use Rattle.kc_monitor_forms.specs.Apart.{Times}
use Rattle.kc_monitor_forms.specs.Machines.{IsOrderedFrom}
use Rattle.kc_monitor.specs.declared.monitor.Monitor.{Monitor}
use Rattle.kc_monitor.specs.Seens.{Seen}
use Rattle.kc_monitor.specs.Rules.{or_end, is_between, point_at}
use Rattle.kc_monitor.specs.Machines.{machine_total}
use Rattle.kc_monitor.specs.Watching.{Moment, AreMomentsFrom, comes, state_of, first_moment, first_in, end_by, end_in, points_at, points_in, start_of, total_in, from_after, past, end_now, IsFirst}
use Rattle.kc_monitor.proofs.MachineLemmas.{point_state, ordered_at}

-- ---- points within a scope

is_in : (first end at : ℕ) → first ≤ at → at < end → (leb first at && ltb at end) ≡ true
is_in first end at from to = rw (le-leb first at from, lt-ltb at end to) refl

is_before : (first end at : ℕ) → at < first → (leb first at && ltb at end) ≡ false
is_before first end at less = rw (lt-leb first at less) refl

is_behind : (first end at : ℕ) → end ≤ at → (leb first at && ltb at end) ≡ false
is_behind first end at le = elim (cases_Bool (leb first at)) [
  | inl yet ↦ rw (yet, le-ltb at end le) refl
  | inr other ↦ rw other refl
]

between_at : (form : Form) (at : ℕ) (levels : Signal → Level) (s : Seen) (first end : ℕ) →
    is_between first end (point_at levels form at s.what s.marks) ≡ (leb first at && ltb at end)
between_at form at levels s first end = ap (λ t. leb first t && ltb t end) (point_state levels form at s.what s.marks)

all_in : (form : Form) (at : ℕ) (levels : Signal → Level) (seens : List Seen) (first end : ℕ) → (leb first at && ltb at end) ≡ true →
    filter (is_between first end) (points_at form at levels seens) ≡ points_at form at levels seens
all_in form at levels [] first end is = refl
all_in form at levels (s ∷ seens) first end is =
    let p = point_at levels form at s.what s.marks in
    cond-true (is_between first end p) (p ∷ filter (is_between first end) (points_at form at levels seens)) (filter (is_between first end) (points_at form at levels seens))
    (between_at form at levels s first end ∙ is)
    ∙ ap (λ ps. p ∷ ps) (all_in form at levels seens first end is)

none_in : (form : Form) (at : ℕ) (levels : Signal → Level) (seens : List Seen) (first end : ℕ) → (leb first at && ltb at end) ≡ false →
    filter (is_between first end) (points_at form at levels seens) ≡ []
none_in form at levels [] first end not = refl
none_in form at levels (s ∷ seens) first end not =
    let p = point_at levels form at s.what s.marks in
    cond-false (is_between first end p) (p ∷ filter (is_between first end) (points_at form at levels seens)) (filter (is_between first end) (points_at form at levels seens))
    (between_at form at levels s first end ∙ not)
    ∙ none_in form at levels seens first end not

split : (form : Form) (first end : ℕ) (m : Moment) (future : List Moment) →
    points_in form first end (m ∷ future) ≡ filter (is_between first end) (points_at form m.at m.levels m.seens) ++ points_in form first end future
split form first end m future =
    filter-append (is_between first end) (points_at form m.at m.levels m.seens) (flat_map (λ m. points_at form m.at m.levels m.seens) future)

pub points_take : (form : Form) (first end : ℕ) (m : Moment) (future : List Moment) → first ≤ m.at → m.at < end →
    points_in form first end (m ∷ future) ≡ points_at form m.at m.levels m.seens ++ points_in form first end future
points_take form first end m future from to =
    split form first end m future ∙ ap (λ ps. ps ++ points_in form first end future) (all_in form m.at m.levels m.seens first end (is_in first end m.at from to))

pub points_skip : (form : Form) (first end : ℕ) (m : Moment) (future : List Moment) → m.at < first →
    points_in form first end (m ∷ future) ≡ points_in form first end future
points_skip form first end m future less =
    split form first end m future ∙ ap (λ ps. ps ++ points_in form first end future) (none_in form m.at m.levels m.seens first end (is_before first end m.at less))

pub points_past : (form : Form) (first end next : ℕ) (future : List Moment) → end ≤ next → AreMomentsFrom next future → points_in form first end future ≡ []
unfolding AreMomentsFrom
points_past form first end next [] le order = refl
points_past form first end next (m ∷ future) le order =
    let behind : end ≤ m.at = omega (arith, order.0) in
    let later : end ≤ m.at + 1 = omega (arith, order.0) in
    split form first end m future
    ∙ ap (λ ps. ps ++ points_in form first end future) (none_in form m.at m.levels m.seens first end (is_behind first end m.at behind))
    ∙ points_past form first end (m.at + 1) future later order.1

pub ordered_more : (points : List Point) (before at : ℕ) → before ≤ at → IsOrderedFrom at points → IsOrderedFrom before points
unfolding IsOrderedFrom
ordered_more [] before at le order = tt
ordered_more (p ∷ points) before at le order = (omega (arith, order.0), order.1)

-- those in the scope are in order
pub ordered_in : (form : Form) (first end next : ℕ) (future : List Moment) → AreMomentsFrom next future → IsOrderedFrom next (points_in form first end future)
unfolding AreMomentsFrom IsOrderedFrom
ordered_in form first end next [] order = tt
ordered_in form first end next (m ∷ future) order =
    let rest : IsOrderedFrom (m.at + 1) (points_in form first end future) = ordered_in form first end (m.at + 1) future order.1 in
    let le : next ≤ m.at + 1 = omega (arith, order.0) in
    subst (λ ps. IsOrderedFrom next ps) (sym (split form first end m future)) (elim (cases_Bool (leb first m.at && ltb m.at end)) [
      | inl is ↦ subst (λ ps. IsOrderedFrom next (ps ++ points_in form first end future)) (sym (all_in form m.at m.levels m.seens first end is))
          (ordered_more (points_at form m.at m.levels m.seens ++ points_in form first end future) next m.at order.0
          (ordered_at form m.at m.levels m.seens (points_in form first end future) (ordered_more (points_in form first end future) m.at (m.at + 1) (omega arith) rest)))
      | inr not ↦ subst (λ ps. IsOrderedFrom next (ps ++ points_in form first end future)) (sym (none_in form m.at m.levels m.seens first end not))
          (ordered_more (points_in form first end future) next (m.at + 1) le rest)
    ])

-- ---- the first moment with an event

pub first_later : (when : Option When) (next : ℕ) (future : List Moment) → AreMomentsFrom next future → IfSome (first_moment when future) (λ t. next ≤ t)
unfolding AreMomentsFrom first_moment
first_later when next [] order = tt
first_later when next (m ∷ future) order = elim (cases_Bool (comes when m.seens m.levels)) [
  | inl does ↦ rw does order.0
  | inr other ↦ rw other (weaker (first_moment when future) next (m.at + 1) (omega (arith, order.0)) (first_later when (m.at + 1) future order.1))
]
  where
    weaker : (o : Option ℕ) (a b : ℕ) → a ≤ b → IfSome o (λ t. b ≤ t) → IfSome o (λ t. a ≤ t)
    weaker None a b le h = tt
    weaker (Some t) a b le h = omega arith

first_here : (when : Option When) (m : Moment) (future : List Moment) → comes when m.seens m.levels ≡ true → first_moment when (m ∷ future) ≡ Some m.at
unfolding first_moment
first_here when m future does = rw does refl

first_other : (when : Option When) (m : Moment) (future : List Moment) → comes when m.seens m.levels ≡ false → first_moment when (m ∷ future) ≡ first_moment when future
unfolding first_moment
first_other when m future other = rw other refl

-- a state is no event
pub first_none : (when : Option When) (end : ℕ) (future : List Moment) → state_of when ≡ Some end → first_moment when future ≡ None
unfolding first_moment
first_none when end [] is = refl
first_none None end (m ∷ future) is = cc
first_none (Some (whens.State at)) end (m ∷ future) is = first_none (Some (whens.State at)) end future is
first_none (Some (whens.Events es)) end (m ∷ future) is = cc

pub first_goes : (when : Option When) (from : Option ℕ) (m : Moment) (future : List Moment) →
    first_in when from (m ∷ future) ≡ first_in when (from_after when from m.at m.seens m.levels) future
first_goes when (Some f) m future = refl
first_goes when None m future = elim (cases_Bool (comes when m.seens m.levels)) [
  | inl does ↦ first_here when m future does ∙ sym (ap (λ o. first_in when o future) (cond-true (comes when m.seens m.levels) (Some m.at) None does))
  | inr other ↦ first_other when m future other ∙ sym (ap (λ o. first_in when o future) (cond-false (comes when m.seens m.levels) (Some m.at) None other))
]

pub first_is : (when : Option When) (from : Option ℕ) (at : ℕ) (future : List Moment) → AreMomentsFrom (at + 1) future → IsFirst from at (first_in when from future)
first_is when (Some f) at future order = refl
first_is when None at future order = weaker (first_moment when future) at (first_later when (at + 1) future order)
  where
    weaker : (o : Option ℕ) (at : ℕ) → IfSome o (λ t. at + 1 ≤ t) → IfSome o (λ t. at < t)
    weaker None at h = tt
    weaker (Some t) at h = omega arith

-- ---- the end of the scope

past_reported : (o : Option ℕ) (at end : ℕ) → past o at ≡ Some end → (o ≡ Some end) × (end ≤ at)
past_reported None at end is = cc
past_reported (Some e) at end is = elim (cases_Bool (leb e at)) [
  | inl yet ↦
      let here : Some e ≡ Some end = sym (cond-true (leb e at) (Some e) None yet) ∙ is in
      let same : e ≡ end = cc in
      let le : e ≤ at = leb-true e at yet in
      (here, omega arith)
  | inr later ↦ let none : ◌≡◌ {A = Option ℕ} None (Some end) = sym (cond-false (leb e at) (Some e) None later) ∙ is in cc
]

past_none : (o : Option ℕ) (at : ℕ) → past o at ≡ None → IfSome o (λ e. at < e)
past_none None at is = tt
past_none (Some e) at is = elim (cases_Bool (leb e at)) [
  | inl yet ↦ let none : Some e ≡ None = sym (cond-true (leb e at) (Some e) None yet) ∙ is in cc
  | inr later ↦ leb-false e at later
]

end_state : (o : Option ℕ) (end last : ℕ) → o ≡ Some end → end ≤ last → end_by o last ≡ end
end_state o end last is le = ap (λ x. end_by x last) is ∙ omega arith

pub end_reported : (when : Option When) (end last : ℕ) (m : Moment) (future : List Moment) → end_now when m.at m.seens m.levels ≡ Some end → m.at ≤ last →
    (end_in when (m ∷ future) last ≡ end) × (end ≤ m.at) × ((end ≡ m.at) ⊎ (state_of when ≡ Some end))
end_reported when end last m future is le = elim (cases_Bool (comes when m.seens m.levels)) [
  | inl does ↦
      let here : Some m.at ≡ Some end = sym (cond-true (comes when m.seens m.levels) (Some m.at) (past (state_of when) m.at) does) ∙ is in
      let same : m.at ≡ end = cc in
      (ap (λ o. or_end (end_by (state_of when) last) o) (first_here when m future does) ∙ same, omega arith, inl (sym same))
  | inr other ↦
      let here : past (state_of when) m.at ≡ Some end = sym (cond-false (comes when m.seens m.levels) (Some m.at) (past (state_of when) m.at) other) ∙ is in
      let reported = past_reported (state_of when) m.at end here in (
        ap (λ o. or_end (end_by (state_of when) last) o) (first_none when end (m ∷ future) reported.0) ∙ end_state (state_of when) end last reported.0 (omega (arith, reported.1)),
        reported.1,
        inr reported.0,
      )
]

end_less : (o first : Option ℕ) (at last : ℕ) → IfSome o (λ e. at < e) → IfSome first (λ t. at + 1 ≤ t) → at ≤ last → at < or_end (end_by o last) first
end_less None None at last h k le = omega arith
end_less (Some e) None at last h k le = omega arith
end_less o (Some t) at last h k le = omega arith

pub end_later : (when : Option When) (last : ℕ) (m : Moment) (future : List Moment) → end_now when m.at m.seens m.levels ≡ None → m.at ≤ last →
    AreMomentsFrom (m.at + 1) future → (end_in when (m ∷ future) last ≡ end_in when future last) × (m.at < end_in when future last)
end_later when last m future is le order = elim (cases_Bool (comes when m.seens m.levels)) [
  | inl does ↦
      let none : Some m.at ≡ None = sym (cond-true (comes when m.seens m.levels) (Some m.at) (past (state_of when) m.at) does) ∙ is in
      cc
  | inr other ↦
      let none : past (state_of when) m.at ≡ None = sym (cond-false (comes when m.seens m.levels) (Some m.at) (past (state_of when) m.at) other) ∙ is in (
        ap (λ o. or_end (end_by (state_of when) last) o) (first_other when m future other),
        end_less (state_of when) (first_moment when future) m.at last (past_none (state_of when) m.at none) (first_later when (m.at + 1) future order) le,
      )
]

-- a scope that is not over by a moment ends behind it
pub end_ahead : (when : Option When) (at : ℕ) (seens : List Seen) (levels : Signal → Level) → end_now when at seens levels ≡ None → IfSome (state_of when) (λ end. at + 1 ≤ end)
end_ahead when at seens levels is = elim (cases_Bool (comes when seens levels)) [
  | inl does ↦
      let none : Some at ≡ None = sym (cond-true (comes when seens levels) (Some at) (past (state_of when) at) does) ∙ is in
      cc
  | inr other ↦
      let none : past (state_of when) at ≡ None = sym (cond-false (comes when seens levels) (Some at) (past (state_of when) at) other) ∙ is in
      weaker (state_of when) at (past_none (state_of when) at none)
]
  where
    weaker : (o : Option ℕ) (at : ℕ) → IfSome o (λ e. at < e) → IfSome o (λ e. at + 1 ≤ e)
    weaker None at h = tt
    weaker (Some e) at h = omega arith

-- ---- what is reported

-- of a moment before the scope nothing
pub total_ahead : (form : Form) (m n : Monitor) (mo : Moment) (future : List Moment) (next end : ℕ) (first : Option ℕ) (one other : Times) →
    n.life ≡ m.life → n.tally ≡ m.tally → n.machine ≡ m.machine → m.begun ≡ false → n.begun ≡ false → IfSome first (λ f. mo.at < f) →
    total_in form m (mo ∷ future) next one other first end ≡ total_in form n future (mo.at + 1) one other first end
total_ahead form m n mo future next end None one other life tally machine mb nb ahead = sym tally
total_ahead form m n mo future next end (Some f) one other life tally machine mb nb ahead =
    let points = points_skip form f end mo future ahead in
    let start : start_of m.begun f next ≡ start_of n.begun f (mo.at + 1) = ap (λ b. start_of b f next) mb ∙ sym (ap (λ b. start_of b f (mo.at + 1)) nb) in
    λ i. cond (ltb f end) (machine_total (sym life i) (sym tally i) (sym machine i) f end (points i) one other (start i)) (sym tally i)

pub total_within : (form : Form) (m : Monitor) (mo : Moment) (future : List Moment) (next end f : ℕ) (one other : Times) → f ≤ mo.at → mo.at < end →
    total_in form m (mo ∷ future) next one other (Some f) end
    ≡ machine_total m.life m.tally m.machine f end (points_at form mo.at mo.levels mo.seens ++ points_in form f end future) one other (start_of m.begun f next)
total_within form m mo future next end f one other from to =
    let less : f < end = omega arith in
    cond-true (ltb f end) (machine_total m.life m.tally m.machine f end (points_in form f end (mo ∷ future)) one other (start_of m.begun f next)) m.tally (lt-ltb f end less)
    ∙ ap (λ ps. machine_total m.life m.tally m.machine f end ps one other (start_of m.begun f next)) (points_take form f end mo future from to)

pub total_begun : (form : Form) (n : Monitor) (future : List Moment) (next end f : ℕ) (one other : Times) → f < end → n.begun ≡ true →
    machine_total n.life n.tally n.machine f end (points_in form f end future) one other next ≡ total_in form n future next one other (Some f) end
total_begun form n future next end f one other less begun =
    sym (cond-true (ltb f end) (machine_total n.life n.tally n.machine f end (points_in form f end future) one other (start_of n.begun f next)) n.tally (lt-ltb f end less)
    ∙ ap (λ b. machine_total n.life n.tally n.machine f end (points_in form f end future) one other (start_of b f next)) begun)

-- of moments behind it nothing
pub total_past : (form : Form) (m : Monitor) (when : Option When) (at end : ℕ) (moments : List Moment) (next : ℕ) (one other : Times) (from : Option ℕ) →
    end ≤ at → AreMomentsFrom at moments → total_in form m moments next one other (first_in when from moments) end ≡ total_in form m [] next one other from end
total_past form m when at end moments next one other (Some f) le order =
    ap (λ ps. cond (ltb f end) (machine_total m.life m.tally m.machine f end ps one other (start_of m.begun f next)) m.tally) (points_past form f end at moments le order)
total_past form m when at end moments next one other None le order = none_by form m end at moments next one other (first_moment when moments) le (first_later when at moments order)
  where
    none_by : (form : Form) (m : Monitor) (end at : ℕ) (moments : List Moment) (next : ℕ) (one other : Times) (o : Option ℕ) → end ≤ at → IfSome o (λ t. at ≤ t) →
        total_in form m moments next one other o end ≡ m.tally
    none_by form m end at moments next one other None le h = refl
    none_by form m end at moments next one other (Some t) le h =
        cond-false (ltb t end) (machine_total m.life m.tally m.machine t end (points_in form t end moments) one other (start_of m.begun t next)) m.tally
        (le-ltb t end (omega arith))

-- ---- as a life ends

pub first_end : (when : Option When) (from : Option ℕ) → first_in when from [] ≡ from
unfolding first_moment
first_end when (Some f) = refl
first_end when None = refl

pub end_end : (when : Option When) (last : ℕ) → end_in when [] last ≡ end_by (state_of when) last
unfolding first_moment
end_end when last = refl

pub end_by_ahead : (o : Option ℕ) (next last : ℕ) → IfSome o (λ e. next ≤ e) → next ≤ last + 1 → next ≤ end_by o last
end_by_ahead None next last h le = le
end_by_ahead (Some e) next last h le = omega arith

pub end_by_within : (o : Option ℕ) (last : ℕ) → end_by o last ≤ last + 1
end_by_within None last = omega arith
end_by_within (Some e) last = omega arith

-- ---- the first state of the scope, once it is known

pub from_stays : (when : Option When) (from : Option ℕ) (at : ℕ) (seens : List Seen) (levels : Signal → Level) (f : ℕ) → from ≡ Some f →
    from_after when from at seens levels ≡ Some f
from_stays when from at seens levels f is = ap (λ o. from_after when o at seens levels) is

pub from_ahead : (when : Option When) (from : Option ℕ) (at next : ℕ) (seens : List Seen) (levels : Signal → Level) → next ≤ at → IfSome from (λ f. next ≤ f) →
    IfSome (from_after when from at seens levels) (λ f. next ≤ f)
from_ahead when (Some f) at next seens levels le h = h
from_ahead when None at next seens levels le h = elim (cases_Bool (comes when seens levels)) [
  | inl does ↦ rw does le
  | inr other ↦ rw other tt
]

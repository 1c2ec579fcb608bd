-- What a monitor has reported, with what it has still to report of the moments to come (this kit's own). A moment is a state in which
-- something happens; `next` is the first state that is not seen yet.
use Rattle.std.specs.Prelude.{◌≡◌, ℕ, ◌+◌, ◌<◌, ◌≤◌, ◌^◌, min, nat_le, nat_lt, if◌then◌else◌, Bool, true, false, Option, Some, None, IfSome, List, [], ◌∷◌, map, filter, flat_map}
use Rattle.std.specs.List.{list_any}
use Rattle.kc_base.specs.declared.types.Level.{Level}
use Rattle.kc_trace.specs.declared.life.Signal.{Signal}
use Rattle.kc_rules.specs.declared.events.Atom.{Atom}
use Rattle.kc_rules.specs.declared.rule.Form.{Form}
use Rattle.kc_rules.specs.declared.rule.Form.TheVariants as forms
use Rattle.kc_rules.specs.declared.rule.When.{When}
use Rattle.kc_rules.specs.declared.rule.When.TheVariants as whens
use Rattle.kc_rules.specs.declared.rule.Rule.{Rule}
use Rattle.kc_monitor_forms.specs.declared.obligation.Point.{Point}
use Rattle.kc_monitor_forms.specs.declared.tally.Tally.{Tally}
use Rattle.kc_monitor_forms.specs.Tallies.{one_more}
use Rattle.kc_monitor_forms.specs.Apart.{Times}
use Rattle.kc_monitor.specs.declared.monitor.Monitor.{Monitor}
use Rattle.kc_monitor.specs.Matching.{holds, is_one}
use Rattle.kc_monitor.specs.Seens.{Seen}
use Rattle.kc_monitor.specs.Rules.{or_end, is_between, point_at}
use Rattle.kc_monitor.specs.Machines.{machine_total, IsReady, IsLevel, IsBegun}

-- a state in which something happens, and the levels at its end
pub record Moment : Type 0 where
  pub at : ℕ
  pub levels : Signal → Level
  pub seens : List Seen

abbrev pub moment : ℕ → (Signal → Level) → List Seen → Moment
moment at levels seens = record { at = at; levels = levels; seens = seens }

-- each no earlier than this state, and behind the one before it
unfoldable pub AreMomentsFrom : ℕ → List Moment → Type 0
AreMomentsFrom next [] = Unit {0}
AreMomentsFrom next (m ∷ moments) = (next ≤ m.at) × AreMomentsFrom (m.at + 1) moments

-- ---- the scope

abbrev pub is_any : List Atom → List Seen → (Signal → Level) → Bool
is_any es seens levels = list_any (λ s. is_one es s.what s.marks levels) seens

abbrev pub comes : Option When → List Seen → (Signal → Level) → Bool
comes None seens levels = false
comes (Some (whens.State at)) seens levels = false
comes (Some (whens.Events es)) seens levels = is_any es seens levels

abbrev pub state_of : Option When → Option ℕ
state_of None = None
state_of (Some (whens.State at)) = Some at
state_of (Some (whens.Events es)) = None

-- the first moment with an event
unfoldable pub first_moment : Option When → List Moment → Option ℕ
first_moment when [] = None
first_moment when (m ∷ moments) = if comes when m.seens m.levels then Some m.at else first_moment when moments

abbrev pub first_in : Option When → Option ℕ → List Moment → Option ℕ
first_in when (Some first) moments = Some first
first_in when None moments = first_moment when moments

-- the first state of the scope as a life begins, where it is known
abbrev pub first_by : Option When → Option ℕ
first_by None = Some 0
first_by (Some (whens.State at)) = Some at
first_by (Some (whens.Events es)) = None

abbrev pub end_by : Option ℕ → ℕ → ℕ
end_by None last = last + 1
end_by (Some end) last = min end (last + 1)

abbrev pub end_in : Option When → List Moment → ℕ → ℕ
end_in when moments last = or_end (end_by (state_of when) last) (first_moment when moments)

-- ---- what is reported

abbrev pub points_at : Form → ℕ → (Signal → Level) → List Seen → List Point
points_at form at levels seens = map (λ s. point_at levels form at s.what s.marks) seens

abbrev pub points_in : Form → ℕ → ℕ → List Moment → List Point
points_in form first end moments = filter (is_between first end) (flat_map (λ m. points_at form m.at m.levels m.seens) moments)

abbrev pub start_of : Bool → ℕ → ℕ → ℕ
start_of begun first next = if begun then next else first

abbrev pub total_in : Form → Monitor → List Moment → ℕ → Times → Times → Option ℕ → ℕ → Tally
total_in form m moments next one other None end = m.tally
total_in form m moments next one other (Some first) end =
    if nat_lt first end then machine_total m.life m.tally m.machine first end (points_in form first end moments) one other (start_of m.begun first next)
    else m.tally

abbrev pub monitor_total : Rule → Monitor → List Moment → ℕ → ℕ → Times → Times → Tally
monitor_total rule m moments last next one other =
    if m.closed then m.tally
    else total_in rule.form m moments next one other (first_in rule.scope.from m.from moments) (end_in rule.scope.before moments last)

-- ---- what a moment changes

abbrev pub from_after : Option When → Option ℕ → ℕ → List Seen → (Signal → Level) → Option ℕ
from_after when (Some first) at seens levels = Some first
from_after when None at seens levels = if comes when seens levels then Some at else None

abbrev pub past : Option ℕ → ℕ → Option ℕ
past None at = None
past (Some end) at = if nat_le end at then Some end else None

-- the first state behind the scope, where it is over by a moment
abbrev pub end_now : Option When → ℕ → List Seen → (Signal → Level) → Option ℕ
end_now when at seens levels = if comes when seens levels then Some at else past (state_of when) at

-- whether two signals have their levels
abbrev pub one_at : Form → (Signal → Level) → Bool → Bool
one_at (forms.Apart s u d) levels before = holds levels s
one_at _ levels before = before

abbrev pub other_at : Form → (Signal → Level) → Bool → Bool
other_at (forms.Apart s u d) levels before = holds levels u
other_at _ levels before = before

-- ---- what stays

pub record IsGoing (m : Monitor) (next : ℕ) : Type 0 where
  pub ready : IsReady m.life m.tally m.machine next
  pub level : m.begun ≡ true → IsLevel m.machine m.one m.other
  pub begun : m.begun ≡ true → (first : ℕ) × (m.from ≡ Some first) × (first ≤ next)
  pub unbegun : m.begun ≡ false → IfSome m.from (λ first. next ≤ first)

-- of a scope that is not over
pub record IsOpen (when : Option When) (m : Monitor) (next : ℕ) : Type 0 where
  pub going : IsGoing m next
  pub ahead : IfSome (state_of when) (λ end. next ≤ end)

-- the first state of a scope by a moment: a later moment may report it
abbrev pub IsFirst : Option ℕ → ℕ → Option ℕ → Type 0
IsFirst (Some first) at reported = reported ≡ Some first
IsFirst None at reported = IfSome reported (λ first. at < first)

-- in some states two signals have their levels or not
pub record AreKept (one_on other_on : Bool) (next end : ℕ) (one other : Times) : Type 0 where
  pub one_kept : (t : ℕ) → next ≤ t → t < end → one t ≡ one_on
  pub other_kept : (t : ℕ) → next ≤ t → t < end → other t ≡ other_on

pub record AreNow (form : Form) (levels : Signal → Level) (one_on other_on : Bool) (at : ℕ) (one other : Times) : Type 0 where
  pub one_now : one at ≡ one_at form levels one_on
  pub other_now : other at ≡ other_at form levels other_on

-- ---- all monitors, each with its rule

unfoldable pub AllThree : {A B C : Type 0} → (A → B → C → Type 0) → List A → List B → List C → Type 0
AllThree R [] [] [] = Unit {0}
AllThree R (x ∷ xs) (y ∷ ys) (z ∷ zs) = R x y z × AllThree R xs ys zs
AllThree R _ _ _ = ⊥

-- a monitor before and behind a state
pub record IsStep (at : ℕ) (levels : Signal → Level) (seens : List Seen) (rule : Rule) (m n : Monitor) : Type 0 where
  pub life : n.life ≡ m.life
  pub going : (next : ℕ) → next ≤ at → (m.closed ≡ false → IsOpen rule.scope.before m next) → n.closed ≡ false → IsOpen rule.scope.before n (at + 1)
  pub flags : n.closed ≡ false → (m.closed ≡ false) × (n.one ≡ one_at rule.form levels m.one) × (n.other ≡ other_at rule.form levels m.other)
  pub total : (next last : ℕ) (future : List Moment) (one other : Times) → next ≤ at → at ≤ last →
      AreMomentsFrom (at + 1) future → (m.closed ≡ false → IsOpen rule.scope.before m next) →
      (m.closed ≡ false → AreKept m.one m.other next at one other) → (m.closed ≡ false → AreNow rule.form levels m.one m.other at one other) →
      monitor_total rule m (moment at levels seens ∷ future) last next one other ≡ monitor_total rule n future last (at + 1) one other

-- as a life begins
pub record IsStart (levels : Signal → Level) (rule : Rule) (m n : Monitor) : Type 0 where
  pub life : n.life ≡ one_more m.life
  pub from : n.from ≡ first_by rule.scope.from
  pub begun : n.begun ≡ false
  pub closed : n.closed ≡ false
  pub one : n.one ≡ one_at rule.form levels false
  pub other : n.other ≡ other_at rule.form levels false
  pub tally : n.tally ≡ m.tally
  pub machine : IsBegun rule.form n.machine

-- as it ends
pub record IsFinish (last : ℕ) (rule : Rule) (m n : Monitor) : Type 0 where
  pub life : n.life ≡ m.life
  pub total : (next : ℕ) (one other : Times) → last < 2 ^ 63 → next ≤ last + 1 → (m.closed ≡ false → IsOpen rule.scope.before m next) →
      (m.closed ≡ false → AreKept m.one m.other next (last + 1) one other) → monitor_total rule m [] last next one other ≡ n.tally

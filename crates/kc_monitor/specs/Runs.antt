-- A monitor over all moments of a life (this kit's own).
use Rattle.std.specs.Prelude.{◌≡◌, ℕ, ◌+◌, ◌<◌, ◌≤◌, ◌^◌, nat_lt, if◌then◌else◌, Bool, Option, Some, None, IfSome, List, [], ◌∷◌}
use Rattle.kc_base.specs.declared.types.Level.{Level}
use Rattle.kc_trace.specs.declared.life.Signal.{Signal}
use Rattle.kc_rules.specs.declared.rule.Form.{Form}
use Rattle.kc_rules.specs.declared.rule.Rule.{Rule}
use Rattle.kc_monitor_forms.specs.declared.obligation.Obligation.{Obligation}
use Rattle.kc_monitor_forms.specs.Apart.{Times}
use Rattle.kc_monitor.specs.declared.monitor.Monitor.{Monitor}
use Rattle.kc_monitor.specs.Rules.{asked}
use Rattle.kc_monitor.specs.Watching.{Moment, AreMomentsFrom, first_in, first_by, end_in, points_in, one_at, other_at, AreKept, AreNow, IsStart, IsStep, IsFinish}

-- state by state
unfoldable pub Runs : Rule → List Moment → Monitor → Monitor → Type 0
Runs rule [] m n = m ≡ n
Runs rule (mo ∷ moments) m n = (k : Monitor) × IsStep mo.at mo.levels mo.seens rule m k × Runs rule moments k n

unfoldable pub AreUpTo : ℕ → List Moment → Type 0
AreUpTo last [] = Unit {0}
AreUpTo last (mo ∷ moments) = (mo.at ≤ last) × AreUpTo last moments

-- two signals have their levels, or not, as at the end of the moment before
unfoldable pub AreFitting : Form → Bool → Bool → ℕ → List Moment → ℕ → Times → Times → Type 0
AreFitting form one_on other_on next [] last one other = AreKept one_on other_on next (last + 1) one other
AreFitting form one_on other_on next (mo ∷ moments) last one other =
    AreKept one_on other_on next mo.at one other × AreNow form mo.levels one_on other_on mo.at one other
    × AreFitting form (one_at form mo.levels one_on) (other_at form mo.levels other_on) (mo.at + 1) moments last one other

-- what a rule asks of the moments of a life
abbrev pub asked_in : Form → List Moment → Times → Times → Option ℕ → ℕ → List Obligation
asked_in form moments one other None end = []
asked_in form moments one other (Some first) end = if nat_lt first end then asked form first end (points_in form first end moments) one other else []

abbrev pub asked_of : Rule → List Moment → ℕ → Times → Times → List Obligation
asked_of rule moments last one other =
    asked_in rule.form moments one other (first_in rule.scope.from (first_by rule.scope.from) moments) (end_in rule.scope.before moments last)

-- a monitor before a life, as it has begun, behind its last moment, and behind the life
pub record IsLifeSeen (rule : Rule) (levels : Signal → Level) (moments : List Moment) (last : ℕ) (m n p q : Monitor) : Type 0 where
  pub start : IsStart levels rule m n
  pub runs : Runs rule moments n p
  pub finish : IsFinish last rule p q
  pub order : AreMomentsFrom 0 moments
  pub within : AreUpTo last moments
  pub short : last < 2 ^ 63
  pub few : m.life < 2 ^ 63
  pub earlier : IfSome m.tally.first_bad (λ f. f.life ≤ m.life)

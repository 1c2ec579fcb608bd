-- What the machine of a form has reported, with what it has still to report (this kit's own): of the points to come, and of two signals that
-- have their levels or not in the states from `next` on.
use Rattle.std.specs.Prelude.{◌≡◌, ℕ, ◌-◌, Bool, false, None, List, []}
use Rattle.kc_rules.specs.declared.rule.Form.{Form}
use Rattle.kc_rules.specs.declared.rule.Form.TheVariants as forms
use Rattle.kc_monitor_forms.specs.declared.obligation.Point.{Point}
use Rattle.kc_monitor_forms.specs.declared.tally.Tally.{Tally}
use Rattle.kc_monitor_forms.specs.declared.shares.Kept.TheVariants as kept
use Rattle.kc_monitor_forms.specs.Tallies.{with_all}
use Rattle.kc_monitor_forms.specs.Apart.{Times}
use Rattle.kc_monitor_forms.specs.Sides.{off, asked_from}
use Rattle.kc_monitor_forms.specs.Machines.{never_rest, after_total, placed_rest, gaps_rest, duty_rest, counted_rest, in_life_rest, IsWaiting}
use Rattle.kc_monitor.specs.declared.machine.Machine.{Machine}
use Rattle.kc_monitor.specs.declared.machine.Machine.TheVariants as machines

abbrev pub machine_total : ℕ → Tally → Machine → ℕ → ℕ → List Point → Times → Times → ℕ → Tally
machine_total life tally (machines.Never m) first end points one other next = with_all life tally (never_rest m first points)
machine_total life tally (machines.After m) first end points one other next = after_total life tally m end points
machine_total life tally (machines.Placed m) first end points one other next = with_all life tally (placed_rest m.share m.within m.piece points)
machine_total life tally (machines.Gaps m) first end points one other next = with_all life tally (gaps_rest m end points)
machine_total life tally (machines.Duty m) first end points one other next = with_all life tally (duty_rest m points)
machine_total life tally (machines.Counted m) first end points one other next = with_all life tally (counted_rest m.span m.piece points)
machine_total life tally (machines.InLife m) first end points one other next = with_all life tally (in_life_rest m first points)
machine_total life tally (machines.Apart m) first end points one other next = with_all life tally (asked_from m.distance m.one m.other one other next (end - next))

-- what is kept of the points up to a state is in order
abbrev pub IsReady : ℕ → Tally → Machine → ℕ → Type 0
IsReady life tally (machines.After m) at = IsWaiting life tally m at
IsReady life tally _ at = Unit {0}

-- whether two signals have their levels is kept as it is
abbrev pub IsLevel : Machine → Bool → Bool → Type 0
IsLevel (machines.Apart m) one other = (m.one.on ≡ one) × (m.other.on ≡ other)
IsLevel _ one other = Unit {0}

-- nothing has come
abbrev pub IsBegun : Form → Machine → Type 0
IsBegun (forms.Never e) (machines.Never m) = m.come ≡ false
IsBegun (forms.After f none e a b) (machines.After m) =
    (m.none ≡ none) × (m.least ≡ a) × (m.most ≡ b) × (m.waiting.items ≡ []) × (m.late ≡ None)
IsBegun (forms.At e share f g within) (machines.Placed m) = m ≡ record { share = share; within = within; piece = None }
IsBegun (forms.For steady span) (machines.Gaps m) = m ≡ record { span = span; last = None }
IsBegun (forms.ForShare steady shares) (machines.Duty m) = m ≡ record { shares = shares; kept = kept.Nothing }
IsBegun (forms.Every e span) (machines.Gaps m) = m ≡ record { span = span; last = None }
IsBegun (forms.InEach span e f g) (machines.Counted m) = m ≡ record { span = span; piece = None }
IsBegun (forms.InLife span e) (machines.InLife m) = m ≡ record { span = span; count = 0 }
IsBegun (forms.Apart one other d) (machines.Apart m) = m ≡ record { distance = d; one = off; other = off }
IsBegun _ _ = ⊥

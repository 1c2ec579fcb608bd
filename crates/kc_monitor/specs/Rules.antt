-- What a rule asks of a life (this kit's own): its scope, the positions in it as its form sees them, and what the form asks of these.
use Rattle.std.specs.Prelude.{ℕ, ◌+◌, min, nat_le, nat_lt, if◌then◌else◌, Bool, true, false, ◌&&◌, Option, Some, None, List, [], ◌∷◌, map, filter}
use Rattle.kc_base.specs.declared.types.Level.{Level}
use Rattle.kc_trace.specs.declared.life.Signal.{Signal}
use Rattle.kc_trace.specs.declared.life.What.{What}
use Rattle.kc_trace.specs.Lives.{Life, level_at}
use Rattle.kc_rules.specs.declared.events.Steady.{Steady}
use Rattle.kc_rules.specs.declared.events.Atom.{Atom}
use Rattle.kc_rules.specs.declared.mark.Mark.{Mark}
use Rattle.kc_rules.specs.declared.rule.Form.{Form}
use Rattle.kc_rules.specs.declared.rule.Form.TheVariants as forms
use Rattle.kc_rules.specs.declared.rule.When.{When}
use Rattle.kc_rules.specs.declared.rule.When.TheVariants as whens
use Rattle.kc_rules.specs.declared.rule.Rule.{Rule}
use Rattle.kc_monitor_forms.specs.declared.obligation.Obligation.{Obligation}
use Rattle.kc_monitor_forms.specs.declared.obligation.Point.{Point}
use Rattle.kc_monitor.specs.Matching.{holds, is_one, is_edge, is_begin}
use Rattle.kc_monitor.specs.Seens.{Seen, is_among, seens_of}
use Rattle.kc_monitor_forms.specs.Never.{never, in_life}
use Rattle.kc_monitor_forms.specs.Gaps.{gaps}
use Rattle.kc_monitor_forms.specs.Shares.{for_shares}
use Rattle.kc_monitor_forms.specs.After.{after}
use Rattle.kc_monitor_forms.specs.Pieces.{in_each, at_share}
use Rattle.kc_monitor_forms.specs.Apart.{Times, apart}

-- ---- the scope: the states from `first` on, up to the one before `end`

-- the state of the first position that has one of some events
unfoldable pub first_state : Life → List Atom → List Seen → Option ℕ
first_state life atoms [] = None
first_state life atoms (s ∷ seens) = if is_among life atoms s then Some s.at else first_state life atoms seens

abbrev pub first_of : Life → List Seen → Option When → Option ℕ
first_of life seens None = Some 0
first_of life seens (Some (whens.State at)) = Some at
first_of life seens (Some (whens.Events es)) = first_state life es seens

abbrev pub or_end : ℕ → Option ℕ → ℕ
or_end end None = end
or_end end (Some at) = at

abbrev pub end_of : Life → List Seen → Option When → ℕ
end_of life seens None = life.last + 1
end_of life seens (Some (whens.State at)) = min at (life.last + 1)
end_of life seens (Some (whens.Events es)) = or_end (life.last + 1) (first_state life es seens)

abbrev pub is_between : ℕ → ℕ → Point → Bool
is_between first end p = nat_le first p.at && nat_lt p.at end

-- ---- positions as a form sees them

abbrev pub point : ℕ → Bool → Bool → Bool → Point
point at event from to = record { at = at; event = event; from = from; to = to }

-- what happens in a state, at the levels at its end
abbrev pub point_at : (Signal → Level) → Form → ℕ → What → List Bool → Point
point_at levels (forms.Never e) at what marks = point at (is_one e what marks levels) false false
point_at levels (forms.After f none e a b) at what marks = point at (is_one e what marks levels) (is_one f what marks levels) false
point_at levels (forms.At e share f g within) at what marks = point at (is_one e what marks levels) (is_one f what marks levels) (is_one g what marks levels)
point_at levels (forms.For steady span) at what marks = point at (is_edge steady.signal what) (is_begin steady what) false
point_at levels (forms.ForShare steady shares) at what marks = point at (is_edge steady.signal what) (is_begin steady what) false
point_at levels (forms.Every e span) at what marks = point at (is_one e what marks levels) true false
point_at levels (forms.InEach span e f g) at what marks = point at (is_one e what marks levels) (is_one f what marks levels) (is_one g what marks levels)
point_at levels (forms.InLife span e) at what marks = point at (is_one e what marks levels) false false
point_at levels (forms.Apart one other d) at what marks = point at false false false

abbrev pub point_of : Life → Form → Seen → Point
point_of life form s = point_at (λ signal. level_at life signal s.at) form s.at s.what s.marks

-- ---- what is asked

abbrev pub times : Life → Steady → ℕ → Bool
times life steady t = holds (λ signal. level_at life signal t) steady

-- the states in which the two signals of `apart` have their levels; no other form asks for any
abbrev pub times_one : Life → Form → Times
times_one life (forms.Apart one other d) t = times life one t
times_one life _ t = false

abbrev pub times_other : Life → Form → Times
times_other life (forms.Apart one other d) t = times life other t
times_other life _ t = false

abbrev pub asked : Form → ℕ → ℕ → List Point → Times → Times → List Obligation
asked (forms.Never e) first end points one other = never first points
asked (forms.After f none e a b) first end points one other = after none a b end points
asked (forms.At e share f g within) first end points one other = at_share share within points
asked (forms.For steady span) first end points one other = gaps span end points
asked (forms.ForShare steady shares) first end points one other = for_shares shares points
asked (forms.Every e span) first end points one other = gaps span end points
asked (forms.InEach span e f g) first end points one other = in_each span points
asked (forms.InLife span e) first end points one other = in_life span first points
asked (forms.Apart s u d) first end points one other = apart d one other first end

abbrev pub points_of : Life → Form → List Seen → ℕ → ℕ → List Point
points_of life form seens first end = filter (is_between first end) (map (point_of life form) seens)

-- of an empty scope nothing
abbrev pub asked_in : Life → Form → List Seen → Option ℕ → ℕ → List Obligation
asked_in life form seens None end = []
asked_in life form seens (Some first) end =
    if nat_lt first end then asked form first end (points_of life form seens first end) (times_one life form) (times_other life form) else []

abbrev pub asked_of : Rule → Life → List Seen → List Obligation
asked_of rule life seens = asked_in life rule.form seens (first_of life seens rule.scope.from) (end_of life seens rule.scope.before)

-- the obligations of a rule in a life, in order
abbrev pub obligations : List Mark → Rule → Life → List Obligation
obligations marks rule life = asked_of rule life (seens_of marks life)

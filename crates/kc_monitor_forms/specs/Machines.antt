-- What the machines of the forms have still to report: of the points to come, by what each has kept of those before (this kit's own).
-- A machine is right where what it has reported, with this, stays the same with each point.
use Rattle.std.specs.Prelude.{◌≡◌, ℕ, ◌+◌, ◌-◌, ◌^◌, min, Bool, ◌<◌, ◌≤◌, ◌==◌, nat_lt, if◌then◌else◌, ◌&&◌, Option, Some, None, is_none, List, [], ◌∷◌, ◌++◌, map, filter, option_to_list}
use Rattle.kc_monitor_forms.specs.declared.obligation.Offset.TheVariants.{Plus}
use Rattle.kc_monitor_forms.specs.declared.obligation.Spread.{Spread}
use Rattle.kc_monitor_forms.specs.declared.obligation.Obligation.{Obligation}
use Rattle.kc_monitor_forms.specs.declared.obligation.Point.{Point}
use Rattle.kc_monitor_forms.specs.declared.tally.Found.{Found}
use Rattle.kc_monitor_forms.specs.declared.tally.Tally.{Tally}
use Rattle.kc_monitor_forms.specs.declared.never.Never.{Never}
use Rattle.kc_monitor_forms.specs.declared.never.InLife.{InLife}
use Rattle.kc_monitor_forms.specs.declared.gaps.Gaps.{Gaps}
use Rattle.kc_monitor_forms.specs.declared.shares.Duty.{Duty}
use Rattle.kc_monitor_forms.specs.declared.shares.Kept.{Kept}
use Rattle.kc_monitor_forms.specs.declared.shares.Kept.TheVariants as kept
use Rattle.kc_monitor_forms.specs.declared.pieces.Piece.{Piece}
use Rattle.kc_monitor_forms.specs.declared.after.Late.{Late}
use Rattle.kc_monitor_forms.specs.declared.after.After.{After}
use Rattle.kc_monitor_forms.specs.Tallies.{one_more, with_all, spread_by}
use Rattle.kc_monitor_forms.specs.After.{asked, after}
use Rattle.kc_monitor_forms.specs.Never.{never}
use Rattle.kc_monitor_forms.specs.Gaps.{between}
use Rattle.kc_monitor_forms.specs.Shares.{among}
use Rattle.kc_rules.specs.declared.rule.Span.{Span}
use Rattle.kc_rules.specs.declared.amount.Share.{Share}
use Rattle.kc_rules.specs.declared.rule.Within.{Within}
use Rattle.kc_monitor_forms.specs.declared.obligation.Answer.{Answer}
use Rattle.kc_monitor_forms.specs.declared.obligation.Answer.TheVariants.{Open}
use Rattle.kc_monitor_forms.specs.Obligations.{good_if, measured}
use Rattle.kc_monitor_forms.specs.Spans.{is_within, is_past}
use Rattle.kc_monitor_forms.specs.Pieces.{placed_of}

abbrev pub never_rest : Never → ℕ → List Point → List Obligation
never_rest machine first points = if machine.come then [] else never first points

abbrev pub gaps_rest : Gaps → ℕ → List Point → List Obligation
gaps_rest machine end points = between machine.span end (option_to_list machine.last ++ filter (λ p. p.event) points)

abbrev pub kept_points : Kept → List Point
kept_points kept.Nothing = []
kept_points (kept.One a) = a ∷ []
kept_points (kept.Two a b) = a ∷ b ∷ []

abbrev pub duty_rest : Duty → List Point → List Obligation
duty_rest machine points = among machine.shares (kept_points machine.kept ++ filter (λ p. p.event) points)

abbrev pub or_else : Option ℕ → Option ℕ → Option ℕ
or_else None other = other
or_else (Some first) other = Some first

-- what is kept of a piece, with a point more
abbrev pub piece_with : Piece → Point → Piece
piece_with piece p =
    if p.event then record { begin = piece.begin; count = min (piece.count + 1) (2 ^ 64 - 1); first = or_else piece.first (Some p.at) } else piece

abbrev pub piece_begun : Point → Option Piece
piece_begun p = if p.from then Some (piece_with (record { begin = p.at; count = 0; first = None }) p) else None

abbrev pub piece_after : Option Piece → Point → Option Piece
piece_after None p = piece_begun p
piece_after (Some piece) p = if p.to then piece_begun p else Some (piece_with piece p)

abbrev pub counted_closed : Span → Option Piece → Bool → List Obligation
counted_closed span None to = []
counted_closed span (Some piece) to = if to then measured piece.begin piece.count (is_within span piece.count) ∷ [] else []

-- the piece that is not over as the scope ends
abbrev pub counted_open : Span → Option Piece → List Obligation
counted_open span None = []
counted_open span (Some piece) = if is_past span.most piece.count then measured piece.begin piece.count Bool.false ∷ [] else []

abbrev pub placed_closed : Share → Within → Option Piece → Point → List Obligation
placed_closed share within None p = []
placed_closed share within (Some piece) p = if p.to then placed_of share within piece.begin piece.first p.at ∷ [] else []

unfoldable pub counted_rest : Span → Option Piece → List Point → List Obligation
counted_rest span piece [] = counted_open span piece
counted_rest span piece (p ∷ points) = counted_closed span piece p.to ++ counted_rest span (piece_after piece p) points

unfoldable pub placed_rest : Share → Within → Option Piece → List Point → List Obligation
placed_rest share within piece [] = []
placed_rest share within piece (p ∷ points) = placed_closed share within piece p ++ placed_rest share within (piece_after piece p) points

-- ---- a count in a life

unfoldable pub count_with : ℕ → List Point → ℕ
count_with n [] = n
count_with n (p ∷ points) = count_with (if p.event then one_more n else n) points

abbrev pub in_life_rest : InLife → ℕ → List Point → List Obligation
in_life_rest machine first points =
    measured first (count_with machine.count points) (is_within machine.span (count_with machine.count points)) ∷ []

-- ---- after

-- the state of the next event
unfoldable pub next_event : List Point → Option ℕ
next_event [] = None
next_event (p ∷ points) = if p.event then Some p.at else next_event points

-- without an event up to the end of the scope
abbrev pub left_over : Bool → ℕ → ℕ → ℕ → Answer
left_over none most end at = if nat_lt most (end - at) then good_if none else Open

-- the first bad obligation, of which nothing was seen so far, gets the event that is seen in state t
abbrev pub patched : ℕ → ℕ → Option Found → Option Found
patched life t None = None
patched life t (Some f) = if (f.life == life) && is_none f.seen then Some (record f { seen = Some (Plus (t - f.at)) }) else Some f

abbrev pub late_spread : Late → ℕ → Option Spread
late_spread late t = Some (record { least = Plus (t - late.last); most = Plus (t - late.first) })

-- the event of what was late, which is reported already, is seen in state t
abbrev pub with_late : ℕ → Late → ℕ → Tally → Tally
with_late life late t tally = record (spread_by tally (late_spread late t)) { first_bad = patched life t tally.first_bad }

abbrev pub late_seen : ℕ → Tally → Option Late → Option ℕ → Tally
late_seen life tally None next = tally
late_seen life tally (Some late) None = tally
late_seen life tally (Some late) (Some t) = with_late life late t tally

-- what is reported already, with all that is still reported: of the states that wait, and of those to come
abbrev pub waiting_total : ℕ → Tally → Bool → ℕ → ℕ → Option Late → List ℕ → ℕ → List Point → Tally
waiting_total life tally none least most late waiting end points =
    with_all life (late_seen life tally late (next_event points)) (map (λ t. asked none least most end t points) waiting ++ after none least most end points)

abbrev pub after_total : ℕ → Tally → After → ℕ → List Point → Tally
after_total life tally machine end points =
    waiting_total life tally machine.none machine.least machine.most machine.late machine.waiting.items end points

-- each point in a state no earlier than the one before it
unfoldable pub IsOrderedFrom : ℕ → List Point → Type 0
IsOrderedFrom before [] = Unit {0}
IsOrderedFrom before (p ∷ points) = (before ≤ p.at) × IsOrderedFrom p.at points

unfoldable pub IsRisingFrom : ℕ → List ℕ → Type 0
IsRisingFrom before [] = Unit {0}
IsRisingFrom before (t ∷ ts) = (before ≤ t) × IsRisingFrom t ts

unfoldable pub IsUpTo : ℕ → List ℕ → Type 0
IsUpTo last [] = Unit {0}
IsUpTo last (t ∷ ts) = (t ≤ last) × IsUpTo last ts

abbrev pub late_last : Option Late → ℕ
late_last None = 0
late_last (Some late) = late.last

abbrev pub IsLate : Option Late → Type 0
IsLate None = Unit {0}
IsLate (Some late) = late.first ≤ late.last

-- nothing that is reported already waits for its event where nothing is late
abbrev pub IsReported : ℕ → Option Late → Option Found → Type 0
IsReported life None first = (t : ℕ) → patched life t first ≡ first
IsReported life (Some late) first = Unit {0}

-- what waits, up to a state
pub record IsWaiting (life : ℕ) (tally : Tally) (machine : After) (at : ℕ) : Type 0 where
  pub rising : IsRisingFrom (late_last machine.late) machine.waiting.items
  pub upto : IsUpTo at machine.waiting.items
  pub past : late_last machine.late ≤ at
  pub late : IsLate machine.late
  pub reported : IsReported life machine.late tally.first_bad

abbrev pub later : Option Late → ℕ → Option Late
later None at = Some (record { first = at; last = at })
later (Some late) at = Some (record { first = late.first; last = at })

abbrev pub front_of : List ℕ → Option ℕ
front_of [] = None
front_of (t ∷ ts) = Some t

abbrev pub behind_front : List ℕ → List ℕ
behind_front [] = []
behind_front (t ∷ ts) = ts

abbrev pub waiting_after : Point → List ℕ → List ℕ
waiting_after p waiting = if p.from then waiting ++ p.at ∷ [] else waiting

-- none of these has waited long enough in a state
unfoldable pub AreNear : ℕ → ℕ → List ℕ → Type 0
AreNear least at [] = Unit {0}
AreNear least at (t ∷ ts) = (at - t < least) × AreNear least at ts

-- `COUNT E in each F to G` and `E at SHARE of F to G within D` (this kit's own): the pieces of the scope, and what is asked of each.
use Rattle.std.specs.Prelude.{ℕ, ◌+◌, ◌-◌, ◌*◌, ◌/◌, ◌==◌, nat_le, nat_lt, if◌then◌else◌, Bool, Option, Some, None, List, [], ◌∷◌, ◌++◌, flat_map}
use Rattle.kc_rules.specs.declared.amount.Share.{Share}
use Rattle.kc_rules.specs.declared.rule.Span.{Span}
use Rattle.kc_rules.specs.declared.rule.Within.{Within}
use Rattle.kc_rules.specs.declared.rule.Within.TheVariants as withins
use Rattle.kc_rules.specs.Amounts.{parts_in_state}
use Rattle.kc_monitor_forms.specs.declared.obligation.Offset.{Offset}
use Rattle.kc_monitor_forms.specs.declared.obligation.Offset.TheVariants.{Minus, Plus}
use Rattle.kc_monitor_forms.specs.declared.obligation.Answer.TheVariants.{Bad}
use Rattle.kc_monitor_forms.specs.declared.obligation.Spread.{Spread}
use Rattle.kc_monitor_forms.specs.declared.obligation.Obligation.{Obligation}
use Rattle.kc_monitor_forms.specs.declared.obligation.Point.{Point}
use Rattle.kc_monitor_forms.specs.Obligations.{good_if, measured, unseen}
use Rattle.kc_monitor_forms.specs.Spans.{is_within, is_past}
use Rattle.kc_monitor_forms.specs.Never.{count_of}

-- ---- pieces

-- from a point with an F up to the first one behind it with a G, which is not in it and has the state `end`, if there is one
pub record Piece : Type 0 where
  pub begin : ℕ
  pub points : List Point
  pub end : Option ℕ

abbrev pub piece : ℕ → List Point → Option ℕ → Piece
piece begin points end = record { begin = begin; points = points; end = end }

-- the pieces of these points, where the one that has begun, if there is one, has these points so far
unfoldable pub pieces_behind : Option (ℕ × List Point) → List Point → List Piece
pieces_behind None [] = []
pieces_behind (Some held) [] = piece held.0 held.1 None ∷ []
pieces_behind None (p ∷ points) = if p.from then pieces_behind (Some (p.at, p ∷ [])) points else pieces_behind None points
pieces_behind (Some held) (p ∷ points) =
    if p.to then piece held.0 held.1 (Some p.at) ∷ (if p.from then pieces_behind (Some (p.at, p ∷ [])) points else pieces_behind None points)
    else pieces_behind (Some (held.0, held.1 ++ p ∷ [])) points

abbrev pub pieces : List Point → List Piece
pieces points = pieces_behind None points

-- ---- how many events each has

abbrev pub counted_by : Span → ℕ → ℕ → Option ℕ → List Obligation
counted_by span begin n (Some end) = measured begin n (is_within span n) ∷ []
counted_by span begin n None = if is_past span.most n then measured begin n Bool.false ∷ [] else []

-- the last piece, which is not over, is bad where it has too many already
abbrev pub counted : Span → Piece → List Obligation
counted span piece = counted_by span piece.begin (count_of piece.points) piece.end

abbrev pub in_each : Span → List Point → List Obligation
in_each span points = flat_map (counted span) (pieces points)

-- ---- where its first event is

abbrev pub first_event : List Point → Option ℕ
first_event [] = None
first_event (p ∷ points) = if p.event then Some p.at else first_event points

-- an event n states behind the beginning of a piece of so many states, and the share of it at which it is wanted, each times the
-- denominator of that share
abbrev pub seen_at : Share → ℕ → ℕ
seen_at share n = share.den * n

abbrev pub wanted_at : Share → ℕ → ℕ
wanted_at share whole = share.num * whole

abbrev pub is_early : Share → ℕ → ℕ → Bool
is_early share n whole = nat_lt (seen_at share n) (wanted_at share whole)

-- how far they are apart
abbrev pub distance : Share → ℕ → ℕ → ℕ
distance share n whole = if is_early share n whole then wanted_at share whole - seen_at share n else seen_at share n - wanted_at share whole

-- at most so far apart: a time, or a share of the piece
abbrev pub is_near_in_time : ℕ → ℕ → ℕ → ℕ → Bool
is_near_in_time den states parts size = nat_le (parts_in_state * size) (den * (states * parts_in_state + parts))

abbrev pub is_near : Within → Share → ℕ → ℕ → Bool
is_near (withins.Time time) share size whole = is_near_in_time share.den time.states time.parts size
is_near (withins.Share near) share size whole = nat_le (near.den * size) (near.num * (share.den * whole))

-- whole states: the next below and the next above
abbrev pub minus : ℕ → Offset
minus n = if n == 0 then Plus 0 else Minus n

abbrev pub down : Share → ℕ → ℕ
down share size = size / share.den

abbrev pub up : Share → ℕ → ℕ
up share size = (size + (share.den - 1)) / share.den

abbrev pub signed : Bool → ℕ → ℕ → Spread
signed early down up =
    if early then record { least = minus up; most = minus down } else record { least = Plus down; most = Plus up }

abbrev pub rounded : Bool → Share → ℕ → Spread
rounded early share size = signed early (down share size) (up share size)

abbrev pub outer : Bool → Spread → Offset
outer early spread = if early then spread.least else spread.most

abbrev pub placed_at : Share → Within → ℕ → ℕ → ℕ → Obligation
placed_at share within begin n whole = record {
  at = begin;
  answer = good_if (is_near within share (distance share n whole) whole);
  seen = Some (outer (is_early share n whole) (rounded (is_early share n whole) share (distance share n whole)));
  spread = Some (rounded (is_early share n whole) share (distance share n whole));
}

abbrev pub placed_of : Share → Within → ℕ → Option ℕ → ℕ → Obligation
placed_of share within begin None end = unseen begin Bad
placed_of share within begin (Some first) end = placed_at share within begin (first - begin) (end - begin)

abbrev pub placed_by : Share → Within → ℕ → Option ℕ → Option ℕ → List Obligation
placed_by share within begin first None = []
placed_by share within begin first (Some end) = placed_of share within begin first end ∷ []

-- each piece that is over
abbrev pub placed : Share → Within → Piece → List Obligation
placed share within piece = placed_by share within piece.begin (first_event piece.points) piece.end

abbrev pub at_share : Share → Within → List Point → List Obligation
at_share share within points = flat_map (placed share within) (pieces points)

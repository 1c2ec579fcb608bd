-- An activity, or a span of idle states, passed at once (this kit's own).
use Rattle.std.specs.Prelude.{◌≡◌, ℕ, suc, ◌+◌, ◌-◌, ◌<◌, false, List, Option, Some, None}
use Rattle.kc_extra.specs.Further.{Further}
use Rattle.kc_span.specs.Span.{after, QuietFor}
use Rattle.kc_intc.specs.declared.requests.Choice.TheVariants.{Go}
use Rattle.kc_trace.specs.declared.record.Record.{Record}
use Rattle.kc_block_spec.specs.Units.{Units}
use Rattle.kc_block_spec.specs.Touch.{block_rule, touch}
use Rattle.kc_machine_spec.specs.declared.doing.Going.TheVariants.{Idling}
use Rattle.kc_machine_spec.specs.declared.doing.UnderWay.{UnderWay}
use Rattle.kc_machine_spec.specs.Board.{edges_in}
use Rattle.kc_machine_spec.specs.Machine.{Machine, Stepped, current, asked, finished, before}
use Rattle.kc_machine_spec.specs.Run.{run_for}

-- a machine at another state, with other units and another activity
abbrev pub at : {X : Type 0} → Machine X → ℕ → Units X → Option UnderWay → Machine X
at m now units under_way = record m { time = now; board = record m.board { units = units }; under_way = under_way }

abbrev pub stepped_of : {X : Type 0} → Machine X → List Record → ℕ → Stepped X
stepped_of m records cost = record { machine = m; records = records; touch = cost }

-- an activity with another number of states left
abbrev pub left_at : UnderWay → ℕ → Option UnderWay
left_at a left = Some (record a { left = left })

-- the state at which the current activity is over
abbrev pub activity_end : {X : Type 0} → Machine X → ℕ
activity_end m = m.time + (current m).left

-- a machine that idles, between two activities
pub record IsIdle {X : Type 0} (m : Machine X) : Type 0 where
  pub idling : m.going ≡ Some Idling
  pub free : m.held ≡ false
  pub between : m.under_way ≡ None
  pub lives : m.ended ≡ None

module _ {X : Type 0} (f : Further X) where
  -- a machine with an activity, after so many state times in which it makes no access
  abbrev pub after_ticks : Machine X → ℕ → Option UnderWay → Machine X
  after_ticks m k under_way = at m (m.time + k) (after (block_rule f) m.time k m.board.units) under_way

  -- so many state times without accesses
  abbrev pub ticks_of : Machine X → ℕ → Option UnderWay → Stepped X
  ticks_of m k under_way = stepped_of (after_ticks m k under_way) (edges_in f m.time k m.board.units) (touch f m.time k m.board.units)

  -- a machine in an activity, after so many of its states
  abbrev pub passed : Machine X → UnderWay → ℕ → Stepped X
  passed m a k = ticks_of m k (left_at a (a.left - k))

  -- all states of an activity are the Ticks of its span, and then its accesses
  abbrev pub whole : Machine X → UnderWay → Stepped X
  whole m a =
      before (edges_in f m.time a.left m.board.units) (touch f m.time a.left m.board.units)
      (finished f a.doing (at m (m.time + (a.left - 1)) (after (block_rule f) m.time a.left m.board.units) m.under_way))

-- so many states of the current activity, its last not among them
abbrev pub PartOfActivity : Type 0 → Type 0
PartOfActivity X = (f : Further X) (n : ℕ) (m : Machine X) (a : UnderWay) → m.ended ≡ None → current m ≡ a → 0 < n → n < a.left → run_for f n m ≡ passed f m a n

abbrev pub WholeActivity : Type 0 → Type 0
WholeActivity X = (f : Further X) (m : Machine X) (a : UnderWay) → m.ended ≡ None → current m ≡ a → 0 < a.left → run_for f a.left m ≡ whole f m a

-- idle states of which no request is served: those of quiet Ticks, and one more
abbrev pub IdleSpan : Type 0 → Type 0
IdleSpan X = (f : Further X) (n : ℕ) (m : Machine X) → IsIdle m → asked m ≡ Go → QuietFor (block_rule f) m.time n m.board.units → run_for f (suc n) m ≡ ticks_of f m (suc n) None

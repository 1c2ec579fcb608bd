-- The forms of rules (this kit's own).
use Rattle.std.specs.Prelude.{ℕ, ◌*◌, ◌^◌, nat_le, if◌then◌else◌, Bool, true, false, ◌||◌, Option, Some, None, option_and_then, List, codes, is_some}
use Rattle.std.specs.Option.{option_map}
use Rattle.std.specs.Str.{bytes_eq}
use Rattle.kc_trace.specs.Signals.{same_signal}
use Rattle.kc_rules.specs.declared.amount.Time.{Time}
use Rattle.kc_rules.specs.declared.amount.Share.{Share}
use Rattle.kc_rules.specs.declared.amount.Amount.{Amount}
use Rattle.kc_rules.specs.declared.amount.Amount.TheVariants as amounts
use Rattle.kc_rules.specs.declared.events.Steady.{Steady}
use Rattle.kc_rules.specs.declared.events.Atom.{Atom}
use Rattle.kc_rules.specs.declared.forms.Range.{Range}
use Rattle.kc_rules.specs.declared.rule.Span.{Span}
use Rattle.kc_rules.specs.declared.rule.Shares.{Shares}
use Rattle.kc_rules.specs.declared.rule.Within.{Within}
use Rattle.kc_rules.specs.declared.rule.Within.TheVariants as withins
use Rattle.kc_rules.specs.declared.rule.When.{When}
use Rattle.kc_rules.specs.declared.rule.When.TheVariants as whens
use Rattle.kc_rules.specs.declared.rule.Form.{Form}
use Rattle.kc_rules.specs.declared.rule.Form.TheVariants as forms
use Rattle.kc_rules.specs.declared.rule.Scope.{Scope}
use Rattle.kc_rules.specs.declared.rule.Rule.{Rule}
use Rattle.kc_rules.specs.Words.{Word}
use Rattle.kc_rules.specs.Readings.{Reading, ◌>>=◌, ◌>>◌, says, says_some, word_at, one, has, word, behind_or}
use Rattle.kc_rules.specs.Amounts.{count_of, begins_digit, amount_of, only_time, only_share, proper, ceiling, floor, time_le}
use Rattle.kc_rules.specs.Events.{events, level_named, steady}
use Rattle.kc_rules.specs.Marks.{sees_digit}

-- ---- amounts

-- both of one kind, and the first at most the second
abbrev pub amount_le : Amount → Amount → Bool
amount_le (amounts.Time a) (amounts.Time b) = time_le a b
amount_le (amounts.Share a) (amounts.Share b) = nat_le (a.num * b.den) (b.num * a.den)
amount_le _ _ = false

abbrev pub time_named : ℕ → Word → Option Time
time_named clock w = option_and_then only_time (amount_of clock w)

abbrev pub time : ℕ → Reading Time
time clock = one (time_named clock)

abbrev pub proper_share : Amount → Option Share
proper_share a = option_and_then proper (only_share a)

abbrev pub share : ℕ → Reading Share
share clock = one (λ w. option_and_then proper_share (amount_of clock w))

-- ---- spans: A, A to B, at least A, at most B

abbrev pub from_to : Amount → Amount → Option Range
from_to a b = if amount_le a b then Some (record { least = Some a; most = Some b }) else None

unfoldable pub amount_limit : ℕ → Reading Range
amount_limit clock =
    behind_or (codes "least") (one (amount_of clock) >>= (λ a. says (record { least = Some a; most = None })))
    (word (codes "most") >> (one (amount_of clock) >>= (λ b. says (record { least = None; most = Some b }))))

unfoldable pub amounts_in : ℕ → Reading Range
amounts_in clock =
    behind_or (codes "at") (amount_limit clock)
    (one (amount_of clock) >>= (λ a. behind_or (codes "to") (one (amount_of clock) >>= (λ b. says_some (from_to a b)))
    (says (record { least = Some a; most = Some a }))))

abbrev pub count_from_to : ℕ → ℕ → Option Span
count_from_to a b = if nat_le a b then Some (record { least = Some a; most = Some b }) else None

unfoldable pub count_limit : Reading Span
count_limit =
    behind_or (codes "least") (one count_of >>= (λ a. says (record { least = Some a; most = None })))
    (word (codes "most") >> (one count_of >>= (λ b. says (record { least = None; most = Some b }))))

unfoldable pub counts : Reading Span
counts =
    behind_or (codes "at") count_limit
    (one count_of >>= (λ a. behind_or (codes "to") (one count_of >>= (λ b. says_some (count_from_to a b)))
    (says (record { least = Some a; most = Some a }))))

-- a limit that is there has to be of a kind
abbrev pub each_limit : {A B : Type 0} → (A → Option B) → Option A → Option (Option B)
each_limit kind None = Some None
each_limit kind (Some a) = option_map (λ b. Some b) (kind a)

-- from the least state on, up to the greatest: a length in states lies between two times exactly where it lies between these
abbrev pub span_in : Range → Option Span
span_in r = option_and_then (λ a. option_map (λ b. record { least = option_map ceiling a; most = option_map floor b })
    (each_limit only_time r.most)) (each_limit only_time r.least)

abbrev pub shares_in : Range → Option Shares
shares_in r = option_and_then (λ a. option_map (λ b. record { least = a; most = b }) (each_limit proper_share r.most)) (each_limit proper_share r.least)

-- ---- forms

unfoldable pub never : List Word → Reading Form
never marks = do
  e ← events marks
  says (forms.Never e)

abbrev pub after_within : List Atom → Bool → List Atom → Time → Time → Option Form
after_within f none e a b = if time_le a b then Some (forms.After f none e (ceiling a) (floor b)) else None

unfoldable pub after : ℕ → List Word → Reading Form
after clock marks = do
  word (codes "each")
  f ← events marks
  word (codes ",")
  none ← has (codes "no")
  e ← events marks
  word (codes "within")
  a ← time clock
  behind_or (codes "to") (time clock >>= (λ b. says_some (after_within f none e a b))) (says (forms.After f none e 0 (floor a)))

unfoldable pub count : List Word → Reading Form
count marks = do
  n ← counts
  e ← events marks
  word (codes "in")
  word (codes "each")
  behind_or (codes "life") (says (forms.InLife n e))
      (do f ← events marks; word (codes "to"); g ← events marks; says (forms.InEach n e f g))

-- a time of at most 10^9 states, or a share
abbrev pub within_by : Amount → Option Within
within_by (amounts.Time time) = if time_le time (record { states = 10 ^ 9; parts = 0 }) then Some (withins.Time time) else None
within_by (amounts.Share share) = option_map (λ s. withins.Share s) (proper share)

abbrev pub within : ℕ → Reading Within
within clock = one (λ w. option_and_then within_by (amount_of clock w))

unfoldable pub at : ℕ → List Word → List Atom → Reading Form
at clock marks e = do
  s ← share clock
  word (codes "of")
  f ← events marks
  word (codes "to")
  g ← events marks
  word (codes "within")
  d ← within clock
  says (forms.At e s f g d)

unfoldable pub every : ℕ → List Atom → Reading Form
every clock e = do
  word (codes "every")
  r ← amounts_in clock
  says_some (option_map (λ span. forms.Every e span) (span_in r))

unfoldable pub event_form : ℕ → List Word → Reading Form
event_form clock marks = do
  e ← events marks
  behind_or (codes "at") (at clock marks e) (every clock e)

-- a length in states, else in shares
abbrev pub for_by : Steady → Option Span → Option Shares → Option Form
for_by s (Some span) shares = Some (forms.For s span)
for_by s None (Some shares) = Some (forms.ForShare s shares)
for_by s None None = None

abbrev pub apart_by : Steady → Steady → Time → Option Form
apart_by one other time = if same_signal one.signal other.signal then None else Some (forms.Apart one other (ceiling time))

unfoldable pub apart : ℕ → Steady → Reading Form
apart clock one = do
  word (codes "and")
  other ← steady
  d ← time clock
  word (codes "apart")
  says_some (apart_by one other d)

unfoldable pub level_form : ℕ → Reading Form
level_form clock = do
  s ← steady
  behind_or (codes "for") (amounts_in clock >>= (λ r. says_some (for_by s (span_in r) (shares_in r)))) (apart clock s)

-- whether a level stands behind a signal
abbrev pub sees_level : Reading Bool
sees_level words = Some (is_some (level_named (word_at (if bytes_eq (word_at 0 words) (codes "input") then 2 else 1) words)), words)

-- whether a count comes: `at least`, `at most`, or a number
abbrev pub sees_count : Reading Bool
sees_count words = Some (bytes_eq (word_at 0 words) (codes "at") || begins_digit (word_at 0 words), words)

unfoldable pub form : ℕ → List Word → Reading Form
form clock marks =
    behind_or (codes "never") (never marks)
    (behind_or (codes "after") (after clock marks)
    (sees_count >>= (λ counted. if counted then count marks
    else (sees_level >>= (λ levelled. if levelled then level_form clock else event_form clock marks)))))

-- ---- the scope

abbrev pub when_by : ℕ → List Word → Bool → Reading When
when_by clock marks true = time clock >>= (λ t. says (whens.State (ceiling t)))
when_by clock marks false = events marks >>= (λ e. says (whens.Events e))

unfoldable pub when : ℕ → List Word → Reading When
when clock marks = sees_digit >>= when_by clock marks

unfoldable pub optional_when : Word → ℕ → List Word → Reading (Option When)
optional_when this clock marks = behind_or this (when clock marks >>= (λ w. says (Some w))) (says None)

-- `from` and `before`, each at most once, in either order
unfoldable pub scope : ℕ → List Word → Reading Scope
scope clock marks =
    behind_or (codes "before") (do b ← when clock marks; f ← optional_when (codes "from") clock marks; says (record { from = f; before = Some b }))
    (do f ← optional_when (codes "from") clock marks; b ← optional_when (codes "before") clock marks; says (record { from = f; before = b }))

-- ---- rules

unfoldable pub if_any : Reading Bool
if_any = behind_or (codes "if") (word (codes "any") >> says true) (says false)

unfoldable pub rule : ℕ → ℕ → List Word → Reading Rule
rule clock line marks = do
  f ← form clock marks
  s ← scope clock marks
  any ← if_any
  says (record { line = line; form = f; scope = s; if_any = any })

-- What events a rule asks for: one or more atoms, each one kind of event, which may have to come while a signal has a level (this
-- kit's own).
use Rattle.std.specs.Prelude.{ℕ, zero, suc, if◌then◌else◌, Bool, Option, Some, None, option_and_then, List, [], ◌∷◌, length, drop, codes}
use Rattle.std.specs.List.{position_from}
use Rattle.std.specs.Str.{bytes_eq}
use Rattle.kc_base.specs.Fields.{pin_of}
use Rattle.kc_base.specs.Pins.{is_input, is_printed}
use Rattle.kc_base.specs.declared.types.Level.{Level}
use Rattle.kc_base.specs.declared.types.Level.TheVariants.{Low, High}
use Rattle.kc_trace.specs.declared.life.Signal.{Signal}
use Rattle.kc_trace.specs.declared.life.Signal.TheVariants.{Output, Input}
use Rattle.kc_rules.specs.declared.events.Way.{Way}
use Rattle.kc_rules.specs.declared.events.Way.TheVariants.{Rise, Fall, Either}
use Rattle.kc_rules.specs.declared.events.Wanted.{Wanted}
use Rattle.kc_rules.specs.declared.events.Wanted.TheVariants as wants
use Rattle.kc_rules.specs.declared.events.Steady.{Steady}
use Rattle.kc_rules.specs.declared.events.Atom.{Atom}
use Rattle.kc_rules.specs.Words.{Word}
use Rattle.kc_rules.specs.Readings.{Reading, ◌>>=◌, says, nothing, word_at, one, has, behind_or}
use Rattle.kc_rules.specs.Amounts.{up_to}

-- ---- signals and levels

-- a printed pin; or one that comes from outside, which a printed pin is only behind the word `input`
abbrev pub signal_by_number : Bool → ℕ → Option Signal
signal_by_number outside n =
    if outside then (if is_input n then Some (Input (record { 0 = n })) else None)
    else (if is_printed n then Some (Output (record { 0 = n })) else (if is_input n then Some (Input (record { 0 = n })) else None))

abbrev pub signal_named : Bool → Word → Option Signal
signal_named outside w = option_and_then (signal_by_number outside) (pin_of w)

unfoldable pub signal : Reading Signal
signal = do
  outside ← has (codes "input")
  one (signal_named outside)

abbrev pub level_named : Word → Option Level
level_named w = if bytes_eq w (codes "high") then Some High else (if bytes_eq w (codes "low") then Some Low else None)

abbrev pub level : Reading Level
level = one level_named

unfoldable pub steady : Reading Steady
steady = do
  s ← signal
  l ← level
  says (record { signal = s; level = l })

abbrev pub way_named : Word → Option Way
way_named w =
    if bytes_eq w (codes "rise") then Some Rise
    else (if bytes_eq w (codes "fall") then Some Fall
    else (if bytes_eq w (codes "edge") then Some Either else None))

-- ---- atoms

-- the place of a mark among those that there are
abbrev pub mark_named : List Word → Word → Option ℕ
mark_named marks w = position_from (λ name. bytes_eq name w) 0 marks

unfoldable pub edge : Reading Wanted
edge = do
  s ← signal
  way ← one way_named
  says (wants.Edge s way)

abbrev pub entry : Reading Wanted
entry = do
  n ← one (up_to 17)
  says (wants.Entry n)

abbrev pub transfer : Reading Wanted
transfer = do
  n ← one (up_to 14)
  says (wants.Transfer n)

unfoldable pub wanted_by_word : Reading Wanted
wanted_by_word =
    behind_or (codes "entry") entry
    (behind_or (codes "transfer") transfer
    (behind_or (codes "undefined") (says wants.Undefined)
    (behind_or (codes "reset") (says wants.Reset)
    (behind_or (codes "watchdog") (says wants.Watchdog)
    (behind_or (codes "powerdown") (says wants.Powerdown) edge)))))

abbrev pub behind_mark : Option ℕ → List Word → List Word
behind_mark None words = words
behind_mark (Some mark) words = drop 1 words

-- the mark that the first word names, which is taken, if it names one
abbrev pub marked : List Word → Reading (Option ℕ)
marked marks words = Some (mark_named marks (word_at 0 words), behind_mark (mark_named marks (word_at 0 words)) words)

abbrev pub wanted_of : Option ℕ → Reading Wanted
wanted_of None = wanted_by_word
wanted_of (Some mark) = says (wants.Mark mark)

unfoldable pub wanted : List Word → Reading Wanted
wanted marks = marked marks >>= wanted_of

unfoldable pub condition : Reading (Option Steady)
condition = behind_or (codes "while") (do s ← steady; says (Some s)) (says None)

unfoldable pub atom : List Word → Reading Atom
atom marks = do
  w ← wanted marks
  c ← condition
  says (record { wanted = w; condition = c })

-- ---- events: atoms with `or` between, at most so many

unfoldable pub events_up_to : ℕ → List Word → Reading (List Atom)
events_up_to zero marks = nothing
events_up_to (suc n) marks = do
  a ← atom marks
  more ← has (codes "or")
  if more then (events_up_to n marks >>= (λ rest. says (a ∷ rest))) else says (a ∷ [])

-- each atom has a word
abbrev pub events : List Word → Reading (List Atom)
events marks words = events_up_to (length words) marks words

-- What is known of a rule, by what became of its obligations in all lives (this kit's own).
use Rattle.std.specs.Prelude.{ℕ, ◌+◌, ◌/◌, ◌%◌, nat_lt, if◌then◌else◌, Bool, false, true, not, ◌&&◌, ◌||◌, Option, Some, None, List, [], ◌∷◌, ◌++◌, codes, decimal}
use Rattle.kc_trace.specs.Lives.{Life}
use Rattle.kc_rules.specs.declared.mark.Mark.{Mark}
use Rattle.kc_rules.specs.declared.rule.Form.{Form}
use Rattle.kc_rules.specs.declared.rule.Form.TheVariants as forms
use Rattle.kc_rules.specs.declared.rule.Rule.{Rule}
use Rattle.kc_monitor_forms.specs.declared.obligation.Offset.{Offset}
use Rattle.kc_monitor_forms.specs.declared.obligation.Offset.TheVariants.{Minus, Plus}
use Rattle.kc_monitor_forms.specs.declared.obligation.Spread.{Spread}
use Rattle.kc_monitor_forms.specs.declared.tally.Found.{Found}
use Rattle.kc_monitor_forms.specs.declared.tally.Tally.{Tally}
use Rattle.kc_monitor_forms.specs.Tallies.{none, with_all}
use Rattle.kc_monitor.specs.Rules.{obligations}

-- ---- all lives, counted from 1

unfoldable pub tally_from : List Mark → Rule → ℕ → Tally → List Life → Tally
tally_from marks rule life tally [] = tally
tally_from marks rule life tally (l ∷ lives) = tally_from marks rule (life + 1) (with_all life tally (obligations marks rule l)) lives

abbrev pub tally_of : List Mark → Rule → List Life → Tally
tally_of marks rule lives = tally_from marks rule 1 none lives

-- ---- numbers

abbrev pub number : ℕ → List ℕ
number n = codes " " ++ decimal n

abbrev pub offset : Offset → List ℕ
offset (Minus n) = codes "-" ++ decimal n
offset (Plus n) = decimal n

abbrev pub size : Offset → ℕ
size (Minus n) = n
size (Plus n) = n

-- hundredths of a percent
abbrev pub percent : Offset → List ℕ
percent o = decimal (size o / 100) ++ codes "." ++ decimal (size o % 100 / 10) ++ decimal (size o % 10) ++ codes "%"

abbrev pub seen_text : Option Offset → List ℕ
seen_text None = codes "-"
seen_text (Some o) = offset o

-- ---- lines

abbrev pub life_text : ℕ → ℕ → List ℕ
life_text lives life = if nat_lt 1 lives then codes " life" ++ number life else []

abbrev pub broken_line : Rule → ℕ → Tally → Found → List ℕ
broken_line rule lives tally f =
    codes "broken" ++ number rule.line ++ number f.at ++ codes " " ++ seen_text f.seen ++ number tally.bad ++ number tally.good ++ life_text lives f.life

abbrev pub open_line : Rule → ℕ → Tally → Found → List ℕ
open_line rule lives tally f = codes "open" ++ number rule.line ++ number f.at ++ number tally.undecided ++ number tally.good ++ life_text lives f.life

abbrev pub is_asked : Tally → Bool
is_asked tally = nat_lt 0 tally.good || (nat_lt 0 tally.bad || nat_lt 0 tally.undecided)

abbrev pub held_line : Rule → Tally → List ℕ
held_line rule tally = codes "held" ++ number rule.line ++ number tally.good

abbrev pub unasked_line : Rule → List ℕ
unasked_line rule = codes "broken" ++ number rule.line ++ codes " - unasked"

abbrev pub held_or_open : Rule → ℕ → Tally → Option Found → List ℕ
held_or_open rule lives tally None = held_line rule tally
held_or_open rule lives tally (Some f) = open_line rule lives tally f

-- a rule that has asked nothing is broken, but for one that is to hold only if there is something to ask
abbrev pub is_unasked : Rule → Tally → Bool
is_unasked rule tally = not (is_asked tally) && not rule.if_any

abbrev pub first_line : Rule → ℕ → Tally → Option Found → List ℕ
first_line rule lives tally (Some f) = broken_line rule lives tally f
first_line rule lives tally None =
    if is_unasked rule tally then unasked_line rule else held_or_open rule lives tally tally.first_open

abbrev pub is_in_shares : Form → Bool
is_in_shares (forms.ForShare steady shares) = true
is_in_shares _ = false

abbrev pub value_text : Bool → Offset → List ℕ
value_text shares o = if shares then percent o else offset o

abbrev pub spread_line : Rule → Option Spread → List ℕ
spread_line rule None = []
spread_line rule (Some s) =
    codes "spread" ++ number rule.line ++ codes " " ++ value_text (is_in_shares rule.form) s.least
    ++ codes " " ++ value_text (is_in_shares rule.form) s.most ++ codes "\n"

abbrev pub verdict_of : Rule → ℕ → Tally → List ℕ
verdict_of rule lives tally = first_line rule lives tally tally.first_bad ++ codes "\n" ++ spread_line rule tally.spread

abbrev pub is_broken_by : Rule → Tally → Option Found → Bool
is_broken_by rule tally None = is_unasked rule tally
is_broken_by rule tally (Some f) = true

abbrev pub is_broken : Rule → Tally → Bool
is_broken rule tally = is_broken_by rule tally tally.first_bad

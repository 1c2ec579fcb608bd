-- What became of the obligations of a rule, counted (this kit's own). Each count stands at 2^64 - 1.
use Rattle.std.specs.Prelude.{ℕ, ◌+◌, ◌-◌, ◌^◌, min, Option, Some, None, List, fold}
use Rattle.kc_monitor_forms.specs.declared.obligation.Answer.{Answer}
use Rattle.kc_monitor_forms.specs.declared.obligation.Answer.TheVariants.{Good, Bad, Open}
use Rattle.kc_monitor_forms.specs.declared.obligation.Spread.{Spread}
use Rattle.kc_monitor_forms.specs.declared.obligation.Obligation.{Obligation}
use Rattle.kc_monitor_forms.specs.declared.tally.Found.{Found}
use Rattle.kc_monitor_forms.specs.declared.tally.Tally.{Tally}
use Rattle.kc_monitor_forms.specs.Obligations.{least_of, most_of}

abbrev pub none : Tally
none = record { good = 0; bad = 0; undecided = 0; first_bad = None; first_open = None; spread = None }

abbrev pub one_more : ℕ → ℕ
one_more n = min (n + 1) (2 ^ 64 - 1)

abbrev pub first_of : Option Found → Found → Option Found
first_of None now = Some now
first_of (Some found) now = Some found

abbrev pub found : ℕ → Obligation → Found
found life o = record { life = life; at = o.at; seen = o.seen }

abbrev pub widened : Option Spread → Option Spread → Option Spread
widened None more = more
widened (Some a) None = Some a
widened (Some a) (Some b) = Some (record { least = least_of a.least b.least; most = most_of a.most b.most })

abbrev pub answered : ℕ → Obligation → Answer → Tally → Tally
answered life o Good tally = record tally { good = one_more tally.good }
answered life o Bad tally = record tally { bad = one_more tally.bad; first_bad = first_of tally.first_bad (found life o) }
answered life o Open tally = record tally { undecided = one_more tally.undecided; first_open = first_of tally.first_open (found life o) }

abbrev pub spread_by : Tally → Option Spread → Tally
spread_by tally more = record tally { spread = widened tally.spread more }

-- with an obligation of a life
abbrev pub with_one : ℕ → Tally → Obligation → Tally
with_one life tally o = spread_by (answered life o o.answer tally) o.spread

-- with the obligations of a life
unfoldable pub with_all : ℕ → Tally → List Obligation → Tally
with_all life tally os = fold (with_one life) tally os

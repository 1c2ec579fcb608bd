-- What is printed of the passes through a routine: the bound that a certificate shows, or why none is found (this kit's own).
use Rattle.std.specs.Prelude.{◌≡◌, ℕ, ◌≤◌, Bool, true, false, ◌==◌, if◌then◌else◌, Option, Some, None, List, [], ◌∷◌, ◌++◌, codes, decimal, flat_map}
use Rattle.kc_base.specs.Limits.{max_states}
use Rattle.kc_bound.specs.declared.notes.Loop.{Loop}
use Rattle.kc_bound.specs.declared.notes.Notes.{Notes}
use Rattle.kc_bound.specs.declared.certificate.Certificate.{Certificate}
use Rattle.kc_bound.specs.declared.certificate.Bound.{Bound}
use Rattle.kc_bound.specs.Certified.{Shows}
use Rattle.kc_kit_bound.specs.Refusals.{IsRefused}
use Rattle.kc_debug_script.specs.declared.line_map.MapEntry.{MapEntry}
use Rattle.kc_kit_words.specs.declared.command.Wanted.{Wanted}
use Rattle.kc_kit_bound.specs.Stops.{first_stop}
use Rattle.kc_kit_bound.specs.Texts.{at_text, states_line}
use Rattle.kc_kit_bound.specs.Told.{first_of, latency_first, IsOpenText, IsLatencyText}
use Rattle.kc_kit_bound.specs.Walks.{IsWalkText}

-- where it may end without a return
abbrev pub stop_text : Option ℕ → List ℕ
stop_text None = []
stop_text (Some a) = codes "stops" ++ at_text a ++ codes "\n"

-- a loop: its head, the most states of a turn, how many turns, and where these are counted anew
abbrev pub per_text : List ℕ → List ℕ
per_text [] = []
per_text (a ∷ more) = codes " per" ++ flat_map at_text (a ∷ more)

abbrev pub loop_line : Loop → ℕ → List ℕ
loop_line l price = codes "loop" ++ at_text l.head ++ codes " " ++ decimal price ++ codes " x " ++ decimal l.most ++ per_text l.per.items ++ codes "\n"

-- one that adds nothing to the bound has no line
abbrev pub loop_text : Loop → ℕ → List ℕ
loop_text l price = if price == 0 then [] else loop_line l price

abbrev pub loops_text : List Loop → List ℕ → List ℕ
loops_text (l ∷ loops) (price ∷ prices) = loop_text l price ++ loops_text loops prices
loops_text _ _ = []

-- the most states of a pass that is over, what is told of requests, where it may end without a return, the loops in the order of their
-- notes, and a walk
abbrev pub bound_text : List ℕ → Notes → ℕ → Certificate → Bound → List ℕ → List ℕ → List ℕ → List ℕ
bound_text image notes from c b served latency walk =
    states_line (codes "bound") from b.over ++ served ++ latency ++ stop_text (first_stop image notes from c) ++ loops_text notes.loops.items c.prices.items ++ walk

-- a walk is printed where it is asked for
abbrev pub IsMaybeWalk : Bool → List ℕ → Notes → ℕ → List MapEntry → List ℕ → Type 0
IsMaybeWalk true image notes from lines text = IsWalkText image notes from lines text
IsMaybeWalk false image notes from lines text = text ≡ []

-- a certificate shows a bound of each pass from an address, at most the longest run, and this is its text, with what is told beside it
pub record IsBoundText (image : List ℕ) (notes : Notes) (lines : List MapEntry) (from : ℕ) (wanted : Wanted) (text : List ℕ) : Type 0 where
  pub certificate : Certificate
  pub bound : Bound
  pub shows : Shows image notes from certificate bound
  pub most : bound.over ≤ max_states
  pub served : List ℕ
  pub is_served : IsOpenText image notes from (first_of wanted) served
  pub latency : List ℕ
  pub is_latency : IsLatencyText wanted.latency image notes from (latency_first wanted from) latency
  pub walk : List ℕ
  pub is_walk : IsMaybeWalk wanted.worst image notes from lines walk
  pub printed : text ≡ bound_text image notes from certificate bound served latency walk

-- whether a bound is printed, with the text
abbrev pub IsReport : List ℕ → Notes → List MapEntry → ℕ → Wanted → Bool → List ℕ → Type 0
IsReport image notes lines from wanted true text = IsBoundText image notes lines from wanted text
IsReport image notes lines from wanted false text = IsRefused image notes from text

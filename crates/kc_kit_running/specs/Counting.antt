-- What is counted of the states of a life, and of lives (this kit's own).
use Rattle.std.specs.Prelude.{◌≡◌, ℕ, List, length, map, flat_map}
use Rattle.kc_profile.specs.declared.sight.Sight.{Sight}
use Rattle.kc_profile.specs.declared.spot.Spot.{Spot}
use Rattle.kc_profile.specs.Tally.{Tally, IsTallyOf}
use Rattle.kc_profile.specs.Statistics.{Statistics, AreAllFew, AreStatisticsOf, statistics_of_lives}
use Rattle.kc_kit_running.specs.Profiled.{Counted}

-- the numbers of the life with a number, whose states went to these spots and showed this, the last first
pub record IsCount (number : ℕ) (spots : List Spot) (sights : List Sight) (t : Tally) (s : Statistics) : Type 0 where
  pub tally : IsTallyOf spots t
  pub life : s.life ≡ number
  pub statistics : AreStatisticsOf number sights s
  pub few : AreAllFew (length spots) s

-- the numbers of lives together, of which the first has number 1
pub record IsSum (lives : List Counted) (t : Tally) (s : Statistics) : Type 0 where
  pub tally : IsTallyOf (flat_map (λ (c : Counted). c.spots) lives) t
  pub statistics : s ≡ statistics_of_lives 1 (map (λ (c : Counted). c.sights) lives)
  pub few : AreAllFew (length (flat_map (λ (c : Counted). c.spots) lives)) s

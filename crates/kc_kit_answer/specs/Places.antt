-- Modules that are placed (this kit's own; the rules of linking after RL96 of the MCS-96 utilities, in outline).
use Rattle.std.specs.Prelude.{ℕ, List, Result, Ok, Err}
use Rattle.kc_obj_module.specs.Object.{Object}
use Rattle.kc_link_place.specs.declared.ranges.Ranges.{Ranges}
use Rattle.kc_link_place.specs.declared.ranges.LinkFault.{LinkFault}
use Rattle.kc_link_place.specs.Placing.{Places}
use Rattle.kc_link.specs.Placed.{placed}
use Rattle.kc_kit_files.specs.declared.status.Status.TheVariants as status
use Rattle.kc_kit_files.specs.Response.{Response, reports, Then}
use Rattle.kc_kit_messages.specs.Rules.{link_line}
use Rattle.kc_kit_messages.specs.RuleDiagnostics.{link_diagnostic}

-- the places of modules, or the response to the first broken rule
abbrev pub by_places : List (List ℕ) → List Object → Result Places LinkFault → Result Places Response
by_places names ms (Ok places) = Ok places
by_places names ms (Err fault) = Err (reports status.Link (link_line names fault) (link_diagnostic names ms fault))

abbrev pub places_of : List (List ℕ) → List Object → Ranges → Result Places Response
places_of names ms ranges = by_places names ms (placed ms ranges)

-- what may be answered to modules, once they are placed
abbrev pub Placing : List (List ℕ) → Ranges → (List Object → Places → Response → Type 0) → List Object → Response → Type 0
Placing names ranges may ms response = Then (places_of names ms ranges) (may ms) response

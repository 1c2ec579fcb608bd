-- The place where the rewriting of a source ends; it has counted how many names were given for LOCAL names (this kit's own).
use Rattle.std.specs.Prelude.{◌≡◌, List, Some, Ok}
use Rattle.kc_lex.specs.declared.token.Line.{Line}
use Rattle.kc_macro.specs.declared.state.State.{State}
use Rattle.kc_macro.specs.Steps.{Ended, step}
use Rattle.kc_macro.specs.Expansion.{start, expanded}
use Rattle.kc_macro_laws.specs.Course.{Leads}

-- it comes to this place, and ends there with these lines
pub record EndsAt (lines : List Line) (s : State) (out : List Line) : Type 0 where
  pub leads : Leads (start lines) s
  pub ends : step s ≡ Ended out

-- an expansion without a fault ends at a place
abbrev pub ExpansionEndsAtAPlace : Type 0
ExpansionEndsAtAPlace = (lines out : List Line) → expanded lines ≡ Some (Ok out) → (s : State) × EndsAt lines s out

-- What is answered of the passes from an address (this kit's own). Of a certificate nothing is said but how long its lists are: what it
-- shows is for its check to say.
use Rattle.std.specs.Prelude.{◌≡◌, ℕ, ◌-◌, ◌<◌, Bool, false, List, length, vec_len}
use Rattle.kc_base.specs.Limits.{image_start, rom_end}
use Rattle.kc_bound.specs.declared.notes.Notes.{Notes}
use Rattle.kc_bound.specs.declared.certificate.Certificate.{Certificate}
use Rattle.kc_bound_find.specs.declared.finding.Found.{Found}
use Rattle.kc_bound_find.specs.declared.finding.Found.TheVariants as found
use Rattle.kc_bound_find.specs.declared.solving.Solved.{Solved}
use Rattle.kc_bound_find.specs.declared.solving.Solved.TheVariants as solved
use Rattle.kc_bound_find.specs.Refusals.{AreRefusals, is_of_instruction}

-- a standing, or none, for each address of the ROM, and a price for each loop
pub record HasShape (notes : Notes) (c : Certificate) : Type 0 where
  pub standings : vec_len c.standings ≡ rom_end - image_start
  pub prices : vec_len c.prices ≡ vec_len notes.loops

abbrev pub IsAnswer : List ℕ → Notes → Found → Type 0
IsAnswer image notes (found.Certificate c) = HasShape notes c
IsAnswer image notes (found.Refused refusals) = AreRefusals image notes refusals.items

-- The same before it is joined to what is refused of instructions: one address or more, if none of these is.
abbrev pub IsSolved : Bool → Notes → Solved → Type 0
IsSolved is_refused notes (solved.Certificate c) = HasShape notes c
IsSolved is_refused notes (solved.Refused why addresses) = (is_of_instruction why ≡ false) × (is_refused ≡ false → 0 < length addresses.items)

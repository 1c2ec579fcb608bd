-- The faults of a stimulus file (this kit's own).
use Rattle.std.specs.Prelude.{ℕ, List, codes, Option, Some, None}
use Rattle.kc_stim.specs.declared.fault.StimFault.{StimFault}
use Rattle.kc_stim.specs.declared.fault.StimFault.TheVariants as faults

-- the line of a fault, and the word that is its code
abbrev pub place_of : StimFault → Option (ℕ × List ℕ)
place_of (faults.BadLine line) = Some (line, codes "BADLINE")
place_of (faults.Wired line) = Some (line, codes "WIRED")
place_of (faults.Falling line) = Some (line, codes "FALLING")
place_of (faults.Twice line) = Some (line, codes "TWICE")
place_of (faults.TooMany line) = Some (line, codes "TOOMANY")
place_of faults.NoMemory = None

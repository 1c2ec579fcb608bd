-- The name of a use against a rule: a name that is defined again, that EXTRN may not take or PUBLIC may not give (after the
-- MCS-96 Macro Assembler User's Guide, "EXTRN" and "PUBLIC"; the codes are this kit's own).
use Rattle.std.specs.Prelude.{ℕ, Bool, false, ◌&&◌, ◌==◌, if◌then◌else◌, List, [], ◌∷◌, Option, Some, None}
use Rattle.kc_source.specs.declared.uses.Use.{Use}
use Rattle.kc_source.specs.Faults.{use_code}

abbrev pub is_code : ℕ → Option ℕ → Bool
is_code code None = false
is_code code (Some other) = other == code

-- whether a use at this line has this code, behind these uses, the latest first. (That there are too many names is another fault.)
abbrev pub is_refused : ℕ → ℕ → List Use → List Use → Use → Bool
is_refused line code all earlier u = (u.line == line) && is_code code (use_code u.kind u.name false all earlier)

-- the name of the first of these uses that has the code
unfoldable pub used_from : ℕ → ℕ → List Use → List Use → List Use → Option (List ℕ)
used_from line code all earlier [] = None
used_from line code all earlier (u ∷ us) = if is_refused line code all earlier u then Some u.name else used_from line code all (u ∷ earlier) us

abbrev pub used_at : ℕ → ℕ → List Use → Option (List ℕ)
used_at line code uses = used_from line code uses [] uses

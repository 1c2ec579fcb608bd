-- The line of a macro's body that the first fault of a source comes from (this kit's own). Each line that a call puts in has
-- the number of the call; so the line of the expansion that has the fault is sought, and where that one was written.
use Rattle.std.specs.Prelude.{◌≡◌, ◌⊎◌, ℕ, zero, suc, ◌+◌, ◌-◌, ◌/◌, ◌<◌, true, false, List, length, Option, Some, None, Result, Ok, Err, slice_index_or}
use Rattle.std.specs.List.{list_all}
use Rattle.std.specs.Option.{is_none}
use Rattle.kc_lex.specs.declared.token.Line.{Line}
use Rattle.kc_lex.specs.Lines.{lines_of}
use Rattle.kc_macro.specs.Expansion.{Answer, expanded}
use Rattle.kc_source.specs.Faults.{Fault}
use Rattle.kc_asm_origin.specs.Written.{marked, places_of}
use Rattle.kc_asm_origin.specs.Alike.{are_lines_alike}
use Rattle.kc_asm_origin.specs.First.{with_first}
use Rattle.kc_asm_origin.specs.Reported.{IsReported, IsNotReported}

-- ---- in an expansion, by where its lines of the fault's number were written

-- all of them on the line of that number
abbrev pub AreInPlace : List (Option ℕ) → Type 0
AreInPlace places = list_all is_none places ≡ true

-- whether the fault is reported with its lines and not without them; it is not where no pass behind expansion reports it
abbrev pub IsOfItsLines : Fault → List Line → Type 0
IsOfItsLines f text = IsReported text (Some f) × IsNotReported (with_first f.0 0 text) f

abbrev pub IsOfOthers : Fault → List Line → Type 0
IsOfOthers f text = IsNotReported text f ⊎ IsReported (with_first f.0 0 text) (Some f)

-- the fault is reported with line k of its number, from 0, and not with those before it alone
abbrev pub IsOfLine : Fault → List Line → ℕ → Type 0
IsOfLine f text k = IsNotReported (with_first f.0 k text) f × IsReported (with_first f.0 (k + 1) text) (Some f)

abbrev pub middle : ℕ → ℕ → ℕ
middle low high = low + (high - low) / 2

-- which line is sought first: halving the lines between two counts finds this one, in so many rounds
unfoldable pub IsHalved : ℕ → Fault → List Line → ℕ → ℕ → ℕ → Type 0
IsHalved zero f text low high k = (high ≡ low + 1) × (k ≡ low)
IsHalved (suc rounds) f text low high k =
    (low + 1 < high)
    × ((IsReported (with_first f.0 (middle low high) text) (Some f) × IsHalved rounds f text low (middle low high) k)
    ⊎ (IsNotReported (with_first f.0 (middle low high) text) f × IsHalved rounds f text (middle low high) high k))

-- the line of the text that has the fault, one of so many of its number
abbrev pub IsFaultyLine : Fault → List Line → ℕ → ℕ → Type 0
IsFaultyLine f text count k = IsOfLine f text k × (rounds : ℕ) × IsHalved rounds f text 0 count k

abbrev pub IsOriginIn : Fault → List Line → List (Option ℕ) → Option ℕ → Type 0
IsOriginIn f text places found =
    ((AreInPlace places ⊎ IsOfOthers f text) × (found ≡ None))
    ⊎ (IsOfItsLines f text × (k : ℕ) × IsFaultyLine f text (length places) k × (found ≡ slice_index_or places k None))

-- ---- the whole, by the expansion of the lines and that of the marked lines

-- none where marks have changed the expansion
abbrev pub IsOriginAmong : Fault → List Line → List Line → Option ℕ → Type 0
IsOriginAmong f text other found =
    ((are_lines_alike other text ≡ false) × (found ≡ None))
    ⊎ ((are_lines_alike other text ≡ true) × IsOriginIn f text (places_of f.0 other) found)

abbrev pub IsOriginBetween : Fault → List Line → Answer → Option ℕ → Type 0
IsOriginBetween f text (Some (Ok other)) found = IsOriginAmong f text other found
IsOriginBetween f text (Some (Err g)) found = found ≡ None
IsOriginBetween f text None found = found ≡ None

abbrev pub IsOriginOfText : Fault → Answer → Answer → Option ℕ → Type 0
IsOriginOfText f (Some (Ok text)) other found = IsOriginBetween f text other found
IsOriginOfText f (Some (Err g)) other found = found ≡ None
IsOriginOfText f None other found = found ≡ None

abbrev pub IsOriginOfLines : Fault → Result (List Line) Fault → Option ℕ → Type 0
IsOriginOfLines f (Ok lines) found = IsOriginOfText f (expanded lines) (expanded (marked lines)) found
IsOriginOfLines f (Err g) found = found ≡ None

-- what is found for the fault of a source at a line with a code; a fault of its lines or its macros has none
abbrev pub IsOrigin : List ℕ → ℕ → ℕ → Option ℕ → Type 0
IsOrigin source line code found = IsOriginOfLines (line, code) (lines_of source) found

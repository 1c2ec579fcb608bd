-- What is said in words of the first fault of a source (this kit's own).
use Rattle.std.specs.Prelude.{◌≡◌, ◌++◌, codes, ℕ, Option}
use Rattle.kc_asm_origin.specs.Origin.{IsOrigin}
use Rattle.kc_asm_origin.specs.Symbol.{symbol_of}
use Rattle.kc_kit_messages.specs.Subjects.{source_diagnostic, body_diagnostic}
use Rattle.kc_kit_inputs.specs.Lines.{coded}
use Rattle.kc_kit_inputs.specs.Sources.{DiagnosticRule}

-- its sentence, with the name that it is about, and behind it the line of a macro's body that has the fault, where one has it
abbrev pub IsFaultDiagnostic : DiagnosticRule
IsFaultDiagnostic name text line code diagnostic =
    (origin : Option ℕ) × IsOrigin text line code origin
    × (diagnostic ≡ source_diagnostic name text line (coded (codes "E") code) code (symbol_of text line code) ++ body_diagnostic name text origin)

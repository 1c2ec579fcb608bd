-- The responses to a source, to another file that has lines, and to one that has none: by the place and the code of their fault
-- (this kit's own).
use Rattle.std.specs.Prelude.{ℕ, List}
use Rattle.kc_kit_files.specs.declared.status.Status.TheVariants as status
use Rattle.kc_kit_files.specs.Response.{Response, reports}
use Rattle.kc_kit_messages.specs.Diagnostics.{line_diagnostic, unkept_diagnostic, byte_diagnostic}
use Rattle.kc_kit_inputs.specs.Lines.{source_line, input_line}

-- that to a source has this diagnostic (`FaultDiagnostics`)
abbrev pub source_response : List ℕ → ℕ → ℕ → List ℕ → Response
source_response name line code diagnostic = reports status.Source (source_line name line code) diagnostic

abbrev pub line_response : List ℕ → List ℕ → ℕ → List ℕ → Response
line_response name text line code = reports status.Input (input_line name line code) (line_diagnostic name text line code)

-- of a text of which no line is kept
abbrev pub unkept_response : List ℕ → ℕ → List ℕ → Response
unkept_response name line code = reports status.Input (input_line name line code) (unkept_diagnostic name line code)

abbrev pub byte_response : List ℕ → ℕ → List ℕ → Response
byte_response name place code = reports status.Input (input_line name place code) (byte_diagnostic name place code)

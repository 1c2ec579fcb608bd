-- Sources that are checked in their order (this kit's own; the first fault of a source is that of the assembler).
use Rattle.std.specs.Prelude.{◌≡◌, ◌⊎◌, ℕ, List, [], ◌∷◌, Result, Ok, Err}
use Rattle.kc_obj_module.specs.Object.{Object}
use Rattle.kc_asm.specs.Assembled.{IsModule, IsFirstFault, IsFaultless}
use Rattle.kc_kit_files.specs.Response.{Response}
use Rattle.kc_kit_inputs.specs.Responses.{source_response}

-- Which diagnostics may be said of a fault of a source, by its name and its text, and the line and the code of the fault. The definitions of
-- answers take this rule as it is given to them: a fault is answered by its line and its code, whatever is said of it in words.
abbrev pub DiagnosticRule : Type 1
DiagnosticRule = List ℕ → List ℕ → ℕ → ℕ → List ℕ → Type 0

-- any diagnostic may be said
abbrev pub AnyDiagnostic : DiagnosticRule
AnyDiagnostic name text line code diagnostic = Unit {0}

-- the response names this fault of a source
abbrev pub Reports : DiagnosticRule → List ℕ → List ℕ → ℕ → ℕ → Response → Type 0
Reports IsDiagnostic name text line code response = (diagnostic : List ℕ) × IsDiagnostic name text line code diagnostic × (response ≡ source_response name line code diagnostic)

-- the response names the first fault of a source
abbrev pub ReportsFault : DiagnosticRule → List ℕ → List ℕ → Response → Type 0
ReportsFault IsDiagnostic name text response = (line : ℕ) × (code : ℕ) × IsFirstFault text (line, code) × Reports IsDiagnostic name text line code response

-- the module of a source, or the response to its first fault
abbrev pub SourceIs : DiagnosticRule → List ℕ → List ℕ → Result Object Response → Type 0
SourceIs IsDiagnostic name text (Ok m) = IsModule text m
SourceIs IsDiagnostic name text (Err response) = ReportsFault IsDiagnostic name text response

-- the modules of sources, each of its own
abbrev pub AreModules : List (List ℕ) → List Object → Type 0
AreModules [] [] = Unit {0}
AreModules (text ∷ texts) (m ∷ ms) = IsModule text m × AreModules texts ms
AreModules _ _ = ⊥

-- the response names the first fault of the first source that has one: those before it have a module
abbrev pub ReportsFirst : DiagnosticRule → List (List ℕ) → List (List ℕ) → Response → Type 0
ReportsFirst IsDiagnostic (name ∷ names) (text ∷ texts) response = ReportsFault IsDiagnostic name text response ⊎ (((m : Object) × IsModule text m) × ReportsFirst IsDiagnostic names texts response)
ReportsFirst IsDiagnostic _ _ response = ⊥

-- the modules of sources, or the response to the first source with a fault
abbrev pub SourcesAre : DiagnosticRule → List (List ℕ) → List (List ℕ) → Result (List Object) Response → Type 0
SourcesAre IsDiagnostic names texts (Ok ms) = AreModules texts ms
SourcesAre IsDiagnostic names texts (Err response) = ReportsFirst IsDiagnostic names texts response

-- ---- sources without a fault

abbrev pub AreFaultless : List (List ℕ) → Type 0
AreFaultless [] = Unit {0}
AreFaultless (text ∷ texts) = IsFaultless text × AreFaultless texts

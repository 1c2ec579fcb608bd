-- The command that explains a code (this kit's own).
use Rattle.std.specs.Prelude.{ℕ, List, ◌++◌, codes, Option, Some, None}
use Rattle.kc_kit_messages.specs.Meanings.{Said, said_of}
use Rattle.kc_kit_messages.specs.Text.{meaning_text}
use Rattle.kc_kit_files.specs.Shown.{word_shown}
use Rattle.kc_kit_files.specs.declared.status.Status.TheVariants as status
use Rattle.kc_kit_files.specs.Response.{Response, says, reports}

abbrev pub no_code_line : List ℕ → List ℕ
no_code_line code = codes "missing code " ++ code ++ codes "\n"

-- what is said in words of a code that is none
abbrev pub no_code_diagnostic : List ℕ → List ℕ
no_code_diagnostic code = codes "kc96: error: there is no code " ++ word_shown code ++ codes "\n"

-- the text of a row, or that there is no such code
abbrev pub explained_by : List ℕ → Option Said → Response
explained_by code (Some row) = says status.Done (meaning_text row)
explained_by code None = reports status.Missing (no_code_line code) (no_code_diagnostic code)

abbrev pub explained : List ℕ → Response
explained code = explained_by code (said_of code)

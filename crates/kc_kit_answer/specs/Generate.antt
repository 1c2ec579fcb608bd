-- The command that runs the input that is made from a number (this kit's own).
use Rattle.std.specs.Prelude.{ℕ, Some, None, List, [], ◌∷◌, codes}
use Rattle.std.specs.Result.{IsOk}
use Rattle.kc_obj_module.specs.Object.{Object}
use Rattle.kc_gen.specs.Sources.{program_text}
use Rattle.kc_gen.specs.Stimuli.{stimuli_text}
use Rattle.kc_kit_files.specs.Response.{Response}
use Rattle.kc_kit_words.specs.Words.{placing_of}
use Rattle.kc_kit_inputs.specs.Driving.{GivenFiles, driving_of}
use Rattle.kc_kit_inputs.specs.Sources.{DiagnosticRule, AreModules, AreFaultless}
use Rattle.kc_kit_running.specs.Counted.{summary_of}
use Rattle.kc_kit_answer.specs.Places.{places_of}
use Rattle.kc_kit_answer.specs.Run.{SourcesReported}

-- ---- the made input, as files of these names

abbrev pub made_names : List (List ℕ)
made_names = codes "gen0" ∷ codes "gen1" ∷ codes "gen2" ∷ []

abbrev pub made_texts : ℕ → List (List ℕ)
made_texts number = program_text number 0 ∷ program_text number 1 ∷ program_text number 2 ∷ []

abbrev pub made_given : ℕ → GivenFiles
made_given number = record { stimuli = Some (codes "gens", stimuli_text number); analog = None }

-- the made input is answered as sources that are run, by this summary
abbrev pub GenerateAnswer : DiagnosticRule → ℕ → Response → Type 0
GenerateAnswer IsDiagnostic number response = SourcesReported IsDiagnostic made_names (made_given number) (placing_of []) (made_texts number) (summary_of number) response

-- what is accepted: the made sources have no fault, no rule of the linker is broken, and the made stimuli have their form
pub record IsGenerable (number : ℕ) : Type 0 where
  pub sources : AreFaultless (made_texts number)
  pub modules : (ms : List Object) → AreModules (made_texts number) ms → IsOk (places_of made_names ms (placing_of []))
  pub driving : IsOk (driving_of (made_given number))

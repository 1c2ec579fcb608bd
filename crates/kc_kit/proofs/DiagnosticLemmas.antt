-- What may be answered with the diagnostics of a rule may be answered whatever is said of a fault of a source.
use Rattle.std.proofs.Common.{inl, inr, ℕ, List, [], ◌∷◌, ◌++◌, length, take, Option, Some, None, Result, Ok, Err}
use Rattle.kc_base.specs.Held.{Holding}
use Rattle.kc_obj_module.specs.Object.{Object}
use Rattle.kc_link_place.specs.declared.ranges.Ranges.{Ranges}
use Rattle.kc_kit_files.specs.Response.{Response}
use Rattle.kc_kit_files.specs.Reads.{reads_of}
use Rattle.kc_kit_words.specs.Commands.{Command, Helps, HelpsOn, ReportsVersion, Runs, Profiles, Assembles, Packs, Links, RunsHex, ProfilesHex, Lists, Debugs, Generates, Dumps, Checks, Bounds, Explains, names_of}
use Rattle.kc_kit_words.specs.Words.{placing_of}
use Rattle.kc_kit_inputs.specs.declared.driving.Driving.{Driving}
use Rattle.kc_kit_inputs.specs.Driving.{GivenFiles}
use Rattle.kc_kit_inputs.specs.Sources.{DiagnosticRule, AnyDiagnostic, ReportsFault, SourceIs, ReportsFirst, SourcesAre}
use Rattle.kc_kit_answer.specs.Answer.{OneText, Parted, CommandAnswer, MayAnswer}
use Rattle.kc_kit_running.specs.Counted.{summary_of}
use Rattle.kc_kit_running.specs.Lives.{board_response}
use Rattle.kc_kit_running.specs.Profiled.{Known, profile_response}
use Rattle.kc_kit_running.specs.Sources.{FileLines}
use Rattle.kc_kit_answer.specs.Assemble.{AssembleAnswer}
use Rattle.kc_kit_answer.specs.Generate.{made_names, made_texts, made_given}
use Rattle.kc_kit_answer.specs.Profile.{LinesReported, ProfileAnswer}
use Rattle.kc_kit_answer.specs.Run.{RunReported, RunAnswer}
use Rattle.kc_kit_answer.proofs.AnswerSteps.{then-map}

module _ (IsDiagnostic : DiagnosticRule) where
  fault-any : (name text : List ℕ) (r : Response) → ReportsFault IsDiagnostic name text r → ReportsFault AnyDiagnostic name text r
  fault-any name text r h = (h.0, h.1, h.2, (h.3.0, tt, h.3.2))

  source-any : (name text : List ℕ) (x : Result Object Response) → SourceIs IsDiagnostic name text x → SourceIs AnyDiagnostic name text x
  source-any name text (Ok m) h = h
  source-any name text (Err r) h = fault-any name text r h

  first-any : (names texts : List (List ℕ)) (r : Response) → ReportsFirst IsDiagnostic names texts r → ReportsFirst AnyDiagnostic names texts r
  first-any [] texts r h = absurd h
  first-any (n ∷ names) [] r h = absurd h
  first-any (n ∷ names) (t ∷ texts) r (inl h) = inl (fault-any n t r h)
  first-any (n ∷ names) (t ∷ texts) r (inr h) = inr (h.0, first-any names texts r h.1)

  sources-any : (names texts : List (List ℕ)) (x : Result (List Object) Response) → SourcesAre IsDiagnostic names texts x → SourcesAre AnyDiagnostic names texts x
  sources-any names texts (Ok ms) h = h
  sources-any names texts (Err r) h = first-any names texts r h

  reported-any : (names : List (List ℕ)) (given : GivenFiles) (ranges : Ranges) (texts : List (List ℕ)) (report : FileLines → Driving → List ℕ → Response) (r : Response) →
      RunReported IsDiagnostic names given ranges texts report r → RunReported AnyDiagnostic names given ranges texts report r
  reported-any names given ranges texts report r (x, h, k) = (x, sources-any names texts x h, k)

  lines-any : (names : List (List ℕ)) (given : GivenFiles) (ranges : Ranges) (texts : List (List ℕ)) (report : Known → Driving → List ℕ → Response) (r : Response) →
      LinesReported IsDiagnostic names given ranges texts report r → LinesReported AnyDiagnostic names given ranges texts report r
  lines-any names given ranges texts report r (x, h, k) = (x, sources-any names texts x h, k)

  object-any : (name out : List ℕ) (list : Option (List ℕ)) (texts : List (List ℕ)) (r : Response) → OneText (AssembleAnswer IsDiagnostic name out list) texts r → OneText (AssembleAnswer AnyDiagnostic name out list) texts r
  object-any name out list (t ∷ []) r (x, h, k) = (x, source-any name t x h, k)
  object-any name out list [] r h = absurd h
  object-any name out list (t ∷ u ∷ texts) r h = absurd h

  command-any : (c : Option Command) (contents : List (Option (List ℕ))) (r : Response) → CommandAnswer IsDiagnostic c contents r → CommandAnswer AnyDiagnostic c contents r
  command-any None contents r h = h
  command-any (Some Helps) contents r h = h
  command-any (Some (HelpsOn verb)) contents r h = h
  command-any (Some ReportsVersion) contents r h = h
  command-any (Some (Runs files inputs extent placing)) contents r h =
      then-map (reads_of (files ++ names_of inputs) contents) (Parted (length files) (RunAnswer IsDiagnostic files inputs extent placing)) (Parted (length files) (RunAnswer AnyDiagnostic files inputs extent placing)) r
      (λ texts k. reported-any files _ placing (take (length files) texts) (λ lines. board_response lines extent) r k) h
  command-any (Some (Profiles files inputs extent placing behind)) contents r h =
      then-map (reads_of (files ++ names_of inputs) contents) (Parted (length files) (ProfileAnswer IsDiagnostic files inputs extent placing behind)) (Parted (length files) (ProfileAnswer AnyDiagnostic files inputs extent placing behind)) r
      (λ texts k. lines-any files _ placing (take (length files) texts) (profile_response extent behind) r k) h
  command-any (Some (ProfilesHex file inputs extent out)) contents r h = h
  command-any (Some (Assembles file out list)) contents r h =
      then-map (reads_of (file ∷ []) contents) (OneText (AssembleAnswer IsDiagnostic file out list)) (OneText (AssembleAnswer AnyDiagnostic file out list)) r (λ texts k. object-any file out list texts r k) h
  command-any (Some (Packs files out)) contents r h = h
  command-any (Some (Links files inputs out beside placing)) contents r h = h
  command-any (Some (RunsHex file inputs extent)) contents r h = h
  command-any (Some (Lists file first last)) contents r h = h
  command-any (Some (Debugs file script inputs lives)) contents r h = h
  command-any (Some (Generates number)) contents r h = reported-any made_names (made_given number) (placing_of []) (made_texts number) (λ lines. summary_of number) r h
  command-any (Some (Dumps trace inputs out clock)) contents r h = h
  command-any (Some (Checks trace rules inputs clock)) contents r h = h
  command-any (Some (Bounds file from to inputs wanted)) contents r h = h
  command-any (Some (Explains code)) contents r h = h

  pub may-any : (c : Option Command) (reported : Option Holding) (rose : Type 0) (r : Response) → MayAnswer IsDiagnostic c reported rose r → MayAnswer AnyDiagnostic c reported rose r
  may-any c reported rose r (contents, holds, inl h) = (contents, holds, inl (command-any c contents r h))
  may-any c reported rose r (contents, holds, inr h) = (contents, holds, inr h)

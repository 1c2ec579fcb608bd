-- A script that is checked and carried out.
use Rattle.std.proofs.Common.{◌≡◌, ℕ, ◌≤◌, List, [], ◌∷◌, length, Option, Result, Ok, Err, ap, subst, ◌∙◌}
use Rattle.std.specs.Prelude.{Some}
use Rattle.kc_base.specs.Held.{Holding, Reported}
use Rattle.kc_debug_script.specs.declared.command.Command.{Command}
use Rattle.kc_debug_script.specs.declared.line_map.MapEntry.{MapEntry}
use Rattle.kc_kit_files.specs.declared.refusal.Refusal.{Refusal}
use Rattle.kc_kit_files.specs.Response.{Response, IsRefused}
use Rattle.kc_kit_files.specs.Reads.{AreHeld, MissedOne, MissedRead}
use Rattle.kc_kit_files.proofs.ReadLemmas.{refused-widen, held-one, held-both, missed-one, missed-first, missed-second}
use Rattle.kc_kit_inputs.specs.declared.driving.Driving.{Driving}
use Rattle.kc_kit_inputs.specs.Driving.{GivenFiles}
use Rattle.kc_kit_inputs.specs.Scripts.{script_of, lines_of}
use Rattle.kc_kit_answer.specs.Accepting.{reported}
use Rattle.kc_kit_running.specs.Scripted.{debugger_response}
use Rattle.kc_kit_answer.specs.Debug.{debug_response}
use Rattle.kc_kit_answer.specs.Hex.{HexReported}

-- ---- two names that are read

pub both-held : (held mid : Option Holding) (first second one other : List ℕ) → mid ≡ held →
    length one ≤ 1048576 → Reported held (λ h. h first ≡ Some one) → length other ≤ 1048576 → Reported mid (λ h. h second ≡ Some other) → AreHeld held (first ∷ second ∷ []) (one ∷ other ∷ [])
both-held held mid first second one other same a b c d = held-both held mid (first ∷ []) (second ∷ []) (one ∷ []) (other ∷ []) same (held-one held first one a b) (held-one mid second other c d)

pub first-of-both : (held : Option Holding) (first second : List ℕ) (rose : Type 0) (refusal : Refusal) → IsRefused (MissedOne held first rose) refusal → IsRefused (MissedRead held (first ∷ second ∷ []) rose) refusal
first-of-both held first second rose refusal h =
    refused-widen (MissedOne held first rose) (MissedRead held (first ∷ second ∷ []) rose) refusal (λ r m. missed-first held (first ∷ []) (second ∷ []) rose r (missed-one held first rose r m)) h

pub second-of-both : (held mid : Option Holding) (first second one : List ℕ) (rose later : Type 0) (refusal : Refusal) → mid ≡ held → length one ≤ 1048576 → Reported held (λ h. h first ≡ Some one) → (rose → later) →
    IsRefused (MissedOne mid second rose) refusal → IsRefused (MissedRead held (first ∷ second ∷ []) later) refusal
second-of-both held mid first second one rose later refusal same a b f h =
    refused-widen (MissedOne mid second rose) (MissedRead held (first ∷ second ∷ []) later) refusal
    (λ r m. missed-second held mid (first ∷ []) (second ∷ []) (one ∷ []) rose later r same (held-one held first one a b) f (missed-one mid second rose r m)) h

-- ---- a script that is checked behind a board

-- where an image and what drives the inputs are given, it may be answered what is known of them
abbrev pub IsGivenBoard : List ℕ → GivenFiles → List ℕ → Driving → List ℕ → Type 0
IsGivenBoard name given text driving image = (report : Driving → List ℕ → Response) → HexReported name given text report (report driving image)

reported-ok : {A : Type 0} (x : Result A Response) (a : A) (report : A → Response) → x ≡ Ok a → reported x report ≡ report a
reported-ok x a report e = ap (λ y. reported y report) e

reported-err : {A : Type 0} (x : Result A Response) (report : A → Response) (r : Response) → x ≡ Err r → reported x report ≡ r
reported-err x report r e = ap (λ y. reported y report) e

pub script-refused : (name text : List ℕ) (given : GivenFiles) (script : List ℕ × List ℕ) (lines : Option (List ℕ × List ℕ)) (lives : Option ℕ) (driving : Driving) (image : List ℕ) (refusal : Refusal) →
    IsGivenBoard name given text driving image → IsRefused (λ response. script_of script.0 script.1 ≡ Err response) refusal → IsRefused (HexReported name given text (debug_response script lines lives)) refusal
script-refused name text given script lines lives driving image refusal board h =
    refused-widen (λ response. script_of script.0 script.1 ≡ Err response) (HexReported name given text (debug_response script lines lives)) refusal
    (λ r e. subst (HexReported name given text (debug_response script lines lives))
    (reported-err (script_of script.0 script.1) (λ commands. reported (lines_of lines) (λ entries. debugger_response lives entries commands driving image)) r e) (board (debug_response script lines lives))) h

-- what is reported with the commands of the script
with-commands : (script : List ℕ × List ℕ) (lines : Option (List ℕ × List ℕ)) (lives : Option ℕ) (driving : Driving) (image : List ℕ) (commands : List Command) → script_of script.0 script.1 ≡ Ok commands →
    debug_response script lines lives driving image ≡ reported (lines_of lines) (λ entries. debugger_response lives entries commands driving image)
with-commands script lines lives driving image commands e = reported-ok (script_of script.0 script.1) commands (λ commands. reported (lines_of lines) (λ entries. debugger_response lives entries commands driving image)) e

pub lines-refused : (name text : List ℕ) (given : GivenFiles) (script : List ℕ × List ℕ) (lines : Option (List ℕ × List ℕ)) (lives : Option ℕ) (driving : Driving) (image : List ℕ) (commands : List Command) (refusal : Refusal) →
    IsGivenBoard name given text driving image → script_of script.0 script.1 ≡ Ok commands → IsRefused (λ response. lines_of lines ≡ Err response) refusal → IsRefused (HexReported name given text (debug_response script lines lives)) refusal
lines-refused name text given script lines lives driving image commands refusal board e h =
    refused-widen (λ response. lines_of lines ≡ Err response) (HexReported name given text (debug_response script lines lives)) refusal
    (λ r f. subst (HexReported name given text (debug_response script lines lives))
    (with-commands script lines lives driving image commands e ∙ reported-err (lines_of lines) (λ entries. debugger_response lives entries commands driving image) r f) (board (debug_response script lines lives))) h

pub script-carried : (name text : List ℕ) (given : GivenFiles) (script : List ℕ × List ℕ) (lines : Option (List ℕ × List ℕ)) (lives : Option ℕ) (driving : Driving) (image : List ℕ) (commands : List Command) (entries : List MapEntry) →
    IsGivenBoard name given text driving image → script_of script.0 script.1 ≡ Ok commands → lines_of lines ≡ Ok entries → HexReported name given text (debug_response script lines lives) (debugger_response lives entries commands driving image)
script-carried name text given script lines lives driving image commands entries board e f =
    subst (HexReported name given text (debug_response script lines lives))
    (with-commands script lines lives driving image commands e ∙ reported-ok (lines_of lines) entries (λ entries. debugger_response lives entries commands driving image) f) (board (debug_response script lines lives))

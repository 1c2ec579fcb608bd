-- The command that bounds the states of a routine (this kit's own). What it answers is no function of what the files hold: each
-- certificate that shows a bound may be reported, and where none is found, lines of refusals.
use Rattle.std.specs.Prelude.{◌≡◌, ℕ, Bool, true, false, ◌&&◌, is_some, List, ◌++◌, codes, Option, Some, None, Result, Ok, Err}
use Rattle.std.specs.Option.{option_map_or, option_to_list}
use Rattle.std.specs.Result.{IsOk}
use Rattle.kc_hex.specs.Records.{image_of}
use Rattle.kc_bound.specs.declared.notes.Notes.{Notes}
use Rattle.kc_bound.specs.Reading.{NotesRead, notes_read}
use Rattle.kc_kit_files.specs.declared.status.Status.{Status}
use Rattle.kc_kit_files.specs.declared.status.Status.TheVariants as status
use Rattle.kc_kit_files.specs.Response.{Response, says, reports, Then}
use Rattle.kc_kit_files.specs.Shown.{word_shown}
use Rattle.kc_debug_script.specs.declared.line_map.MapEntry.{MapEntry}
use Rattle.kc_kit_words.specs.declared.command.Wanted.{Wanted}
use Rattle.kc_kit_words.specs.declared.inputs.Role.{Role}
use Rattle.kc_kit_bound.specs.Reports.{IsReport}
use Rattle.kc_kit_inputs.specs.Annotations.{Annotations, annotation_files, annotations_of, address_in}
use Rattle.kc_kit_inputs.specs.Hex.{hex_of}
use Rattle.kc_kit_answer.specs.Accepting.{Accepting, IsOneText}
use Rattle.kc_kit_answer.specs.Lines.{usage_line}

-- ---- words for addresses

-- what is said in words of one that is no address of the ROM
abbrev pub unknown_diagnostic : List ℕ → List ℕ
unknown_diagnostic word = codes "kc96: error: there is no address " ++ word_shown word ++ codes " in 2000H-5FFFH\n"

abbrev pub by_address : List ℕ → Option ℕ → Result ℕ Response
by_address word (Some a) = Ok a
by_address word None = Err (reports status.Usage usage_line (unknown_diagnostic word))

-- the address that a word stands for, or the response where it stands for none
abbrev pub place_of : Annotations → List ℕ → Result ℕ Response
place_of a word = by_address word (address_in a word)

-- the address at which a pass ends beside its return, where a word is given for one
abbrev pub maybe_end : Result ℕ Response → Result (Option ℕ) Response
maybe_end (Ok a) = Ok (Some a)
maybe_end (Err response) = Err response

abbrev pub end_of : Annotations → Option (List ℕ) → Result (Option ℕ) Response
end_of a (Some word) = maybe_end (place_of a word)
end_of a None = Ok None

-- ---- the answer

abbrev pub report_status : Bool → Status
report_status true = status.Done
report_status false = status.Broken

-- notes with one end more, where there is one
abbrev pub with_end : Option ℕ → NotesRead → NotesRead
with_end last said = record said { ends = said.ends ++ option_to_list last }

-- what may be reported of the passes from an address through an image, by notes with these contents and a line map
pub record IsReported (image : List ℕ) (said : NotesRead) (lines : List MapEntry) (from : ℕ) (wanted : Wanted) (response : Response) : Type 0 where
  pub notes : Notes
  pub contents : notes_read notes ≡ said
  pub is_bound : Bool
  pub text : List ℕ
  pub report : IsReport image notes lines from wanted is_bound text
  pub answered : response ≡ says (report_status is_bound) text

-- from a word on, and to another one where it is given
abbrev pub PassesAnswer : List ℕ → Option (List ℕ) → Wanted → List ℕ → Annotations → Response → Type 0
PassesAnswer from to wanted image a response = Then (place_of a from) (λ first. Then (end_of a to) (λ last. IsReported image (with_end last a.notes) a.lines first wanted)) response

-- the hex file is checked first, then the maps and the notes, and then the words for addresses
abbrev pub BoundAnswer : List ℕ → List ℕ → Option (List ℕ) → List (Role × List ℕ) → Wanted → List ℕ → List (List ℕ) → Response → Type 0
BoundAnswer file from to inputs wanted text more response = Then (hex_of file text) (λ image. Then (annotations_of (annotation_files inputs more)) (PassesAnswer from to wanted image)) response

-- ---- the files have their forms, and both words are addresses of the ROM, or not

abbrev pub are_addresses : List ℕ → Option (List ℕ) → Annotations → Bool
are_addresses from to a = is_some (address_in a from) && option_map_or (λ word. is_some (address_in a word)) to true

abbrev pub AreBoundable : Bool → List ℕ → Option (List ℕ) → List (Role × List ℕ) → List (List ℕ) → List (List ℕ) → Type 0
AreBoundable known from to inputs texts more =
    IsOneText (λ text. IsOk (image_of text)) texts × Accepting (λ a. are_addresses from to a ≡ known) (annotations_of (annotation_files inputs more))

-- Files that are read in the order of their names (this kit's own).
use Rattle.std.specs.Prelude.{◌≡◌, ◌⊎◌, ℕ, ◌≤◌, List, [], ◌∷◌, ◌++◌, codes, length, map, nat_lt, if◌then◌else◌, Option, Some, None, Result, Ok, Err}
use Rattle.std.specs.Global.{Vec}
use Rattle.std.specs.Result.{IsOk}
-- the most bytes of a file
pub use Rattle.kc_base.specs.Limits.{file_limit}
use Rattle.kc_base.specs.Held.{Holding, Reported}
use Rattle.kc_base.specs.declared.files.FileFault.{FileFault}
use Rattle.kc_base.specs.declared.files.FileFault.TheVariants as fault
use Rattle.kc_kit_files.specs.declared.status.Status.TheVariants as status
use Rattle.kc_kit_files.specs.declared.refusal.Refusal.{Refusal}
use Rattle.kc_kit_files.specs.Diagnostics.{missing_diagnostic, long_diagnostic, read_diagnostic}
use Rattle.kc_kit_files.specs.Response.{Response, reports, joined, IsRefused}

abbrev pub missing_line : List ℕ → List ℕ
missing_line name = codes "missing " ++ name ++ codes "\n"

abbrev pub long_line : List ℕ → List ℕ
long_line name = codes "input " ++ name ++ codes ":0: LONG\n"

abbrev pub read_line : List ℕ → List ℕ
read_line name = codes "read " ++ name ++ codes "\n"

-- ---- the responses to a file that is not there, that is too long, and that could not be read

abbrev pub missing_response : List ℕ → Response
missing_response name = reports status.Missing (missing_line name) (missing_diagnostic name)

abbrev pub long_response : List ℕ → Response
long_response name = reports status.Input (long_line name) (long_diagnostic name)

abbrev pub read_response : List ℕ → Response
read_response name = reports status.ReadFault (read_line name) (read_diagnostic name)

-- ---- names that are read

-- the bytes that a name holds, or the response where it holds none or too many
abbrev pub read_of : List ℕ → Option (List ℕ) → Result (List ℕ) Response
read_of name None = Err (missing_response name)
read_of name (Some bytes) = if nat_lt file_limit (length bytes) then Err (long_response name) else Ok bytes

-- the bytes of each name, of which the second list has what it holds; or the response to the first that cannot be read
abbrev pub reads_of : List (List ℕ) → List (Option (List ℕ)) → Result (List (List ℕ)) Response
reads_of (name ∷ names) (content ∷ contents) = joined (read_of name content) (reads_of names contents)
reads_of _ _ = Ok []

-- the text that a name holds, of any length, or the response where it holds none
abbrev pub text_of : List ℕ → Option (List ℕ) → Result (List ℕ) Response
text_of name None = Err (missing_response name)
text_of name (Some text) = Ok text

-- A read has failed, where the count of failed reads rose: the files before it are held within their limit.
abbrev pub FailedRead : List (List ℕ) → List (Option (List ℕ)) → Type 0 → Response → Type 0
FailedRead (name ∷ names) (content ∷ contents) rose response =
    (rose × (response ≡ read_response name)) ⊎ (IsOk (read_of name content) × FailedRead names contents rose response)
FailedRead _ _ rose response = ⊥

-- Names hold these contents. Files that do not report what they hold may hold anything, and another thing at each read.
abbrev pub Holds : Option Holding → List (List ℕ) → List (Option (List ℕ)) → Type 0
Holds (Some held) names contents = contents ≡ map held names
Holds None names contents = length contents ≡ length names

-- what may be answered where not all names can be read
abbrev pub MissedRead : Option Holding → List (List ℕ) → Type 0 → Response → Type 0
MissedRead reported names rose response = (contents : List (Option (List ℕ))) × Holds reported names contents × ((reads_of names contents ≡ Err response) ⊎ FailedRead names contents rose response)

-- each name holds its bytes, within the limit
abbrev pub AllShort : List (List ℕ) → Type 0
AllShort [] = Unit {0}
AllShort (text ∷ texts) = (length text ≤ file_limit) × AllShort texts

pub record AreHeld (reported : Option Holding) (names : List (List ℕ)) (texts : List (List ℕ)) : Type 0 where
  pub count : length texts ≡ length names
  pub short : AllShort texts
  pub held : Reported reported (λ held. map held names ≡ map Some texts)

-- what reading one name answers, and what reading some names does
abbrev pub MissedOne : Option Holding → List ℕ → Type 0 → Response → Type 0
MissedOne reported name rose response = (content : Option (List ℕ)) × Reported reported (λ held. held name ≡ content) × ((read_of name content ≡ Err response) ⊎ (rose × (response ≡ read_response name)))

abbrev pub IsReadOne : Option Holding → List ℕ → Type 0 → Result (Vec ℕ) Refusal → Type 0
IsReadOne reported name rose (Ok bytes) = (length bytes.items ≤ file_limit) × Reported reported (λ held. held name ≡ Some bytes.items)
IsReadOne reported name rose (Err refusal) = IsRefused (MissedOne reported name rose) refusal

abbrev pub IsRead : Option Holding → List (List ℕ) → Type 0 → Result (Vec (Vec ℕ)) Refusal → Type 0
IsRead reported names rose (Ok texts) = AreHeld reported names (map (λ t. t.items) texts.items)
IsRead reported names rose (Err refusal) = IsRefused (MissedRead reported names rose) refusal

-- what is answered to a name whose file could not be read
abbrev pub IsUnread : List ℕ → FileFault → Response → Type 0
IsUnread name fault.Missing response = response ≡ missing_response name
IsUnread name fault.TooLong response = response ≡ long_response name
IsUnread name fault.Failed response = response ≡ read_response name
IsUnread name fault.NoMemory response = ⊥

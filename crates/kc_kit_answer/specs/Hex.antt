-- The commands that run or list a hex file (this kit's own).
use Rattle.std.specs.Prelude.{◌≡◌, ℕ, List}
use Rattle.kc_code.specs.Listing.{listing}
use Rattle.kc_kit_files.specs.declared.status.Status.TheVariants as status
use Rattle.kc_kit_files.specs.Response.{Response, says, Then}
use Rattle.kc_kit_words.specs.declared.extent.Extent.{Extent}
use Rattle.kc_kit_words.specs.declared.inputs.Role.{Role}
use Rattle.kc_kit_inputs.specs.declared.driving.Driving.{Driving}
use Rattle.kc_kit_inputs.specs.Driving.{GivenFiles, given_for, driving_of}
use Rattle.kc_kit_inputs.specs.Hex.{hex_of}
use Rattle.kc_kit_running.specs.Lives.{board_response}
use Rattle.kc_kit_running.specs.Sources.{no_lines}

-- the image of a hex file is checked, then what drives the inputs, and with both the answer is this
abbrev pub HexReported : List ℕ → GivenFiles → List ℕ → (Driving → List ℕ → Response) → Response → Type 0
HexReported name given text report response = Then (hex_of name text) (λ image. Then (driving_of given) (λ driving response. response ≡ report driving image)) response

-- the answer to a hex file that is run
abbrev pub RunHexAnswer : List ℕ → List (Role × List ℕ) → Extent → List ℕ → List (List ℕ) → Response → Type 0
RunHexAnswer name inputs extent text input_texts response = HexReported name (given_for inputs input_texts) text (board_response no_lines extent) response

abbrev pub ListingOf : ℕ → ℕ → List ℕ → Response → Type 0
ListingOf first last image response = response ≡ says status.Done (listing image first last)

-- the answer to a hex file that is listed
abbrev pub ListAnswer : List ℕ → ℕ → ℕ → List ℕ → Response → Type 0
ListAnswer name first last text response = Then (hex_of name text) (ListingOf first last) response

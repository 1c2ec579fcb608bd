-- Hex files to images (this kit's own).
use Rattle.std.specs.Prelude.{codes, ℕ, List, Result, Ok, Err}
use Rattle.kc_hex.specs.Records.{image_of}
use Rattle.kc_kit_files.specs.Response.{Response}
use Rattle.kc_kit_inputs.specs.Lines.{coded}
use Rattle.kc_kit_inputs.specs.Responses.{line_response}

abbrev pub by_image : List ℕ → List ℕ → Result (List ℕ) (ℕ × ℕ) → Result (List ℕ) Response
by_image name text (Ok image) = Ok image
by_image name text (Err fault) = Err (line_response name text fault.0 (coded (codes "H") fault.1))

-- the image of a hex file, or the response to its first fault
abbrev pub hex_of : List ℕ → List ℕ → Result (List ℕ) Response
hex_of name text = by_image name text (image_of text)

-- Libraries, and what modules take from them (this kit's own).
use Rattle.std.specs.Prelude.{◌≡◌, ℕ, ◌+◌, ◌<◌, ◌≤◌, List, [], codes, length, Option, Some, None, Result, Ok, Err}
use Rattle.kc_obj_module.specs.Object.{Object}
use Rattle.kc_lib.specs.declared.faults.LibFault.{LibFault}
use Rattle.kc_lib.specs.declared.faults.LibFault.TheVariants as faults
use Rattle.kc_lib.specs.declared.faults.LibCode.TheVariants as code
use Rattle.kc_lib.specs.Codes.{code_number}
use Rattle.kc_lib.specs.Reading.{read_answer}
use Rattle.kc_lib.specs.Taking.{AreTaken}
use Rattle.kc_kit_files.specs.declared.status.Status.TheVariants as status
use Rattle.kc_kit_files.specs.Response.{Response, says}
use Rattle.kc_kit_inputs.specs.Lines.{coded}
use Rattle.kc_kit_inputs.specs.Responses.{byte_response}

-- the place and the number of a fault of a library; that too many members are taken has no place
abbrev pub place_of : LibFault → Option (ℕ × ℕ)
place_of (faults.At at code) = Some (at, code_number code)
place_of faults.TooMany = Some (0, code_number code.TooMany)
place_of (faults.Duplicate name) = None
place_of faults.NoMemory = None

abbrev pub response_at : List ℕ → Option (ℕ × ℕ) → Response
response_at name (Some place) = byte_response name place.0 (coded (codes "B") place.1)
response_at name None = says status.Input []

-- the response to a fault of a library
abbrev pub fault_response : List ℕ → LibFault → Response
fault_response name fault = response_at name (place_of fault)

abbrev pub by_library : List ℕ → Result (List Object) LibFault → Result (List Object) Response
by_library name (Ok members) = Ok members
by_library name (Err fault) = Err (fault_response name fault)

-- the members of a library, or the response to its first fault
abbrev pub library_of : List ℕ → List ℕ → Result (List Object) Response
library_of name bytes = by_library name (read_answer bytes)

-- the members that modules take from a library, 64 at most with the modules; or the response that they are more
abbrev pub TakenAre : List ℕ → List Object → List Object → Result (List Object) Response → Type 0
TakenAre name ms members (Ok taken) = AreTaken ms members taken × (length ms + length taken ≤ 64)
TakenAre name ms members (Err response) = (taken : List Object) × AreTaken ms members taken × (64 < length ms + length taken) × (response ≡ fault_response name faults.TooMany)

-- Objects to modules (this kit's own).
use Rattle.std.specs.Prelude.{codes, ℕ, List, [], ◌∷◌, Result, Ok, Err}
use Rattle.kc_obj_module.specs.Object.{Object}
use Rattle.kc_obj_fields.specs.declared.faults.Fault.{Fault}
use Rattle.kc_obj.specs.Reading.{answer_of}
use Rattle.kc_kit_files.specs.Response.{Response, joined}
use Rattle.kc_kit_inputs.specs.Lines.{coded}
use Rattle.kc_kit_inputs.specs.Responses.{byte_response}

-- each file to its module, or the response to the first with a fault
abbrev pub modules_of : (List ℕ → List ℕ → Result Object Response) → List (List ℕ) → List (List ℕ) → Result (List Object) Response
modules_of module_of (name ∷ names) (text ∷ texts) = joined (module_of name text) (modules_of module_of names texts)
modules_of module_of _ _ = Ok []

abbrev pub by_object : List ℕ → Result Object Fault → Result Object Response
by_object name (Ok m) = Ok m
by_object name (Err fault) = Err (byte_response name fault.at (coded (codes "O") fault.code))

-- the module of an object
abbrev pub object_of : List ℕ → List ℕ → Result Object Response
object_of name bytes = by_object name (answer_of bytes)

-- The command that packs objects into a library (this kit's own).
use Rattle.std.specs.Prelude.{◌≡◌, ℕ, ◌≤◌, List, [], ◌∷◌, length, Option, Some, None}
use Rattle.kc_obj_module.specs.Object.{Object}
use Rattle.kc_lib.specs.Format.{library_bytes}
use Rattle.kc_lib.specs.Names.{doubled}
use Rattle.kc_link_place.specs.declared.ranges.LinkFault.TheVariants as faults
use Rattle.kc_kit_files.specs.declared.status.Status.TheVariants as status
use Rattle.kc_kit_files.specs.Reads.{file_limit}
use Rattle.kc_kit_files.specs.Response.{Response, reports, write, Then}
use Rattle.kc_kit_files.specs.Writes.{writing_readable}
use Rattle.kc_kit_inputs.specs.Objects.{modules_of, object_of}
use Rattle.kc_kit_answer.specs.Accepting.{Accepting}
use Rattle.kc_kit_messages.specs.Rules.{link_line}
use Rattle.kc_kit_messages.specs.RuleDiagnostics.{link_diagnostic}

-- the library of modules is written, which commands read, or the first name is reported that is public in two of them
abbrev pub packed : List (List ℕ) → List ℕ → List Object → Option (List ℕ) → Response
packed names out ms None = writing_readable (write out (library_bytes ms) ∷ []) []
packed names out ms (Some name) = reports status.Link (link_line names (faults.OverlapName name)) (link_diagnostic names ms (faults.OverlapName name))

-- the answer to objects that were read
abbrev pub PackAnswer : List (List ℕ) → List ℕ → List (List ℕ) → Response → Type 0
PackAnswer names out texts response = Then (modules_of object_of names texts) (λ ms response. response ≡ packed names out ms (doubled ms)) response

-- what is accepted: no name is public in two of the objects, and commands read their library
abbrev pub ArePackable : List (List ℕ) → List (List ℕ) → Type 0
ArePackable names texts = Accepting (λ ms. (doubled ms ≡ None) × (length (library_bytes ms) ≤ file_limit)) (modules_of object_of names texts)

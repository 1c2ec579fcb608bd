-- The command that assembles a source (this kit's own).
use Rattle.std.specs.Prelude.{◌≡◌, ℕ, ◌≤◌, List, [], ◌∷◌, length, Option, Some, None, Result}
use Rattle.kc_obj_module.specs.Object.{Object}
use Rattle.kc_obj_module.specs.Spelling.{spelling}
use Rattle.kc_asm.specs.Assembled.{IsModule, IsFaultless}
use Rattle.kc_asm_list.specs.Listed.{IsListing}
use Rattle.kc_kit_files.specs.Reads.{file_limit}
use Rattle.kc_kit_files.specs.Response.{Response, Write, write, Then}
use Rattle.kc_kit_files.specs.Writes.{writing_readable}
use Rattle.kc_kit_inputs.specs.Sources.{DiagnosticRule, SourceIs}

-- the listing of the source, where one is asked for
abbrev pub AreListings : Option (List ℕ) → List ℕ → Object → List Write → Type 0
AreListings None text m writes = writes ≡ []
AreListings (Some name) text m writes = (listed : List ℕ) × IsListing text m listed × (writes ≡ write name listed ∷ [])

-- the object of a module is written, which commands read, and then the listing
abbrev pub WritesObject : List ℕ → Option (List ℕ) → List ℕ → Object → Response → Type 0
WritesObject out list text m response = (writes : List Write) × AreListings list text m writes × (response ≡ writing_readable (write out (spelling m) ∷ []) writes)

-- the answer to a source that is assembled
abbrev pub AssembleAnswer : DiagnosticRule → List ℕ → List ℕ → Option (List ℕ) → List ℕ → Response → Type 0
AssembleAnswer IsDiagnostic name out list text response = (source : Result Object Response) × SourceIs IsDiagnostic name text source × Then source (WritesObject out list text) response

-- what is accepted: a source without a fault, whose object commands read
pub record IsAssemblable (text : List ℕ) : Type 0 where
  pub sound : IsFaultless text
  pub readable : (m : Object) → IsModule text m → length (spelling m) ≤ file_limit

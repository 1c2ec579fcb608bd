-- The command that links objects: the hex file first, and then the line map and the map of pieces and names where they are asked
-- for (this kit's own). Commands read a hex file and a line map.
use Rattle.std.specs.Prelude.{◌≡◌, ℕ, ◌+◌, ◌≤◌, List, [], ◌∷◌, ◌++◌, length, Option, Some, None, Result}
use Rattle.kc_obj_module.specs.Object.{Object}
use Rattle.kc_lib.specs.Taking.{AreTaken}
use Rattle.kc_link_place.specs.declared.ranges.Ranges.{Ranges}
use Rattle.kc_link_place.specs.Placing.{Places}
use Rattle.kc_link.specs.Map.{map_text as link_map_text}
use Rattle.kc_link.specs.declared.lines.LineAt.{LineAt}
use Rattle.kc_link.specs.Filled.{IsFilled}
use Rattle.kc_link.specs.LineMap.{IsLineMap}
use Rattle.kc_hex.specs.Spelling.{spelling}
use Rattle.kc_kit_files.specs.Reads.{file_limit}
use Rattle.kc_kit_files.specs.Response.{Response, Write, write, Then}
use Rattle.kc_kit_files.specs.Writes.{writing_readable}
use Rattle.kc_kit_words.specs.Commands.{Beside}
use Rattle.kc_kit_words.specs.declared.inputs.Role.{Role}
use Rattle.kc_kit_words.specs.declared.inputs.Role.TheVariants as role
use Rattle.kc_kit_inputs.specs.Inputs.{input_for}
use Rattle.kc_kit_inputs.specs.Library.{library_of, TakenAre}
use Rattle.kc_kit_inputs.specs.Objects.{modules_of, object_of}
use Rattle.kc_kit_answer.specs.Accepting.{Accepting}
use Rattle.kc_kit_messages.specs.Rules.{member_words}
use Rattle.kc_kit_answer.specs.Lines.{map_text}
use Rattle.kc_kit_answer.specs.Places.{places_of, Placing}

-- the line map, where one is asked for
abbrev pub IsMap : Option (List ℕ) → List Object → Places → List Write → Type 0
IsMap None ms places writes = writes ≡ []
IsMap (Some name) ms places writes = (entries : List LineAt) × IsLineMap ms places entries × (writes ≡ write name (map_text entries) ∷ [])

-- the map of pieces and names, where one is asked for
abbrev pub map_writes : Option (List ℕ) → List Object → Ranges → Places → List Write
map_writes None ms ranges places = []
map_writes (Some name) ms ranges places = write name (link_map_text ms ranges places) ∷ []

pub record LinksTo (out : List ℕ) (beside : Beside) (ranges : Ranges) (ms : List Object) (places : Places) (response : Response) : Type 0 where
  pub image : List ℕ
  pub is_filled : IsFilled ms places image
  pub more : List Write
  pub is_map : IsMap beside.lines ms places more
  pub done : response ≡ writing_readable (write out (spelling image) ∷ more) (map_writes beside.map ms ranges places)

-- ---- a library, by its name and its text: the members that the modules take follow them

-- goes on with the modules and the members that they take from a library of this name
abbrev pub Taking : List (List ℕ) → List ℕ → (List (List ℕ) → List Object → Response → Type 0) → List Object → List Object → Response → Type 0
Taking names library may ms members response =
    (taken : Result (List Object) Response) × TakenAre library ms members taken × Then taken (λ taken. may (names ++ member_words library taken) (ms ++ taken)) response

-- goes on with modules, where a library is named with what they take of it too
abbrev pub Completed : List (List ℕ) → Option (List ℕ × List ℕ) → (List (List ℕ) → List Object → Response → Type 0) → List Object → Response → Type 0
Completed names None may ms response = may names ms response
Completed names (Some library) may ms response = Then (library_of library.0 library.1) (Taking names library.0 may ms) response

-- the answer to objects that were read, and to a library where one was
abbrev pub LinkAnswer : List (List ℕ) → List (Role × List ℕ) → List ℕ → Beside → Ranges → List (List ℕ) → List (List ℕ) → Response → Type 0
LinkAnswer names inputs out beside ranges texts input_texts response =
    Then (modules_of object_of names texts) (Completed names (input_for role.Library inputs input_texts) (λ files. Placing files ranges (LinksTo out beside ranges))) response

-- ---- what is accepted: at most 64 modules and taken members, no rule of the linker is broken, and commands read the line map that is
-- ---- asked for. They read every hex file that is written.

abbrev pub IsReadableMap : Option (List ℕ) → List Object → Places → Type 0
IsReadableMap None ms places = Unit {0}
IsReadableMap (Some name) ms places = (entries : List LineAt) → IsLineMap ms places entries → length (map_text entries) ≤ file_limit

abbrev pub ArePlaceable : List (List ℕ) → Option (List ℕ) → Ranges → List Object → Type 0
ArePlaceable names lines ranges ms = Accepting (IsReadableMap lines ms) (places_of names ms ranges)

abbrev pub IsLinkable : List (List ℕ) → Option (List ℕ × List ℕ) → Option (List ℕ) → Ranges → List Object → Type 0
IsLinkable names None lines ranges ms = ArePlaceable names lines ranges ms
IsLinkable names (Some library) lines ranges ms =
    Accepting (λ members. (taken : List Object) → AreTaken ms members taken → (length ms + length taken ≤ 64) × ArePlaceable (names ++ member_words library.0 taken) lines ranges (ms ++ taken))
    (library_of library.0 library.1)

abbrev pub AreLinkable : List (List ℕ) → List (Role × List ℕ) → Option (List ℕ) → Ranges → List (List ℕ) → List (List ℕ) → Type 0
AreLinkable names inputs lines ranges texts input_texts = Accepting (IsLinkable names (input_for role.Library inputs input_texts) lines ranges) (modules_of object_of names texts)

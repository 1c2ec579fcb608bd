-- What the files of modules that are linked show (this kit's own).
use Rattle.std.specs.Prelude.{ℕ, List, [], ◌++◌, map, string_bytes, Option, Some, None}
use Rattle.kc_kit_messages.specs.declared.origins.Members.{Members}
use Rattle.kc_kit_messages.specs.declared.origins.Origins.{Origins}
use Rattle.kc_kit_messages.specs.Rules.{member_words}

-- the words that name taken members
abbrev pub words_of_members : Option Members → List (List ℕ)
words_of_members None = []
words_of_members (Some members) = member_words members.library.now members.taken.now

abbrev pub with_members : List (List ℕ) → Option Members → List (List ℕ)
with_members names None = names
with_members names (Some members) = names ++ words_of_members (Some members)

-- the words that name the files of modules
abbrev pub words_of : Origins → List (List ℕ)
words_of origins = with_members (map string_bytes origins.files.now) origins.members

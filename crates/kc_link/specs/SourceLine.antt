-- From which line of which module the bytes at an address come, without a line map (this kit's own).
use Rattle.std.specs.Prelude.{ℕ, ◌+◌, ◌==◌, Bool, Option, Some, None, List, [], ◌∷◌, find}
use Rattle.std.specs.Option.{option_map}
use Rattle.kc_obj_module.specs.declared.parts.Lines.{Lines}
use Rattle.kc_obj_module.specs.Object.{Object}
use Rattle.kc_obj_module.specs.Numbers.{Bases}
use Rattle.kc_link_place.specs.BaseLists.{BaseLists, bases_in}
use Rattle.kc_link_place.specs.Placing.{Places, bases_from}
use Rattle.kc_link.specs.declared.addresses.SourceLine.{SourceLine}

-- the bytes of a line entry begin at an address
abbrev pub begins_at : Bases → ℕ → Lines → Bool
begins_at b addr l = b.piece l.piece + l.offset == addr

-- the line of the first such entry; a module of version 1 has no line entries
abbrev pub line_begun : Bases → ℕ → Option (List Lines) → Option ℕ
line_begun b addr None = None
line_begun b addr (Some lines) = option_map (λ l. l.line) (find (begins_at b addr) lines)

abbrev pub or_later : ℕ → Option ℕ → Option SourceLine → Option SourceLine
or_later index (Some line) later = Some (record { index = index; line = line })
or_later index None later = later

-- the same of modules with their bases, of which the first has this number
unfoldable pub source_line_by : ℕ → ℕ → List Object → List BaseLists → Option SourceLine
source_line_by addr index [] bs = None
source_line_by addr index (m ∷ ms) [] = None
source_line_by addr index (m ∷ ms) (b ∷ bs) = or_later index (line_begun (bases_in b) addr m.lines) (source_line_by addr (index + 1) ms bs)

-- the line of which the bytes begin at an address, where modules stand at their places
abbrev pub source_line : List Object → Places → ℕ → Option SourceLine
source_line ms places addr = source_line_by addr 0 ms (bases_from ms places 0 ms)

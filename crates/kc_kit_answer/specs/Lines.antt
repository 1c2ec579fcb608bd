-- Texts that are printed, and the text of a line map (this kit's own).
use Rattle.std.specs.Prelude.{ℕ, List, ◌++◌, codes, decimal, flat_map}
use Rattle.kc_link.specs.declared.lines.LineAt.{LineAt}
use Rattle.kc_trace.specs.Text.{hex}
use Rattle.kc_kit_answer.specs.declared.help.TheConstants.{VERSION}

abbrev pub version_line : List ℕ
version_line = VERSION.now

abbrev pub usage_line : List ℕ
usage_line = codes "usage\n"

-- ---- a line map: for each entry the address, the name of the module and the line

abbrev pub map_line : LineAt → List ℕ
map_line entry = hex 4 entry.addr ++ codes " " ++ entry.name ++ codes " " ++ decimal entry.line ++ codes "\n"

abbrev pub map_text : List LineAt → List ℕ
map_text entries = flat_map map_line entries

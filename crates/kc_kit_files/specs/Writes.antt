-- Files that commands read: they are written no longer than commands read them, or not at all (this kit's own).
use Rattle.std.specs.Prelude.{ℕ, ◌≤◌, nat_lt, List, [], ◌∷◌, ◌++◌, codes, length, Option, Some, None, if◌then◌else◌}
use Rattle.kc_kit_files.specs.declared.status.Status.TheVariants as status
use Rattle.kc_kit_files.specs.Diagnostics.{long_output_diagnostic}
use Rattle.kc_kit_files.specs.Reads.{file_limit}
use Rattle.kc_kit_files.specs.Response.{Response, Write, reports, done_writing}

abbrev pub long_output_line : List ℕ → List ℕ
long_output_line name = codes "output " ++ name ++ codes ":0: LONG\n"

-- the response where the file of this name would be longer than commands read
abbrev pub long_output_response : List ℕ → Response
long_output_response name = reports status.Input (long_output_line name) (long_output_diagnostic name)

-- the name of the first of these that is longer
abbrev pub first_long : List Write → Option (List ℕ)
first_long [] = None
first_long (w ∷ ws) = if nat_lt file_limit (length w.bytes) then Some w.name else first_long ws

abbrev pub unless_long : Option (List ℕ) → List Write → Response
unless_long None writes = done_writing writes
unless_long (Some name) writes = long_output_response name

-- files that commands read are written, and behind them others; where one of the first is too long, none is
abbrev pub writing_readable : List Write → List Write → Response
writing_readable readable others = unless_long (first_long readable) (readable ++ others)

-- each is short enough for commands to read
abbrev pub AreReadable : List Write → Type 0
AreReadable [] = Unit {0}
AreReadable (w ∷ ws) = (length w.bytes ≤ file_limit) × AreReadable ws

-- Which lines of sources have run, as a tracefile of lcov (the manual page of geninfo, "FILES"; that it is written so is this kit's own).
use Rattle.std.specs.Prelude.{ℕ, suc, ◌+◌, ◌==◌, ◌&&◌, Bool, true, false, not, max, if◌then◌else◌, List, [], ◌∷◌, ◌++◌, map, flat_map, length, codes, decimal, sum, slice_index, count_by, Option, Some, None}
use Rattle.std.specs.List.{filter}
use Rattle.kc_profile.specs.Statistics.{Statistics}
use Rattle.kc_profile.specs.declared.source.Instruction.{Instruction}
use Rattle.kc_profile.specs.declared.source.Source.{Source}

abbrev pub count_line : List ℕ → ℕ → List ℕ
count_line word number = word ++ decimal number ++ codes "\n"

abbrev pub is_some_times : ℕ → Bool
is_some_times times = not (times == 0)

abbrev pub one_if : Bool → ℕ
one_if b = if b then 1 else 0

-- ---- conditional jumps: for each way of the jump with a number on a line, how often it was gone, and `-` where it never ran

abbrev pub times_text : Bool → ℕ → List ℕ
times_text never times = if never then codes "-" else decimal times

abbrev pub way_line : ℕ → ℕ → List ℕ → Bool → ℕ → List ℕ
way_line line jump way never times = codes "BRDA:" ++ decimal line ++ codes "," ++ decimal jump ++ way ++ times_text never times ++ codes "\n"

abbrev pub never_ran : ℕ → ℕ → Bool
never_ran taken passed = (taken == 0) && (passed == 0)

abbrev pub jump_lines : ℕ → ℕ → ℕ → ℕ → List ℕ
jump_lines line jump taken passed =
    way_line line jump (codes ",0,") (never_ran taken passed) taken ++ way_line line jump (codes ",1,") (never_ran taken passed) passed

-- The jumps of each line are numbered from 0 on. Of a line so many stand before.
abbrev pub number_on : ℕ → ℕ → Instruction → ℕ
number_on line before i = if i.line == line then before else 0

abbrev pub jump_of : Statistics → ℕ → Instruction → List ℕ
jump_of t number i = if i.is_branch then jump_lines i.line number (slice_index t.taken i.addr) (slice_index t.passed i.addr) else []

unfoldable pub jumps_text : Statistics → ℕ → ℕ → List Instruction → List ℕ
jumps_text t line before [] = []
jumps_text t line before (i ∷ rest) =
    jump_of t (number_on line before i) i ++ jumps_text t i.line (number_on line before i + one_if i.is_branch) rest

-- how often each way of each jump was gone
abbrev pub ways_of : Statistics → Instruction → List ℕ
ways_of t i = if i.is_branch then slice_index t.taken i.addr ∷ slice_index t.passed i.addr ∷ [] else []

abbrev pub all_ways : Statistics → List Instruction → List ℕ
all_ways t instructions = flat_map (ways_of t) instructions

abbrev pub sums_of_ways : List ℕ → List ℕ
sums_of_ways [] = []
sums_of_ways (way ∷ ways) = count_line (codes "BRF:") (length (way ∷ ways)) ++ count_line (codes "BRH:") (count_by is_some_times (way ∷ ways))

-- ---- lines: the greatest number of the instructions of each

-- the next instruction is one of the same line
abbrev pub goes_on : ℕ → List Instruction → Bool
goes_on line [] = false
goes_on line (next ∷ rest) = next.line == line

-- the lines that give instructions, each with how often it has run, where so often is known of the first
unfoldable pub lines_of : Statistics → ℕ → List Instruction → List (ℕ × ℕ)
lines_of t times [] = []
lines_of t times (i ∷ rest) =
    let so_far = max times (slice_index t.hits i.addr) in
    if goes_on i.line rest then lines_of t so_far rest else (i.line, so_far) ∷ lines_of t 0 rest

abbrev pub has_run : ℕ × ℕ → Bool
has_run l = is_some_times l.1

abbrev pub line_line : ℕ × ℕ → List ℕ
line_line l = codes "DA:" ++ decimal l.0 ++ codes "," ++ decimal l.1 ++ codes "\n"

abbrev pub lines_text : List (ℕ × ℕ) → List ℕ
lines_text ls = flat_map line_line ls ++ count_line (codes "LF:") (length ls) ++ count_line (codes "LH:") (count_by has_run ls)

-- ---- sources

abbrev pub test_line : Option ℕ → List ℕ
test_line None = codes "TN:\n"
test_line (Some life) = count_line (codes "TN:life_") life

abbrev pub name_line : List ℕ → List ℕ
name_line name = codes "SF:" ++ name ++ codes "\n"

abbrev pub source_text : Option ℕ → Statistics → Source → List ℕ
source_text life t source =
    test_line life ++ name_line source.name.now
    ++ jumps_text t 0 0 source.instructions.items ++ sums_of_ways (all_ways t source.instructions.items)
    ++ lines_text (lines_of t 0 source.instructions.items) ++ codes "end_of_record\n"

abbrev pub cover_text : Option ℕ → Statistics → List Source → List ℕ
cover_text life t sources = flat_map (source_text life t) sources

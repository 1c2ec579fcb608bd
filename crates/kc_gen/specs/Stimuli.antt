-- The stimuli of a made input: edges of one input pin at random distances (this kit's own).
use Rattle.std.specs.Prelude.{ℕ, zero, suc, ◌+◌, ◌%◌, ◌==◌, if◌then◌else◌, List, ◌++◌, codes, decimal, flat_map}
use Rattle.std.specs.List.{range_with_len}
use Rattle.kc_gen.specs.Randoms.{random}

-- the state time of the k-th edge
unfoldable pub time : ℕ → ℕ → ℕ
time number zero = 100
time number (suc k) = time number k + 200 + random number k % 64

-- the pin rises first, and then falls and rises in turn
abbrev pub level_text : ℕ → List ℕ
level_text k = if k % 2 == 0 then codes "1" else codes "0"

abbrev pub edge_line : ℕ → ℕ → List ℕ
edge_line at k = codes "@" ++ decimal at ++ codes " HSI0 " ++ level_text k ++ codes "\n"

-- so many edges
unfoldable pub edge_lines : ℕ → ℕ → List ℕ
edge_lines number count = flat_map (λ k. edge_line (time number k) k) (range_with_len 0 count)

abbrev pub stimuli_text : ℕ → List ℕ
stimuli_text number = edge_lines number 2000

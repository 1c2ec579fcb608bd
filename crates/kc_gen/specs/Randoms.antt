-- The random numbers of made inputs (this kit's own).
use Rattle.std.specs.Prelude.{ℕ, zero, suc, ◌+◌, ◌*◌, ◌%◌}

-- the k-th random number: the first is the number of the input itself
unfoldable pub random : ℕ → ℕ → ℕ
random number zero = number
random number (suc k) = (25173 * random number k + 13849) % 65536

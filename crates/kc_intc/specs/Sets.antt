-- Sets of interrupt requests as numbers, bit n the request of vector n (80C196KC User's Manual, "Interrupts").
use Rattle.std.specs.Prelude.{ℕ, ◌^◌, bit_and, bit_or}
use Rattle.std.specs.Int.{w16, bit_not}

-- the set without a request
abbrev pub without : ℕ → ℕ → ℕ
without n set = bit_and set (bit_not w16 (2 ^ n))

-- the set with a request
abbrev pub with_request : ℕ → ℕ → ℕ
with_request n set = bit_or set (2 ^ n)

-- The number that a relocation of each kind puts into the bytes of an instruction or of data, and where the bytes have it.
-- Kinds: 0 a word, 1 a byte, 2 a distance of 8 bits, 3 a distance of 11 bits whose high three stand in the opcode,
-- 4 a distance of 16 bits. A distance counts from the next instruction (80C196KC User's Manual, "Jump and Call
-- Instructions"; the kinds are this kit's own).
use Rattle.std.specs.Prelude.{ℕ, Bool, ◌+◌, ◌-◌, ◌/◌, ◌%◌, ◌==◌, ◌||◌, nat_lt, nat_le, if◌then◌else◌}

-- where the pieces of a module stand, and what its externals are
pub record Bases : Type 0 where
  pub piece : ℕ → ℕ
  pub external : ℕ → ℕ

-- from one address to another, modulo 65536
unfoldable pub distance : ℕ → ℕ → ℕ
distance to from = (to + (65536 - from % 65536)) % 65536

abbrev pub is_distance : ℕ → Bool
is_distance kind = nat_le 2 kind

-- how many bytes the number has
abbrev pub width : ℕ → ℕ
width kind = if (kind == 1) || (kind == 2) then 1 else 2

-- how far behind its first byte the next instruction begins
abbrev pub reach : ℕ → ℕ
reach kind = if kind == 2 then 1 else 2

-- the target itself, or the distance to it from the next instruction
unfoldable pub number : ℕ → ℕ → ℕ → ℕ
number kind next to = if is_distance kind then distance to next else to

-- what the first byte has of it
unfoldable pub first_part : ℕ → ℕ → ℕ
first_part kind n = if kind == 3 then n % 2048 / 256 else n % 256

-- what the second byte has of it, where there is one
unfoldable pub second_part : ℕ → ℕ → ℕ
second_part kind n = if kind == 3 then n % 256 else n / 256

-- whether it fits its bytes; a distance is signed
unfoldable pub fits : ℕ → ℕ → Bool
fits kind n =
    if kind == 1 then nat_lt n 256
    else if kind == 2 then nat_lt n 128 || nat_le 65408 n
    else if kind == 3 then nat_lt n 1024 || nat_le 64512 n
    else nat_lt n 65536

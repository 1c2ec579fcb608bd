-- How many calls an access makes.
use Rattle.std.proofs.Common.{◌≡◌, ℕ, zero, ◌+◌, ◌≤◌, Bool, true, false, is_some, refl, arith}
use Rattle.kc_block_spec.specs.Registers.{row_at, bytes_read_everywhere, bytes_written_everywhere}
use Rattle.kc_block_sfr.specs.Costs.{calls_unless, read_calls, write_calls, word_read_calls, word_write_calls}

few : (free : Bool) → calls_unless free ≤ 4
few true = omega arith
few false = omega arith

pub read_few : (sfr : ℕ) → read_calls sfr ≤ 4
read_few sfr = few (is_some (row_at bytes_read_everywhere sfr))

pub write_few : (sfr : ℕ) → write_calls sfr ≤ 4
write_few sfr = few (is_some (row_at bytes_written_everywhere sfr))

pub word_read_few : (sfr : ℕ) → word_read_calls sfr ≤ 8
word_read_few sfr = let low = read_few sfr in let high = read_few (sfr + 1) in omega arith

pub word_write_few : (sfr : ℕ) → word_write_calls sfr ≤ 8
word_write_few sfr = let low = write_few sfr in let high = write_few (sfr + 1) in omega arith

none : (free : Bool) → free ≡ true → calls_unless free ≡ zero
none true e = refl
none false e = cc

pub free_read : (sfr : ℕ) → is_some (row_at bytes_read_everywhere sfr) ≡ true → read_calls sfr ≡ zero
free_read sfr h = none (is_some (row_at bytes_read_everywhere sfr)) h

pub free_write : (sfr : ℕ) → is_some (row_at bytes_written_everywhere sfr) ≡ true → write_calls sfr ≡ zero
free_write sfr h = none (is_some (row_at bytes_written_everywhere sfr)) h

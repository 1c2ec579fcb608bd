-- Files that commands read: those that are written are short enough.
use Rattle.std.proofs.Common.{◌≡◌, ℕ, ◌≤◌, Bool, true, false, cond, List, [], ◌∷◌, ◌++◌, length, Option, Some, None, refl, ap, arith}
use Rattle.std.specs.Prelude.{nat_lt}
use Rattle.std.proofs.lemmas.Bool.Decides.{nat_tests}
use Rattle.kc_kit_files.specs.Reads.{file_limit}
use Rattle.kc_kit_files.specs.Response.{Write, done_writing}
use Rattle.kc_kit_files.specs.Writes.{first_long, unless_long, writing_readable, AreReadable}

-- none is too long
pub none-long : (ws : List Write) → AreReadable ws → first_long ws ≡ None
none-long [] h = refl
none-long (w ∷ ws) h =
    let short : nat_lt file_limit (length w.bytes) ≡ false = grind (arith, nat_tests, h.0) in
    rw short (none-long ws h.1)

pub written-all : (readable others : List Write) → AreReadable readable → writing_readable readable others ≡ done_writing (readable ++ others)
written-all readable others h = ap (λ long. unless_long long (readable ++ others)) (none-long readable h)

short-of : (n : ℕ) → nat_lt file_limit n ≡ false → n ≤ file_limit
short-of n e = grind (arith, nat_tests, e)

pub readable-of : (ws : List Write) → first_long ws ≡ None → AreReadable ws
readable-of [] e = tt
readable-of (w ∷ ws) e = by (nat_lt file_limit (length w.bytes)) refl e (readable-of ws)
  where
    by : (b : Bool) → nat_lt file_limit (length w.bytes) ≡ b → cond b (Some w.name) (first_long ws) ≡ None → (first_long ws ≡ None → AreReadable ws) → AreReadable (w ∷ ws)
    by true f k rest = absurd (cc)
    by false f k rest = (short-of (length w.bytes) f, rest k)

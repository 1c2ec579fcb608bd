-- What a slice of u8 holds are bytes.
use Rattle.std.proofs.Common.{ℕ, suc, List, [], ◌∷◌, get_or, Fits, w8, arith}
use Rattle.kc_base.specs.Bytes.{IsBytes}

pub bytes_are : (xs : List ℕ) → ((i : ℕ) → Fits w8 (get_or xs i 0)) → IsBytes xs
bytes_are [] h = tt
bytes_are (x ∷ xs) h = (let k : Fits w8 x = h 0 in omega (arith, k), bytes_are xs (λ i. h (suc i)))

-- Bytes of a list, and the numbers that they spell.
use Rattle.std.proofs.Common.{◌≡◌, ℕ, zero, suc, ◌+◌, ◌*◌, ◌/◌, ◌%◌, ◌<◌, ◌≤◌, List, [], ◌∷◌, ◌++◌, length, take, drop, sym, ap, ◌∙◌, arith}
use Rattle.std.proofs.lemmas.List.{length-take-le}
use Rattle.std.specs.Prelude.{slice_index}
use Rattle.kc_obj_module.specs.Spelling.{word_bytes, record_bytes}
use Rattle.kc_obj_fields.specs.Fields.{word_at}
use Rattle.kc_base.specs.Bytes.{IsBytes}

pub bytes_drop : (n : ℕ) (xs : List ℕ) → IsBytes xs → IsBytes (drop n xs)
bytes_drop zero xs h = h
bytes_drop (suc n) [] h = h
bytes_drop (suc n) (x ∷ xs) h = bytes_drop n xs h.1

pub bytes_take : (n : ℕ) (xs : List ℕ) → IsBytes xs → IsBytes (take n xs)
bytes_take zero xs h = tt
bytes_take (suc n) [] h = tt
bytes_take (suc n) (x ∷ xs) h = (h.0, bytes_take n xs h.1)

pub byte_below : (i : ℕ) (xs : List ℕ) → IsBytes xs → slice_index xs i < 256
byte_below i [] h = omega arith
byte_below zero (x ∷ xs) h = h.0
byte_below (suc i) (x ∷ xs) h = byte_below i xs h.1

pub word_again : (a b : ℕ) → a < 256 → b < 256 → word_bytes (a + 256 * b) ≡ a ∷ b ∷ []
word_again a b ha hb =
    let low : (a + 256 * b) % 256 ≡ a = omega arith in
    let high : (a + 256 * b) / 256 % 256 ≡ b = omega arith in
    λ i. low i ∷ high i ∷ []

pub word_below : (a b : ℕ) → a < 256 → b < 256 → a + 256 * b < 65536
word_below a b ha hb = omega arith

-- a record as it stands in a file
pub record_here : (rest : List ℕ) (len : ℕ) → IsBytes rest → 2 ≤ length (drop 1 rest) → len ≡ word_at (drop 1 rest) 0 → len ≤ length (drop 2 (drop 1 rest))
    → take (3 + len) rest ≡ record_bytes (slice_index rest 0) (take len (drop 2 (drop 1 rest)))
record_here [] len h two is le = absurd (omega arith)
record_here (k ∷ []) len h two is le = absurd (omega arith)
record_here (k ∷ a ∷ []) len h two is le = absurd (omega arith)
record_here (k ∷ a ∷ b ∷ more) len h two is le =
    let size : length (take len more) ≡ len = length-take-le len more le in
    let word : word_bytes len ≡ a ∷ b ∷ [] = ap word_bytes is ∙ word_again a b h.1.0 h.1.1.0 in
    let sum : 3 + len ≡ suc (suc (suc len)) = omega arith in
    ap (λ n. take n (k ∷ a ∷ b ∷ more)) sum ∙ sym (ap (λ n. (k ∷ word_bytes n) ++ take len more) size ∙ ap (λ (w : List ℕ). (k ∷ w) ++ take len more) word)

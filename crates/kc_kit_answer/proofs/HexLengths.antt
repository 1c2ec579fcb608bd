-- A hex file is shorter than commands read: 3584 rows of at most 44 bytes, and the end record.
use Rattle.std.proofs.Common.{◌≡◌, ℕ, zero, suc, ◌+◌, ◌*◌, ◌≤◌, Bool, true, false, cond, List, [], ◌∷◌, ◌++◌, length, take, drop, refl, arith}
use Rattle.std.specs.Prelude.{◌==◌, codes}
use Rattle.std.specs.List.{list_all}
use Rattle.std.proofs.lemmas.List.{length-append}
use Rattle.hex.specs.Hex.{encode_with, encode_upper, upper_digits}
use Rattle.kc_hex.specs.Spelling.{checksum, record_text, data_bytes, row_text, rows, spelling}

digits-length : (digits bs : List ℕ) → length (encode_with digits bs) ≡ 2 * length bs
unfolding encode_with
digits-length digits [] = refl
digits-length digits (b ∷ bs) = omega (arith, digits-length digits bs)

take-length : {A : Type 0} (n : ℕ) (xs : List A) → length (take n xs) ≤ n
take-length zero xs = omega arith
take-length (suc n) [] = omega arith
take-length (suc n) (x ∷ xs) = omega (arith, take-length n xs)

-- a record has a colon, two digits for each of its bytes and its checksum, and the end of the line
record-length : (bs : List ℕ) → length (record_text bs) ≡ 2 * length bs + 4
record-length bs =
    let whole = bs ++ checksum bs ∷ [] in
    omega (arith, length-append (encode_upper whole) (10 ∷ []), digits-length upper_digits whole, length-append bs (checksum bs ∷ []))

row-length : (address : ℕ) (body : List ℕ) → length body ≤ 16 → length (row_text address body) ≤ 44
unfolding row_text
row-length address body h = by (list_all (λ b. b == 0xFF) body)
  where
    by : (b : Bool) → length (cond b [] (record_text (data_bytes address body))) ≤ 44
    by true = omega arith
    by false = omega (arith, h, record-length (data_bytes address body))

rows-length : (n address : ℕ) (image : List ℕ) → length (rows n address image) ≤ 44 * n
unfolding rows
rows-length zero address image = omega arith
rows-length (suc n) address image =
    let row = row_text address (take 16 image) in
    let more = rows n (address + 16) (drop 16 image) in
    omega (arith, length-append row more, row-length address (take 16 image) (take-length 16 image), rows-length n (address + 16) (drop 16 image))

pub hex-short : (image : List ℕ) → length (spelling image) ≤ 1048576
hex-short image =
    let end : List ℕ = codes ":00000001FF" ++ 10 ∷ [] in
    let twelve : length end ≡ 12 = refl in
    omega (arith, length-append (rows 3584 0x2000 image) end, twelve, rows-length 3584 0x2000 image)

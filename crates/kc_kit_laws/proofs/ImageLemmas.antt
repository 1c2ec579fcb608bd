-- What a hex file is read as is an image: a byte for each address from 2000H on.
use Rattle.std.proofs.Common.{◌≡◌, ℕ, ◌+◌, ◌-◌, ◌<◌, ◌≤◌, Bool, true, false, ◌&&◌, cond, List, [], ◌∷◌, ◌++◌, length, take, drop, replicate, Option, Some, None, Result, Ok, Err, refl, sym, ap, ◌∙◌, subst, arith, zero, suc}
use Rattle.std.specs.Prelude.{not, ◌==◌, ◌||◌, nat_le, slice_index}
use Rattle.std.proofs.lemmas.Bool.Decides.{nat_tests}
use Rattle.std.proofs.lemmas.List.{length-append, length-take-le, length-drop}
use Rattle.hex.specs.declared.FromHexError.{FromHexError}
use Rattle.hex.specs.Hex.{decode_of}
use Rattle.hex.proofs.HexLemmas.{decode_of-ok}
use Rattle.kc_base.specs.Bytes.{IsBytes}
use Rattle.kc_base.specs.Limits.{image_start}
use Rattle.kc_hex.specs.declared.fault.HexCode.{HexCode}
use Rattle.kc_hex.specs.declared.fault.HexCode.TheVariants as codes
use Rattle.kc_hex.specs.Codes.{code_number}
use Rattle.kc_hex.specs.Records.{Answer, data_of, address_of, whole, record_of, is_inside, fault_of, State, put, after_record, checked, recorded, after_line, read_on, read_from, image_of}
use Rattle.kc_bound.specs.Bounded.{IsImage}

-- ---- lists of bytes

joined : (xs ys : List ℕ) → IsBytes xs → IsBytes ys → IsBytes (xs ++ ys)
joined [] ys h k = k
joined (x ∷ xs) ys h k = (h.0, joined xs ys h.1 k)

taken : (n : ℕ) (xs : List ℕ) → IsBytes xs → IsBytes (take n xs)
taken zero xs h = tt
taken (suc n) [] h = tt
taken (suc n) (x ∷ xs) h = (h.0, taken n xs h.1)

dropped : (n : ℕ) (xs : List ℕ) → IsBytes xs → IsBytes (drop n xs)
dropped zero xs h = h
dropped (suc n) [] h = tt
dropped (suc n) (x ∷ xs) h = dropped n xs h.1

blank : (n : ℕ) → IsBytes (replicate n 0xFF)
blank zero = tt
blank (suc n) = (omega arith, blank n)

listed : (xs : List ℕ) → ((i : ℕ) → slice_index xs i < 256) → IsBytes xs
listed [] h = tt
listed (x ∷ xs) h = (h 0, listed xs (λ i. h (suc i)))

-- ---- a record

record-bytes : (line bs : List ℕ) → record_of line ≡ Some bs → IsBytes bs
unfolding record_of
record-bytes [] bs h = absurd (cc h)
record-bytes (c ∷ digits) bs h = by (c == 58) h
  where
    by-whole : (b : Bool) (xs : List ℕ) → IsBytes xs → cond b (Some xs) None ≡ Some bs → IsBytes bs
    by-whole true xs k e = subst IsBytes (let same : xs ≡ bs = cc e in same) k
    by-whole false xs k e = absurd (cc e)

    by-decoded : (x : Result (List ℕ) FromHexError) → decode_of digits ≡ x → whole x ≡ Some bs → IsBytes bs
    by-decoded (Ok xs) f e = by-whole (nat_le 5 (length xs) && (length xs == slice_index xs 0 + 5)) xs (listed xs (decode_of-ok digits xs f).3) e
    by-decoded (Err o) f e = absurd (cc e)

    by : (b : Bool) → cond b (whole (decode_of digits)) None ≡ Some bs → IsBytes bs
    by true e = by-decoded (decode_of digits) refl e
    by false e = absurd (cc e)

-- of data it lies within the image
inside : (ended : Bool) (bs : List ℕ) → fault_of ended bs ≡ None → (slice_index bs 3 == 0) ≡ true → is_inside (address_of bs) (length (data_of bs)) ≡ true
unfolding fault_of
inside ended bs h z = by _ _ (slice_index bs 3 == 0) (is_inside (address_of bs) (length (data_of bs))) ended h z
  where
    by : (sums known placed within over : Bool) →
        cond (not sums) (Some codes.Checksum) (cond (not known) (Some codes.Type) (cond (placed && not within) (Some codes.Address) (cond over (Some codes.Behind) None))) ≡ None → placed ≡ true → within ≡ true
    by false known placed within over e d = absurd (cc e)
    by true false placed within over e d = absurd (cc e)
    by true true placed true over e d = refl
    by true true true false over e d = absurd (cc e)
    by true true false false over e d = absurd (cc d)

-- ---- an image so far

record IsSoFar (image : List ℕ) : Type 0 where
  bytes : IsBytes image
  whole_length : length image ≡ 57344

put-so : (image body : List ℕ) (at : ℕ) → IsSoFar image → IsBytes body → at + length body ≤ 57344 → IsSoFar (put image at body)
put-so image body at so bytes end = record {
  bytes = joined (take at image ++ body) (drop (at + length body) image) (joined (take at image) body (taken at image so.bytes) bytes) (dropped (at + length body) image so.bytes);
  whole_length =
      let front : length (take at image) ≡ at = length-take-le at image (omega (arith, so.whole_length, end)) in
      let back : length (drop (at + length body) image) ≡ length image - (at + length body) = length-drop (at + length body) image in
      let outer : length (put image at body) ≡ length (take at image ++ body) + length (drop (at + length body) image) = length-append (take at image ++ body) (drop (at + length body) image) in
      let inner : length (take at image ++ body) ≡ length (take at image) + length body = length-append (take at image) body in
      omega (arith, front, back, outer, inner, end, so.whole_length);
}

record-so : (s : State) (bs : List ℕ) → IsSoFar s.0 → IsBytes bs → fault_of s.1 bs ≡ None → IsSoFar (after_record s bs).0
record-so s bs so bytes none = by (slice_index bs 3 == 0) refl
  where
    by : (b : Bool) → (slice_index bs 3 == 0) ≡ b → IsSoFar (cond {A = State} b (put s.0 (address_of bs - image_start) (data_of bs), s.1) (s.0, s.1 || (slice_index bs 3 == 1))).0
    by true e =
        let within : is_inside (address_of bs) (length (data_of bs)) ≡ true = inside s.1 bs none e in
        put-so s.0 (data_of bs) (address_of bs - image_start) so (taken (length bs - 5) (drop 4 bs) (dropped 4 bs bytes)) (grind (arith, nat_tests, within))
    by false e = so

line-so : (s t : State) (line : List ℕ) → IsSoFar s.0 → after_line s line ≡ Ok t → IsSoFar t.0
unfolding after_line
line-so s t line so h = by (length line == 0) h
  where
    same : (u : State) → IsSoFar u.0 → u ≡ t → IsSoFar t.0
    same u k e = subst (λ (v : State). IsSoFar v.0) e k

    by-fault : (bs : List ℕ) → IsBytes bs → (x : Option HexCode) → fault_of s.1 bs ≡ x → checked x (after_record s bs) ≡ Ok t → IsSoFar t.0
    by-fault bs bytes None f e = same (after_record s bs) (record-so s bs so bytes f) (let k : after_record s bs ≡ t = cc e in k)
    by-fault bs bytes (Some code) f e = absurd (cc e)

    by-record : (x : Option (List ℕ)) → record_of line ≡ x → recorded s x ≡ Ok t → IsSoFar t.0
    by-record None f e = absurd (cc e)
    by-record (Some bs) f e = by-fault bs (record-bytes line bs f) (fault_of s.1 bs) refl e

    by : (b : Bool) → cond b (Ok s) (recorded s (record_of line)) ≡ Ok t → IsSoFar t.0
    by true e = same s so (let k : s ≡ t = cc e in k)
    by false e = by-record (record_of line) refl e

read-so : (number : ℕ) (lines : List (List ℕ)) (s : State) (image : List ℕ) → IsSoFar s.0 → read_from number lines s ≡ Ok image → IsSoFar image
unfolding read_from
read-so number [] s image so h = by s.1 h
  where
    by : (b : Bool) → cond {A = Answer} b (Ok s.0) (Err (number, code_number codes.NoEnd)) ≡ Ok image → IsSoFar image
    by true e = subst IsSoFar (let k : s.0 ≡ image = cc e in k) so
    by false e = absurd (cc e)
read-so number (l ∷ ls) s image so h = by (λ t f e. read-so (number + 1) ls t image (line-so s t l so f) e) (after_line s l) refl h
  where
    by : ((t : State) → after_line s l ≡ Ok t → read_from (number + 1) ls t ≡ Ok image → IsSoFar image)
        → (x : Result State HexCode) → after_line s l ≡ x → read_on number (read_from (number + 1) ls) x ≡ Ok image → IsSoFar image
    by goes_on (Ok t) f e = goes_on t f e
    by goes_on (Err code) f e = absurd (cc e)

pub image_is : (text image : List ℕ) → image_of text ≡ Ok image → IsImage image
image_is text image h =
    let so : IsSoFar image = read-so 1 _ (replicate 57344 0xFF, false) image (record { bytes = blank 57344; whole_length = refl }) h in
    record { bytes = so.bytes; whole = so.whole_length }

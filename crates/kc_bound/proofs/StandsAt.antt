-- What is fetched from ROM is what stands in the image.
use Rattle.std.proofs.Common.{◌≡◌, ◌≢◌, ℕ, zero, suc, Bool, true, false, ◌+◌, ◌-◌, ◌%◌, ◌<◌, ◌≤◌, nat_lt, if◌then◌else◌, List, [], ◌∷◌, ◌++◌, length, take, drop, slice_index, get_or, refl, sym, ◌∙◌, ap, subst, arith}
use Rattle.std.proofs.lemmas.Grind.{common_steps}
use Rattle.std.proofs.Math.Seq.{drop-cons}
use Rattle.std.specs.Prelude.{min}
use Rattle.kc_base.specs.Bytes.{IsBytes}
use Rattle.kc_base.specs.Limits.{image_start, rom_end}
use Rattle.kc_code.specs.declared.reader.Decoded.{Decoded}
use Rattle.kc_code.specs.declared.reader.Decoded.TheVariants.{Short}
use Rattle.kc_code.specs.Reading.{decode_of}
use Rattle.kc_code.specs.Listing.{bytes_from}
use Rattle.kc_code.proofs.Beginnings.{rest_is_free}
use Rattle.kc_exec_spec.specs.Memory.{is_rom, is_hole}
use Rattle.kc_machine_spec.specs.Machine.{fetched, can_fetch}
use Rattle.kc_bound.specs.Ways.{found_at, rom_bytes}

-- the ROM of a memory is that of an image
abbrev pub RomIs : List ℕ → List ℕ → Type 0
RomIs image memory = (a : ℕ) → is_rom a ≡ true → slice_index memory a ≡ slice_index image (a - image_start)

can-fetch : (a : ℕ) → 0x2000 ≤ a → can_fetch a ≡ true
can-fetch a low = grind (arith, common_steps)

in-rom : (a : ℕ) → 0x2000 ≤ a → a < 0x6000 → is_rom a ≡ true
in-rom a low high = grind (arith, common_steps)

-- so many bytes of the image, and then what follows
pub fetched-rom : (n k : ℕ) (image memory : List ℕ) (a : ℕ) → RomIs image memory → length image ≡ 0xE000 → 0x2000 ≤ a → a + n ≤ 0x6000
    → fetched (n + k) memory a ≡ take n (drop (a - 0x2000) image) ++ fetched k memory (a + n)
unfolding fetched
fetched-rom zero k image memory a same long low high =
    let e : zero + k ≡ k = omega arith in
    let at : a + zero ≡ a = omega arith in
    rw (e, at) refl
fetched-rom (suc n) k image memory a same long low high =
    let e : suc n + k ≡ suc (n + k) = omega arith in
    let fetches : can_fetch a ≡ true = can-fetch a low in
    let here : slice_index memory a ≡ slice_index image (a - 0x2000) = same a (in-rom a low (omega arith)) in
    let next : (a + 1) % 0x10000 ≡ a + 1 = omega arith in
    let rest : fetched (n + k) memory (a + 1) ≡ take n (drop ((a + 1) - 0x2000) image) ++ fetched k memory ((a + 1) + n) = fetched-rom n k image memory (a + 1) same long (omega arith) (omega arith) in
    let after : (a + 1) - 0x2000 ≡ suc (a - 0x2000) = omega arith in
    let end : (a + 1) + n ≡ a + suc n = omega arith in
    let inside : a - 0x2000 < length image = omega arith in
    let cut : drop (a - 0x2000) image ≡ get_or image (a - 0x2000) 0 ∷ drop (suc (a - 0x2000)) image = drop-cons image (a - 0x2000) 0 inside in
    let began : fetched (suc (n + k)) memory a ≡ slice_index memory a ∷ fetched (n + k) memory ((a + 1) % 0x10000) = rw fetches refl in
    ap (λ j. fetched j memory a) e ∙ began
    ∙ ap (λ x. x ∷ fetched (n + k) memory ((a + 1) % 0x10000)) here
    ∙ ap (λ x. slice_index image (a - 0x2000) ∷ fetched (n + k) memory x) next
    ∙ ap (λ xs. slice_index image (a - 0x2000) ∷ xs) (rest ∙ ap (λ x. take n (drop x image) ++ fetched k memory ((a + 1) + n)) after ∙ ap (λ x. take n (drop (suc (a - 0x2000)) image) ++ fetched k memory x) end)
    ∙ sym (ap (λ xs. take (suc n) xs ++ fetched k memory (a + suc n)) cut)

take-bytes : (n : ℕ) (bytes : List ℕ) → IsBytes bytes → IsBytes (take n bytes)
take-bytes zero bytes h = tt
take-bytes (suc n) [] h = tt
take-bytes (suc n) (b ∷ bytes) h = (h.0, take-bytes n bytes h.1)

drop-bytes : (n : ℕ) (bytes : List ℕ) → IsBytes bytes → IsBytes (drop n bytes)
drop-bytes zero bytes h = h
drop-bytes (suc n) [] h = tt
drop-bytes (suc n) (b ∷ bytes) h = drop-bytes n bytes h.1

-- what the machine decodes at an address is what stands there in the image
pub decodes-found : (image memory : List ℕ) (a : ℕ) → RomIs image memory → IsBytes image → length image ≡ 0xE000 → 0x2000 ≤ a → a < 0x6000 → found_at image a ≢ Short → decode_of (fetched 7 memory a) ≡ found_at image a
unfolding found_at
decodes-found image memory a same bytes long low high whole =
    let n : ℕ = min 7 (0x6000 - a) in
    let sum : 7 ≡ n + (7 - n) = omega arith in
    let front : nat_lt a image_start ≡ false = grind (arith, common_steps) in
    let here : List ℕ = take n (drop (a - 0x2000) image) in
    let found : found_at image a ≡ decode_of here = rw front refl in
    let are : IsBytes here = take-bytes n (drop (a - 0x2000) image) (drop-bytes (a - 0x2000) image bytes) in
    let all : fetched 7 memory a ≡ here ++ fetched (7 - n) memory (a + n) = ap (λ j. fetched j memory a) sum ∙ fetched-rom n (7 - n) image memory a same long low (omega arith) in
    ap decode_of all ∙ rest_is_free here (fetched (7 - n) memory (a + n)) are (λ short. whole (found ∙ short)) ∙ sym found

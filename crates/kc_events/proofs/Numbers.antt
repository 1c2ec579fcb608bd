-- Numbers of a trace as they are spelled, read again.
use Rattle.std.proofs.Common.{◌≡◌, ℕ, suc, ◌*◌, ◌<◌, Some, Ok, Err, Result, List, [], ◌∷◌, length, flat_map, refl, sym, ap, ◌∙◌, arith}
use Rattle.std.specs.Prelude.{slice_index, MatchResult}
use Rattle.hex.specs.declared.error.FromHexError.{FromHexError}
use Rattle.std.proofs.lemmas.Bool.{lt-ltb, le-leb}
use Rattle.hex.specs.Hex.{decode_sized}
use Rattle.hex.proofs.HexLemmas.{decode_of-ok, decode_sized-twice, decode_sized-ok}
use Rattle.kc_base.specs.Bytes.{IsBytes}
use Rattle.kc_base.specs.Digits.{hex, up_to}
use Rattle.kc_base.proofs.Numbers.{digits-hex, pairs-read, two-long}
use Rattle.kc_events.specs.Candidates.{small as below_1000, base_of}

pub base-read : (n : ℕ) → n < 0x1000 → base_of (hex 3 n) ≡ Some n
base-read n small =
    ap (λ o. below_1000 (up_to 0xFFFF o)) (digits-hex 3 n (omega (arith, small))) ∙ rw (le-leb n 0xFFFF (omega (arith, small)), lt-ltb n 0x1000 small) refl

pub bytes-read : (bytes : List ℕ) → length bytes ≡ 32 → IsBytes bytes → decode_sized (flat_map (hex 2) bytes) 32 ≡ Ok bytes
bytes-read bytes len h =
    let long : length (flat_map (hex 2) bytes) ≡ 64 = two-long bytes ∙ ap (λ n. 2 * n) len in
    rw long (pairs-read 0 bytes h)

-- ---- what was decoded

listed : (xs : List ℕ) → ((i : ℕ) → slice_index xs i < 256) → IsBytes xs
listed [] h = tt
listed (x ∷ xs) h = (h 0, listed xs (λ i. h (suc i)))

pub decoded_bytes : (s out : List ℕ) → decode_sized s 32 ≡ Ok out → (length out ≡ 32) × IsBytes out
decoded_bytes s out h =
    let long : length s ≡ 2 * 32 = decode_sized-ok s 32 out h in
    let all = decode_of-ok s out (sym (decode_sized-twice s 32 long) ∙ h) in
    let twice : length s ≡ 2 * length out = all.2 in
    (omega (arith, long, twice), listed out all.3)

pub was_decoded : {U : Type 0} (good : U) (d : Result (List ℕ) FromHexError) (out : List ℕ) (r : Result U FromHexError) (u : U) →
    MatchResult d (λ bytes. (r ≡ Ok good) × (out ≡ bytes)) (λ e. r ≡ Err e) → r ≡ Ok u → d ≡ Ok out
was_decoded good (Ok bytes) out r u h is = ap Ok (sym h.1)
was_decoded good (Err e) out r u h is = absurd (let clash : Err e ≡ Ok u = sym h ∙ is in cc)

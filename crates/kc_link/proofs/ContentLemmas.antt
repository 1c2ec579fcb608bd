-- Runs of a module in order: each byte of a run is the byte of its place, and stands in a code piece.
use Rattle.std.proofs.Common.{◌≡◌, ℕ, zero, suc, ◌+◌, ◌-◌, ◌<◌, ◌≤◌, Bool, true, false, ◌&&◌, ◌||◌, eqb, ltb, leb, ◌==◌, List, [], ◌∷◌, length, Option, Some, None, refl, subst, arith}
use Rattle.std.specs.Prelude.{slice_get, slice_index, if◌then◌else◌}
use Rattle.std.specs.List.{list_all}
use Rattle.std.proofs.lemmas.Bool.{and_parts}
use Rattle.std.proofs.lemmas.Bool.Decides.{nat_tests}
use Rattle.std.proofs.lemmas.Option.{slice_get-get_or}
use Rattle.kc_obj_module.specs.declared.parts.SegKind.{SegKind}
use Rattle.kc_obj_module.specs.declared.parts.SegKind.TheVariants.{Reg, Code, Ram, Stack}
use Rattle.kc_obj_module.specs.declared.parts.Segment.{Segment}
use Rattle.kc_obj_module.specs.declared.parts.Content.{Content}
use Rattle.kc_obj_module.specs.Pieces.{kind_number, has_code}
use Rattle.kc_obj_module.specs.Contents.{content_end, content_is_sound, content_follows, contents_in_order, covers, content_at, is_over}
use Rattle.kc_obj_module.proofs.ContentLemmas.{over_covers, over_from, ordered_rest}

-- ---- on plain numbers: a run at offset f of piece q that ends before e

over_further : (q e p o k : ℕ) → (ltb q p || (eqb q p && leb e o)) ≡ true → (ltb q p || (eqb q p && leb e (o + k))) ≡ true
over_further q e p o k h = grind (arith, nat_tests)

over_next : (q e r g : ℕ) (full : Bool) → (ltb q r || (eqb q r && (ltb e g || (eqb e g && full)))) ≡ true → (ltb q r || (eqb q r && leb e g)) ≡ true
over_next q e r g true k = grind (arith, nat_tests)
over_next q e r g false k = grind (arith, nat_tests)

end_over : (q f e r s : ℕ) → f ≤ e → (ltb q r || (eqb q r && leb e s)) ≡ true → (ltb q r || (eqb q r && leb f s)) ≡ true
end_over q f e r s l h = grind (arith, nat_tests)

in_run : (q f e k : ℕ) → f + k < e → (eqb q q && leb f (f + k) && ltb (f + k) e) ≡ true
in_run q f e k l = grind (arith, nat_tests)

pub covered_parts : (q f e p o : ℕ) → (eqb q p && leb f o && ltb o e) ≡ true → (q ≡ p) × (f ≤ o) × (o < e)
covered_parts q f e p o h = (grind (arith, nat_tests, h), grind (arith, nat_tests, h), grind (arith, nat_tests, h))

-- ---- runs

next_over : (c d : Content) (cs : List Content) → contents_in_order (c ∷ d ∷ cs) ≡ true → is_over c d.piece d.offset ≡ true
unfolding contents_in_order
next_over c d cs h = over_next c.piece (content_end c) d.piece d.offset (eqb (length c.bytes) 1024) (and_parts (content_follows c d) (contents_in_order (d ∷ cs)) h).0

-- a run ends before each later one begins
over_later : (c : Content) (cs : List Content) (j : ℕ) (d : Content) → contents_in_order (c ∷ cs) ≡ true → slice_get cs j ≡ Some d → is_over c d.piece d.offset ≡ true
over_later c [] j d h e = absurd (cc e)
over_later c (x ∷ cs) zero d h e = let f : x ≡ d = cc e in subst (λ (y : Content). is_over c y.piece y.offset ≡ true) f (next_over c x cs h)
over_later c (x ∷ cs) (suc j) d h e =
    let more : is_over x d.piece d.offset ≡ true = over_later x cs j d (ordered_rest c (x ∷ cs) h) e in
    over_from c.piece (content_end c) x.piece x.offset d.piece d.offset (next_over c x cs h) (end_over x.piece x.offset (content_end x) d.piece d.offset (omega arith) more)

byte_here : (bytes : List ℕ) (f k : ℕ) → k < length bytes → slice_get bytes ((f + k) - f) ≡ Some (slice_index bytes k)
byte_here bytes f k l = let q : (f + k) - f ≡ k = omega arith in rw q (slice_get-get_or bytes k 0 l)

pub run_byte : (cs : List Content) (j : ℕ) (c : Content) (k : ℕ) → contents_in_order cs ≡ true → slice_get cs j ≡ Some c → k < length c.bytes → content_at cs c.piece (c.offset + k) ≡ Some (slice_index c.bytes k)
unfolding content_at
run_byte [] j c k h e l = absurd (cc e)
run_byte (x ∷ cs) zero c k h e l =
    let f : x ≡ c = cc e in
    let i : covers c c.piece (c.offset + k) ≡ true = in_run c.piece c.offset (content_end c) k (omega arith) in
    rw f (rw i (byte_here c.bytes c.offset k l))
run_byte (x ∷ cs) (suc j) c k h e l =
    let o : is_over x c.piece c.offset ≡ true = over_later x cs j c h e in
    let n : covers x c.piece (c.offset + k) ≡ false = over_covers x.piece x.offset (content_end x) c.piece (c.offset + k) (over_further x.piece (content_end x) c.piece c.offset k o) in
    rw n (run_byte cs j c k (ordered_rest x cs h) e l)

-- ---- code pieces

pub record InCode (segments : List Segment) (piece offset : ℕ) : Type 0 where
  pub segment : Segment
  pub is_there : slice_get segments piece ≡ Some segment
  pub is_code : segment.kind ≡ Code
  pub below : offset < segment.length

code_is : (k : SegKind) → (kind_number k == 1) ≡ true → k ≡ Code
code_is Reg h = absurd (cc h)
code_is Code h = refl
code_is Ram h = absurd (cc h)
code_is Stack h = absurd (cc h)

pub code_to : (segments : List Segment) (piece offset end : ℕ) → has_code (slice_get segments piece) end ≡ true → offset < end → InCode segments piece offset
code_to segments piece offset end h l = by (slice_get segments piece) refl h
  where
    by : (o : Option Segment) → slice_get segments piece ≡ o → has_code o end ≡ true → InCode segments piece offset
    by None e g = absurd (cc g)
    by (Some s) e g =
        let p = and_parts (kind_number s.kind == 1) (leb end s.length) g in
        let m : end ≤ s.length = grind (arith, nat_tests, p.1) in
        record { segment = s; is_there = e; is_code = code_is s.kind p.0; below = omega (arith, l, m) }

-- each byte of the contents stands in a code piece
pub byte_in_code : (segments : List Segment) (cs : List Content) (piece offset v : ℕ) → list_all (content_is_sound segments) cs ≡ true → content_at cs piece offset ≡ Some v → InCode segments piece offset
unfolding content_at
byte_in_code segments [] piece offset v s e = absurd (cc e)
byte_in_code segments (c ∷ cs) piece offset v s e =
    let parts = and_parts (content_is_sound segments c) (list_all (content_is_sound segments) cs) s in
    by (covers c piece offset) refl e parts.0 (byte_in_code segments cs piece offset v parts.1)
  where
    by : (t : Bool) → covers c piece offset ≡ t → (if t then slice_get c.bytes (offset - c.offset) else content_at cs piece offset) ≡ Some v → content_is_sound segments c ≡ true →
        (content_at cs piece offset ≡ Some v → InCode segments piece offset) → InCode segments piece offset
    by true q f g go =
        let h = covered_parts c.piece c.offset (content_end c) piece offset q in
        let k = and_parts (ltb 0 (length c.bytes) && leb (length c.bytes) 1024) (has_code (slice_get segments c.piece) (content_end c)) g in
        code_to segments piece offset (content_end c) (rw h.0 at k.1) h.2
    by false q f g go = go f

-- a run is not empty
pub run_some : (segments : List Segment) (cs : List Content) (j : ℕ) (c : Content) → list_all (content_is_sound segments) cs ≡ true → slice_get cs j ≡ Some c → 0 < length c.bytes
run_some segments [] j c s e = absurd (cc e)
run_some segments (x ∷ cs) zero c s e =
    let f : x ≡ c = cc e in
    let p = (and_parts (content_is_sound segments x) (list_all (content_is_sound segments) cs) s).0 in
    let q = (and_parts (ltb 0 (length x.bytes) && leb (length x.bytes) 1024) (has_code (slice_get segments x.piece) (content_end x)) p).0 in
    let r = (and_parts (ltb 0 (length x.bytes)) (leb (length x.bytes) 1024) q).0 in
    let g : 0 < length x.bytes = grind (arith, nat_tests, r) in
    rw (← f) g
run_some segments (x ∷ cs) (suc j) c s e = run_some segments cs j c (and_parts (content_is_sound segments x) (list_all (content_is_sound segments) cs) s).1 e

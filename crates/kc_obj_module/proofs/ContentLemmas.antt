-- Contents before, at and after a place.
use Rattle.std.proofs.Common.{◌≡◌, ℕ, ◌+◌, ◌<◌, ◌≤◌, Bool, true, false, ◌&&◌, ◌||◌, eqb, ltb, leb, List, [], ◌∷◌, length, drop, get_or, suc, add-one, drop-cons, None, refl, sym, ap, ◌∙◌, arith}
use Rattle.std.proofs.Math.ListN.{drop_of_length-le}
use Rattle.std.proofs.lemmas.Bool.{and_parts}
use Rattle.std.proofs.lemmas.Bool.Decides.{nat_tests}
use Rattle.kc_obj_module.specs.declared.parts.Content.{Content}
use Rattle.kc_obj_module.specs.Contents.{content_end, content_follows, contents_in_order, covers, byte_of, content_at, is_over, is_from, SameFrom, BeginsFrom, byte_of_first}

-- ---- on plain numbers: a run at offset f of piece q that ends before e

pub over_covers : (q f e p o : ℕ) → (ltb q p || (eqb q p && leb e o)) ≡ true → (eqb q p && leb f o && ltb o e) ≡ false
over_covers q f e p o h = grind (arith, nat_tests)

pub over_from : (q e p o r s : ℕ) → (ltb q p || (eqb q p && leb e o)) ≡ true → (ltb p r || (eqb p r && leb o s)) ≡ true → (ltb q r || (eqb q r && leb e s)) ≡ true
over_from q e p o r s h k = grind (arith, nat_tests)

-- the place is in front of the run
abbrev is_ahead : ℕ → ℕ → ℕ → ℕ → Bool
is_ahead q f p o = ltb p q || (eqb p q && ltb o f)

ahead_from : (q f e p o : ℕ) → (ltb q p || (eqb q p && leb e o)) ≡ false → (eqb q p && leb f o && ltb o e) ≡ false → is_ahead q f p o ≡ true
ahead_from q f e p o h k = grind (arith, nat_tests)

ahead_covers : (q f e p o : ℕ) → is_ahead q f p o ≡ true → (eqb q p && leb f o && ltb o e) ≡ false
ahead_covers q f e p o h = grind (arith, nat_tests)

ahead_next : (q f e p o r g : ℕ) (full : Bool) → f ≤ e → is_ahead q f p o ≡ true → (ltb q r || (eqb q r && (ltb e g || (eqb e g && full)))) ≡ true → is_ahead r g p o ≡ true
ahead_next q f e p o r g true le h k = grind (arith, nat_tests)
ahead_next q f e p o r g false le h k = grind (arith, nat_tests)

-- ---- on contents

pub over_skips : (c : Content) (cs : List Content) (p o : ℕ) → is_over c p o ≡ true → content_at (c ∷ cs) p o ≡ content_at cs p o
unfolding content_at
over_skips c cs p o h = rw (over_covers c.piece c.offset (content_end c) p o h) refl

pub first_byte : (c : Content) (cs : List Content) (p o : ℕ) → covers c p o ≡ true → content_at (c ∷ cs) p o ≡ byte_of c p o
unfolding content_at
first_byte c cs p o h = rw h refl

pub ordered_rest : (c : Content) (cs : List Content) → contents_in_order (c ∷ cs) ≡ true → contents_in_order cs ≡ true
unfolding contents_in_order
ordered_rest c [] h = refl
ordered_rest c (d ∷ cs) h = (and_parts (content_follows c d) (contents_in_order (d ∷ cs)) h).1

ordered_next : (c d : Content) (cs : List Content) → contents_in_order (c ∷ d ∷ cs) ≡ true → content_follows c d ≡ true
unfolding contents_in_order
ordered_next c d cs h = (and_parts (content_follows c d) (contents_in_order (d ∷ cs)) h).0

none_ahead : (c : Content) (cs : List Content) (p o : ℕ) → contents_in_order (c ∷ cs) ≡ true → is_ahead c.piece c.offset p o ≡ true → content_at (c ∷ cs) p o ≡ None
unfolding content_at
none_ahead c [] p o h ahead = rw (ahead_covers c.piece c.offset (content_end c) p o ahead) refl
none_ahead c (d ∷ cs) p o h ahead =
    let next : is_ahead d.piece d.offset p o ≡ true = ahead_next c.piece c.offset (content_end c) p o d.piece d.offset (eqb (length c.bytes) 1024) (omega arith) ahead (ordered_next c d cs h) in
    rw (ahead_covers c.piece c.offset (content_end c) p o ahead) (none_ahead d cs p o (ordered_rest c (d ∷ cs) h) next)

-- where the first run does not end before a place, it is the only one that can stand there
pub only_first : (c : Content) (cs : List Content) (p o : ℕ) → contents_in_order (c ∷ cs) ≡ true → is_over c p o ≡ false → content_at (c ∷ cs) p o ≡ byte_of c p o
only_first c cs p o h over =
    elim (covers c p o) as (λ b. covers c p o ≡ b → content_at (c ∷ cs) p o ≡ byte_of c p o) [
      | true ↦ λ e. first_byte c cs p o e
      | false ↦ λ e. none_ahead c cs p o h (ahead_from c.piece c.offset (content_end c) p o over e) ∙ sym (rw e refl)
    ] refl

pub none_at : (p o : ℕ) → content_at [] p o ≡ None
unfolding content_at
none_at p o = refl

-- ---- dropping what ends before a place

pub same_all : (piece offset : ℕ) (cs : List Content) → SameFrom piece offset cs cs
same_all piece offset cs p o h = refl

pub same_rest : (piece offset : ℕ) (c : Content) (cs all : List Content) → is_over c piece offset ≡ true → SameFrom piece offset (c ∷ cs) all → SameFrom piece offset cs all
same_rest piece offset c cs all over same p o h = sym (over_skips c cs p o (over_from c.piece (content_end c) piece offset p o over h)) ∙ same p o h

-- one more run that stands before the place is left out
pub one_over : (all : List Content) (n piece offset : ℕ) (c : Content) → n < length all → c ≡ get_or all n c → is_over c piece offset ≡ true → contents_in_order (drop n all) ≡ true → SameFrom piece offset (drop n all) all
    → (contents_in_order (drop (n + 1) all) ≡ true) × SameFrom piece offset (drop (n + 1) all) all
one_over all n piece offset c lt is over ordered same =
    let parts : drop n all ≡ c ∷ drop (n + 1) all = rw add-one (drop-cons all n c lt ∙ ap (λ (x : Content). x ∷ drop (suc n) all) (sym is)) in
    (ordered_rest c (drop (n + 1) all) (rw parts at ordered), same_rest piece offset c (drop (n + 1) all) all over (rw parts at same))

-- where the first run left does not stand before the place, it alone can have its byte
pub begins_at : (all : List Content) (n piece offset : ℕ) (c : Content) → n < length all → c ≡ get_or all n c → is_over c piece offset ≡ false → BeginsFrom piece offset (drop n all)
begins_at all n piece offset c lt is over =
    let parts : drop n all ≡ c ∷ drop (n + 1) all = rw add-one (drop-cons all n c lt ∙ ap (λ (x : Content). x ∷ drop (suc n) all) (sym is)) in
    rw parts over

pub begins_nowhere : (all : List Content) (n piece offset : ℕ) → length all ≤ n → BeginsFrom piece offset (drop n all)
begins_nowhere all n piece offset le = rw (drop_of_length-le all le) tt

first_is : (cs : List Content) (piece offset : ℕ) → contents_in_order cs ≡ true → BeginsFrom piece offset cs → content_at cs piece offset ≡ byte_of_first cs piece offset
first_is [] piece offset ordered begins = none_at piece offset
first_is (c ∷ cs) piece offset ordered begins = only_first c cs piece offset ordered begins

from_same : (p o : ℕ) → is_from p o p o ≡ true
from_same p o = grind (arith, nat_tests)

pub byte_is : (cs all : List Content) (piece offset : ℕ) → contents_in_order cs ≡ true → SameFrom piece offset cs all → BeginsFrom piece offset cs → byte_of_first cs piece offset ≡ content_at all piece offset
byte_is cs all piece offset ordered same begins = sym (first_is cs piece offset ordered begins) ∙ same piece offset (from_same piece offset)

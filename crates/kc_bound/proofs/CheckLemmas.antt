-- What prices come to, where no way pays, and how the check of each address joins.
use Rattle.std.proofs.Common.{◌≡◌, ℕ, ◌+◌, ◌-◌, ◌*◌, ◌^◌, ◌<◌, ◌≤◌, Bool, true, false, Option, Some, None, List, [], ◌∷◌, length, refl, sym, ap, subst, ◌∙◌, inl, inr, arith}
use Rattle.std.specs.Prelude.{◌&&◌, ◌==◌, nat_le, nat_lt, if◌then◌else◌, IfSome, SomeIff}
use Rattle.std.specs.List.{list_all, All}
use Rattle.std.proofs.lemmas.List.Elements.{All-head, All-tail}
use Rattle.std.proofs.lemmas.Option.{slice_get_past, same_Some}
use Rattle.std.proofs.lemmas.Bool.{cases_lt}
use Rattle.std.proofs.lemmas.Bool.Decides.{nat_tests}
use Rattle.kc_base.specs.Limits.{max_states}
use Rattle.kc_bound.specs.declared.notes.Loop.{Loop}
use Rattle.kc_bound.specs.declared.notes.Notes.{Notes}
use Rattle.kc_bound.specs.declared.way.Way.{Way}
use Rattle.kc_bound.specs.declared.way.Way.TheVariants.{To, Call, Back, Out}
use Rattle.kc_bound.specs.declared.certificate.Standing.{Standing}
use Rattle.kc_bound.specs.declared.certificate.Certificate.{Certificate}
use Rattle.kc_bound.specs.declared.certificate.Bound.{Bound}
use Rattle.kc_bound.specs.Notes.{is_end}
use Rattle.kc_bound.specs.Certified.{standing_at, priced, begins_at, price_at, credit_at, prepaid, follows, pays_on, pays_call, pays, pays_all, is_sound_at, Shows}

-- ---- prices

once : (b : Bool) (p : ℕ) → (if b then 1 else 0) * p ≤ p
once true p = omega arith
once false p = omega arith

-- what begins at an address has at most each price once
pub begins_within : (a : ℕ) (loops : List Loop) (prices : List ℕ) → All (λ p. p < 2 ^ 64) prices → priced (begins_at a) loops prices ≤ 2 ^ 64 * length prices
begins_within a [] prices h = omega arith
begins_within a (l ∷ loops) [] h = omega arith
begins_within a (l ∷ loops) (p ∷ prices) h =
    let rest = begins_within a loops prices (All-tail (λ q. q < 2 ^ 64) p prices h) in
    let here : p < 2 ^ 64 = All-head (λ q. q < 2 ^ 64) p prices h in
    omega (arith, once (l.head == a) p)

-- where the loops or the prices are at an end, nothing is left to add
pub none_left : (times : Loop → ℕ) (loops : List Loop) (prices : List ℕ) → length loops < 1 → priced times loops prices ≡ 0
none_left times [] prices h = refl
none_left times (l ∷ loops) prices h = absurd (omega arith)

pub no_prices : (times : Loop → ℕ) (loops : List Loop) (prices : List ℕ) → length prices < 1 → priced times loops prices ≡ 0
no_prices times [] prices h = refl
no_prices times (l ∷ loops) [] h = refl
no_prices times (l ∷ loops) (price ∷ prices) h = absurd (omega arith)

pub ended : (sum rest total : ℕ) → sum < 2 ^ 128 → sum + rest ≡ total → rest ≡ 0 → (total < 2 ^ 128) × (sum ≡ total)
ended sum rest total low h e = (omega arith, omega arith)

-- a sum that is not given has more than 128 bits
pub is_over : (found : Option ℕ) (sum : ℕ) → SomeIff found (sum < 2 ^ 128) sum → ((x : ℕ) → found ≡ Some x → ⊥) → 2 ^ 128 ≤ sum
is_over None sum s n = elim (cases_lt sum (2 ^ 128)) [ inl under ↦ absurd (s under) | inr over ↦ over ]
is_over (Some x) sum s n = absurd (n x refl)

-- ---- where no way pays

short : (m n : ℕ) → n < m → nat_le m n ≡ false
short m n h = grind (arith, nat_tests)

on_short : (here : Standing) (has spent : ℕ) (there : Option Standing) → has < spent → pays_on here has spent there ≡ false
on_short here has spent None h = refl
on_short here has spent (Some there) h = ap (λ (b : Bool). b && follows here there) (short (spent + there.potential) has (omega arith))

call_short : (floor : ℕ) (here : Standing) (has spent : ℕ) (is_last : Bool) (there behind : Option Standing) → has + floor < spent → pays_call floor here has spent is_last there behind ≡ false
call_short floor here has spent is_last None behind h = refl
call_short floor here has spent is_last (Some there) None h = refl
call_short floor here has spent is_last (Some there) (Some behind) h = rw (short (spent + there.potential + behind.potential) (has + floor) (omega arith)) refl

nothing_pays : (notes : Notes) (c : Certificate) (here : Standing) (has credit : ℕ) (way : Way) → has + c.floor < credit → pays notes c here has credit way ≡ false
nothing_pays notes c here has credit (To states target) h = on_short here has (states + credit) (standing_at c target) (omega arith)
nothing_pays notes c here has credit (Call states target back) h = call_short c.floor here has (states + credit) (is_end notes back) (standing_at c target) (standing_at c back) (omega arith)
nothing_pays notes c here has credit (Back states) h = short (states + credit + c.floor) has (omega arith)
nothing_pays notes c here has credit (Out states) h = ap (λ (b : Bool). b && here.leaves) (short (states + credit + c.floor) has (omega arith))

-- a credit above all that there is to spend pays for none
pub nothing_pays_all : (notes : Notes) (c : Certificate) (a : ℕ) (here : Standing) (ways : List Way) → here.potential + price_at notes c a + c.floor < credit_at notes c a → pays_all notes c a here (Some ways) ≡ false
nothing_pays_all notes c a here [] h = refl
nothing_pays_all notes c a here (way ∷ ways) h =
    ap (λ (b : Bool). b && list_all (pays notes c here (here.potential + price_at notes c a) (credit_at notes c a)) ways) (nothing_pays notes c here (here.potential + price_at notes c a) (credit_at notes c a) way h)

-- an address without a way does not
pub none_pays_all : (notes : Notes) (c : Certificate) (a : ℕ) (here : Standing) (ways : List Way) → length ways ≡ 0 → pays_all notes c a here (Some ways) ≡ false
none_pays_all notes c a here [] h = refl
none_pays_all notes c a here (way ∷ ways) h = absurd (omega arith)

pub some_pay_all : (notes : Notes) (c : Certificate) (a : ℕ) (here : Standing) (ways : List Way) → 0 < length ways → pays_all notes c a here (Some ways) ≡ list_all (pays notes c here (here.potential + price_at notes c a) (credit_at notes c a)) ways
some_pay_all notes c a here [] h = absurd (omega arith)
some_pay_all notes c a here (way ∷ ways) h = refl

-- ---- all addresses

no_standing : (image : List ℕ) (notes : Notes) (from : ℕ) (c : Certificate) (a : ℕ) → standing_at c a ≡ None → is_sound_at image notes from c a (standing_at c a) ≡ true
no_standing image notes from c a e = subst (λ (s : Option Standing). is_sound_at image notes from c a s ≡ true) (sym e) refl

is_low : (m n : ℕ) → m < n → nat_lt m n ≡ true
is_low m n h = grind (arith, nat_tests)

below : (c : Certificate) (a : ℕ) → a < 0x2000 → standing_at c a ≡ None
below c a h = rw (is_low a 0x2000 h) refl

either : (b : Bool) → ◌≡◌ {A = Option Standing} (if b then None else None) None
either true = refl
either false = refl

past : (c : Certificate) (a : ℕ) → length c.standings.items ≤ a - 0x2000 → standing_at c a ≡ None
past c a h = rw (slice_get_past c.standings.items (a - 0x2000) h) (either (nat_lt a 0x2000))

-- each address is sound where those of the standings are
pub sound_everywhere : (image : List ℕ) (notes : Notes) (from : ℕ) (c : Certificate)
    → ((k : ℕ) → k < length c.standings.items → is_sound_at image notes from c (0x2000 + k) (standing_at c (0x2000 + k)) ≡ true)
    → (a : ℕ) → is_sound_at image notes from c a (standing_at c a) ≡ true
sound_everywhere image notes from c h a =
    elim (cases_lt a 0x2000) [
      | inl under ↦ no_standing image notes from c a (below c a under)
      | inr over ↦ elim (cases_lt (a - 0x2000) (length c.standings.items)) [
        | inl within ↦ let e : 0x2000 + (a - 0x2000) ≡ a = omega arith in subst (λ (n : ℕ). is_sound_at image notes from c n (standing_at c n) ≡ true) e (h (a - 0x2000) within)
        | inr after ↦ no_standing image notes from c a (past c a after)
      ]
    ]

-- ---- the bound

pub shows : (image : List ℕ) (notes : Notes) (from : ℕ) (c : Certificate) (first : Standing) (found : Option Bound)
    → standing_at c from ≡ Some first → ((a : ℕ) → is_sound_at image notes from c a (standing_at c a) ≡ true)
    → IfSome found (λ b. b.over + c.floor ≡ first.potential + prepaid notes c)
    → IfSome found (λ b. b.always ≡ first.potential + prepaid notes c + c.floor * first.rank)
    → IfSome found (λ b. Shows image notes from c b)
shows image notes from c first None begins sound over always = tt
shows image notes from c first (Some b) begins sound over always =
    record { first = first; certified = record { begins = begins; sound = sound }; over = over; always = always }

abbrev pub IsItsBound : Notes → Certificate → Standing → Option Bound → Type 0
IsItsBound notes c first found =
    (b : Bound) → b.over + c.floor ≡ first.potential + prepaid notes c → b.always ≡ first.potential + prepaid notes c + c.floor * first.rank
    → b.over ≤ max_states → b.always < 2 ^ 64 → found ≡ Some b

pub is_its_bound : (image : List ℕ) (notes : Notes) (from : ℕ) (c : Certificate) (first : Standing) (found : Option Bound)
    → standing_at c from ≡ Some first → IsItsBound notes c first found
    → (b : Bound) → Shows image notes from c b → b.over ≤ max_states → b.always < 2 ^ 64 → found ≡ Some b
is_its_bound image notes from c first found begins h b shown =
    let e : shown.first ≡ first = same_Some shown.first first (sym shown.certified.begins ∙ begins) in
    h b
    (subst (λ (s : Standing). b.over + c.floor ≡ s.potential + prepaid notes c) e shown.over)
    (subst (λ (s : Standing). b.always ≡ s.potential + prepaid notes c + c.floor * s.rank) e shown.always)

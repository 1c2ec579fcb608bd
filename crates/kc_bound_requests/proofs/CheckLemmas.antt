-- How the check of each address joins, and where the least open one stands.
use Rattle.std.proofs.Common.{◌≡◌, ℕ, Bool, true, false, not, ◌+◌, ◌<◌, ◌≤◌, ◌==◌, ◌&&◌, nat_lt, Option, List, refl, ◌∙◌, ap, subst, inl, inr, arith}
use Rattle.std.proofs.lemmas.Grind.{common_steps}
use Rattle.std.proofs.lemmas.Bool.{cases_lt}
use Rattle.kc_base.specs.Limits.{image_start, rom_end}
use Rattle.kc_exec_spec.specs.declared.plan.Plan.{Plan}
use Rattle.kc_bound.specs.declared.notes.Notes.{Notes}
use Rattle.kc_bound_requests.specs.declared.certificate.EnabledAt.{EnabledAt}
use Rattle.kc_bound_requests.specs.declared.certificate.RequestCertificate.{RequestCertificate}
use Rattle.kc_bound_requests.specs.Closed.{no_set, nothing, enabled_at, is_past, work_at, is_closed_at, lets_in, is_open_at}

-- what holds of each address of the ROM, and where a certificate has nothing, holds of each
in-rom-or-not : (P : ℕ → Type 0) (c : RequestCertificate) → ((a : ℕ) → image_start ≤ a → a < rom_end → P a) → ((a : ℕ) → enabled_at c a ≡ nothing → P a) → (a : ℕ) → P a
in-rom-or-not P c inside outside a = by (nat_lt a image_start) (nat_lt a rom_end) refl refl
  where
    by : (low high : Bool) → nat_lt a image_start ≡ low → nat_lt a rom_end ≡ high → P a
    by true high l h = outside a (rw l refl)
    by false false l h = outside a (rw (l, h) refl)
    by false true l h = inside a (grind (arith, common_steps)) (grind (arith, common_steps))

pub closed-everywhere : (image : List ℕ) (notes : Notes) (from : ℕ) (c : RequestCertificate) → ((a : ℕ) → image_start ≤ a → a < rom_end → is_closed_at image notes from c a ≡ true) → (a : ℕ) → is_closed_at image notes from c a ≡ true
closed-everywhere image notes from c h =
    in-rom-or-not (λ a. is_closed_at image notes from c a ≡ true) c h
    (λ a none. let empty : ((enabled_at c a).before.bits == 0) ≡ true = ap (λ (x : EnabledAt). x.before.bits == 0) none in rw empty refl)

lets-none : (work : Option Plan) → lets_in work no_set ≡ false
lets-none work = refl

and-false : (b : Bool) → (b && false) ≡ false
and-false true = refl
and-false false = refl

pub none-open : (image : List ℕ) (notes : Notes) (from : ℕ) (c : RequestCertificate) → ((a : ℕ) → image_start ≤ a → a < rom_end → is_open_at image notes from c a ≡ false) → (a : ℕ) → is_open_at image notes from c a ≡ false
none-open image notes from c h =
    in-rom-or-not (λ a. is_open_at image notes from c a ≡ false) c h
    (λ a none. let empty : lets_in (work_at image a) (enabled_at c a).before ≡ false = ap (λ (x : EnabledAt). lets_in (work_at image a) x.before) none ∙ lets-none (work_at image a) in rw empty (and-false (not (is_past notes from a))))

pub none-below : (image : List ℕ) (notes : Notes) (from : ℕ) (c : RequestCertificate) (least : ℕ) → ((a : ℕ) → image_start ≤ a → a < least → is_open_at image notes from c a ≡ false) → (a : ℕ) → nat_lt a least ≡ true → is_open_at image notes from c a ≡ false
none-below image notes from c least h a below =
    in-rom-or-not (λ x. nat_lt x least ≡ true → is_open_at image notes from c x ≡ false) c
    (λ x low high less. h x low (grind (arith, common_steps)))
    (λ x none less. let empty : lets_in (work_at image x) (enabled_at c x).before ≡ false = ap (λ (y : EnabledAt). lets_in (work_at image x) y.before) none ∙ lets-none (work_at image x) in rw empty (and-false (not (is_past notes from x))))
    a below

-- what holds of each address below one, and there, holds of each up to it
pub one-more : (P : ℕ → Type 0) (n : ℕ) → ((a : ℕ) → image_start ≤ a → a < n → P a) → P n → (a : ℕ) → image_start ≤ a → a < n + 1 → P a
one-more P n before here a low less = elim (cases_lt a n) [
  | inl under ↦ before a low under
  | inr over ↦ let same : n ≡ a = omega (arith, less, over) in subst P same here
]

-- Where no way pays, and how the check of each address joins.
use Rattle.std.proofs.Common.{◌≡◌, ℕ, Bool, true, false, ◌+◌, ◌<◌, ◌≤◌, ◌==◌, ◌&&◌, ◌||◌, nat_le, nat_lt, Option, Some, None, List, [], ◌∷◌, length, refl, ◌∙◌, ap, subst, sym, inl, inr, arith}
use Rattle.std.proofs.lemmas.Grind.{common_steps}
use Rattle.std.proofs.lemmas.Bool.{cases_lt}
use Rattle.std.proofs.lemmas.Bool.Decides.{nat_tests}
use Rattle.std.specs.Prelude.{is_none, IfSome}
use Rattle.std.specs.List.{list_all}
use Rattle.kc_base.specs.Limits.{image_start, rom_end}
use Rattle.kc_exec_spec.specs.declared.plan.Plan.{Plan}
use Rattle.kc_bound.specs.declared.notes.Notes.{Notes}
use Rattle.kc_bound.specs.declared.way.Way.{Way}
use Rattle.kc_bound.specs.Notes.{words_at}
use Rattle.kc_bound_requests.specs.declared.enabled.Enabled.{Enabled}
use Rattle.kc_bound_requests.specs.declared.certificate.EnabledAt.{EnabledAt}
use Rattle.kc_bound_requests.specs.declared.certificate.EnabledSet.{EnabledSet}
use Rattle.kc_bound_requests.specs.Closed.{no_set, nothing, is_in, implies, enabled_at, is_past, work_at}
use Rattle.kc_bound_requests.specs.declared.latency_certificate.LatencyCertificate.{LatencyCertificate}
use Rattle.kc_bound_requests.specs.declared.enabled.TheConstants.{EACH}
use Rattle.kc_bound_requests.specs.Latency.{shut_at, price_at, credit_at, shut_states, way_states, pays, has_word, hands_on, pays_from, pays_all, is_sound_at, is_most, asks_at, is_most_at}

short : (m n : ℕ) → n < m → nat_le m n ≡ false
short m n h = grind (arith, nat_tests)

and-false : (b : Bool) → (b && false) ≡ false
and-false true = refl
and-false false = refl

none-pays : (notes : Notes) (c : LatencyCertificate) (work : Option Plan) (a : ℕ) (e : Enabled) (has credit : ℕ) (way : Way) → has < credit → pays notes c work a e has credit way ≡ false
none-pays notes c work a e has credit way h = rw (short (shut_states work (words_at notes a) e (way_states way) + credit) has (omega (arith, h))) refl

-- a credit above all that there is to spend pays for none
pub none-pays-from : (notes : Notes) (c : LatencyCertificate) (work : Option Plan) (a : ℕ) (ways : List Way) (e : Enabled) → 0 < length ways → shut_at c a e + price_at notes c a < credit_at notes c a → pays_from notes c work a ways e ≡ false
none-pays-from notes c work a [] e some h = absurd (omega (arith, some))
none-pays-from notes c work a (way ∷ more) e some h = rw (none-pays notes c work a e (shut_at c a e + price_at notes c a) (credit_at notes c a) way h) refl

-- an address with a way on, whose ways hand on what follows
pub hands-on-then : (notes : Notes) (c : LatencyCertificate) (work : Option Plan) (a : ℕ) (before : EnabledSet) (ways : List Way) (found : Bool) → 0 < length ways → list_all (hands_on notes c a) ways ≡ true
    → found ≡ list_all (λ e. implies (is_in before e) (pays_from notes c work a ways e)) EACH → found ≡ pays_all notes c work a before (Some ways)
hands-on-then notes c work a before [] found some hands is = absurd (omega (arith, some))
hands-on-then notes c work a before (way ∷ more) found some hands is = is ∙ sym (ap (λ b. b && list_all (λ e. implies (is_in before e) (pays_from notes c work a (way ∷ more) e)) EACH) hands)

-- what holds of each address of the ROM, and where a certificate has nothing, holds of each
in-rom-or-not : (P : ℕ → Type 0) (c : LatencyCertificate) → ((a : ℕ) → image_start ≤ a → a < rom_end → P a) → ((a : ℕ) → enabled_at c.requests a ≡ nothing → P a) → (a : ℕ) → P a
in-rom-or-not P c inside outside a = by (nat_lt a image_start) (nat_lt a rom_end) refl refl
  where
    by : (low high : Bool) → nat_lt a image_start ≡ low → nat_lt a rom_end ≡ high → P a
    by true high l h = outside a (rw l refl)
    by false false l h = outside a (rw (l, h) refl)
    by false true l h = inside a (grind (arith, common_steps)) (grind (arith, common_steps))

pub sound-everywhere : (image : List ℕ) (notes : Notes) (from : ℕ) (c : LatencyCertificate) → ((a : ℕ) → image_start ≤ a → a < rom_end → is_sound_at image notes from c a ≡ true) → (a : ℕ) → is_sound_at image notes from c a ≡ true
sound-everywhere image notes from c h =
    in-rom-or-not (λ a. is_sound_at image notes from c a ≡ true) c h
    (λ a none. let empty : ((enabled_at c.requests a).before.bits == 0) ≡ true = ap (λ (x : EnabledAt). x.before.bits == 0) none in rw empty refl)

-- nothing is asked of what is in no set
asks-nothing : (asks most : Enabled → Bool) → list_all (λ e. implies (is_in no_set e && asks e) (most e)) EACH ≡ true
asks-nothing asks most = refl

or-true : (b : Bool) → (b || true) ≡ true
or-true true = refl
or-true false = refl

pub most-everywhere : (image : List ℕ) (notes : Notes) (from : ℕ) (c : LatencyCertificate) (most : ℕ) → ((a : ℕ) → image_start ≤ a → a < rom_end → is_most_at image notes from c most a ≡ true) → (a : ℕ) → is_most_at image notes from c most a ≡ true
most-everywhere image notes from c most h =
    in-rom-or-not (λ a. is_most_at image notes from c most a ≡ true) c h
    (λ a none.
    let empty : list_all (λ e. implies (is_in (enabled_at c.requests a).before e && asks_at (work_at image a) e) (is_most notes c most a e && has_word notes c most (work_at image a) e)) EACH ≡ true =
    ap (λ (x : EnabledAt). list_all (λ e. implies (is_in x.before e && asks_at (work_at image a) e) (is_most notes c most a e && has_word notes c most (work_at image a) e)) EACH) none ∙ asks-nothing (λ e. asks_at (work_at image a) e) (λ e. is_most notes c most a e && has_word notes c most (work_at image a) e) in
    rw empty (or-true (is_past notes from a)))

-- what holds of each address below one, and there, holds of each up to it
pub one-more : (P : ℕ → Type 0) (n : ℕ) → ((a : ℕ) → image_start ≤ a → a < n → P a) → P n → (a : ℕ) → image_start ≤ a → a < n + 1 → P a
one-more P n before here a low less = elim (cases_lt a n) [
  | inl under ↦ before a low under
  | inr over ↦ let same : n ≡ a = omega (arith, less, over) in subst P same here
]

-- what a value says that is there
pub if-some : {A : Type 0} (P : Type 0) (o : Option A) → is_none o ≡ false → IfSome o (λ a. P) → P
if-some P (Some a) there h = h
if-some P None there h = absurd (cc there)

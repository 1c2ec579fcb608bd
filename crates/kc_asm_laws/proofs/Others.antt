-- Codes that are about no name, and tests of codes.
use Rattle.std.proofs.Common.{◌≡◌, ℕ, Bool, true, false, ◌||◌, cond, List, [], ◌∷◌, Option, Some, None, refl}
use Rattle.std.specs.Prelude.{not, is_some}
use Rattle.std.specs.List.{list_all}
use Rattle.std.specs.Option.{option_or, option_to_list}
use Rattle.std.proofs.lemmas.Bool.{and_parts, and_from}
use Rattle.kc_source_laws.proofs.Tests.{Holds}
use Rattle.kc_asm_laws.specs.Symbols.{is_about_a_name}

abbrev pub is_other : ℕ → Bool
is_other code = not (is_about_a_name code)

pub not_both : (b : Bool) → not b ≡ true → b ≡ true → ⊥
not_both true h e = cc
not_both false h e = cc

-- ---- tests that follow from others

pub all_weaker : {A : Type 0} (p q : A → Bool) (xs : List A) → ((x : A) → p x ≡ true → q x ≡ true) → list_all p xs ≡ true → list_all q xs ≡ true
all_weaker p q [] each h = refl
all_weaker p q (x ∷ xs) each h =
    let both : (p x ≡ true) × (list_all p xs ≡ true) = and_parts (p x) (list_all p xs) h in
    and_from (q x) (list_all q xs) (each x both.0) (all_weaker p q xs each both.1)

pub holds_weaker : {A : Type 0} (p q : A → Bool) (o : Option A) → ((x : A) → p x ≡ true → q x ≡ true) → Holds p o → Holds q o
holds_weaker p q None each h = tt
holds_weaker p q (Some x) each h = each x h

pub holds_where : {A : Type 0} (p : A → Bool) (o : Option A) → ((x : A) → o ≡ Some x → p x ≡ true) → Holds p o
holds_where p None each = tt
holds_where p (Some x) each = each x refl

pub option_holds : {A : Type 0} (p : A → Bool) (o : Option A) → Holds p o → list_all p (option_to_list o) ≡ true
option_holds p None h = refl
option_holds p (Some x) h = and_from (p x) true h refl

pub or_more : (a x y : Bool) → (x ≡ true → y ≡ true) → (a || x) ≡ true → (a || y) ≡ true
or_more true x y each h = refl
or_more false x y each h = each h

-- ---- a first name

pub or_first : {A : Type 0} (a b : Option A) → is_some a ≡ true → is_some (option_or a b) ≡ true
or_first None b h = absurd (cc h)
or_first (Some n) b h = refl

pub or_second : {A : Type 0} (a b : Option A) → is_some b ≡ true → is_some (option_or a b) ≡ true
or_second None b h = h
or_second (Some n) b h = refl

pub cond_first : {A : Type 0} (b : Bool) (x : A) (o : Option A) → b ≡ true → is_some (cond b (Some x) o) ≡ true
cond_first true x o h = refl
cond_first false x o h = absurd (cc h)

pub cond_second : {A : Type 0} (b : Bool) (x : A) (o : Option A) → is_some o ≡ true → is_some (cond b (Some x) o) ≡ true
cond_second true x o h = refl
cond_second false x o h = h

pub some_of : {A : Type 0} (o : Option A) → is_some o ≡ true → (x : A) × (o ≡ Some x)
some_of None h = absurd (cc h)
some_of (Some x) h = (x, refl)

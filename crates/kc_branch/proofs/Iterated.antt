-- Passes that are left, and passes that change nothing.
use Rattle.std.proofs.Common.{◌≡◌, ℕ, zero, suc, ◌+◌, ◌-◌, ◌<◌, ◌≤◌, ap, ◌∙◌, sym, refl, arith}
use Rattle.std.specs.Fn.{iterate}

pub one_fewer : {A : Type 0} (h : A → A) (x next y : A) (i n : ℕ) → next ≡ h x → i < n → iterate h (n - i) x ≡ y → iterate h (n - (i + 1)) next ≡ y
one_fewer h x next y i n is lt e =
    let more : n - i ≡ suc (n - (i + 1)) = omega arith in
    ap (iterate h (n - (i + 1))) is ∙ (ap (λ k. iterate h k x) (sym more) ∙ e)

pub still : {A : Type 0} (h : A → A) (x : A) (n : ℕ) → h x ≡ x → iterate h n x ≡ x
still h x zero e = refl
still h x (suc n) e = ap (iterate h n) e ∙ still h x n e

pub stays : {A : Type 0} (h : A → A) (x y : A) (n : ℕ) → h x ≡ x → iterate h n x ≡ y → x ≡ y
stays h x y n same e = sym (still h x n same) ∙ e

pub none_left : {A : Type 0} (h : A → A) (x y : A) (i n : ℕ) → n ≤ i → iterate h (n - i) x ≡ y → x ≡ y
none_left h x y i n le e =
    let none : n - i ≡ zero = omega arith in
    ap (λ k. iterate h k x) (sym none) ∙ e

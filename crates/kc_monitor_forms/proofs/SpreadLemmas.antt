-- The least and the greatest of what is seen, in any order.
use Rattle.std.proofs.Common.{◌≡◌, ℕ, ◌<◌, ◌≤◌, refl, ap, inl, inr, arith}
use Rattle.std.proofs.lemmas.Bool.{cases_lt, lt-ltb, le-ltb}
use Rattle.kc_monitor_forms.specs.declared.obligation.Offset.{Offset}
use Rattle.kc_monitor_forms.specs.declared.obligation.Offset.TheVariants.{Minus, Plus}
use Rattle.kc_monitor_forms.specs.Obligations.{least_of, most_of}

-- ---- what is seen as it is

pub least_plus : (a b : ℕ) → b ≤ a → least_of (Plus a) (Plus b) ≡ Plus b
least_plus a b le = elim (cases_lt b a) [
  | inl less ↦ rw (lt-ltb b a less) refl
  | inr same ↦ rw (le-ltb b a same) (ap (λ n. Plus n) (omega arith))
]

pub most_plus : (a b : ℕ) → b ≤ a → most_of (Plus a) (Plus b) ≡ Plus a
most_plus a b le = rw (le-ltb a b le) refl

-- ---- what is not beyond it changes nothing

pub least_later : (x : Offset) (p d : ℕ) → d ≤ p → least_of (least_of x (Plus p)) (Plus d) ≡ least_of x (Plus d)
least_later (Minus m) p d le = refl
least_later (Plus m) p d le = elim (cases_lt p m) [
  | inl pm ↦ let dm : d < m = omega arith in rw (lt-ltb p m pm, lt-ltb d m dm) (least_plus p d le)
  | inr mp ↦ rw (le-ltb p m mp) refl
]

pub most_later : (x : Offset) (q d : ℕ) → d ≤ q → most_of (most_of x (Plus q)) (Plus d) ≡ most_of x (Plus q)
most_later (Minus m) q d le = most_plus q d le
most_later (Plus m) q d le = elim (cases_lt m q) [
  | inl mq ↦ rw (lt-ltb m q mq) (most_plus q d le)
  | inr qm ↦ let dm : d ≤ m = omega arith in rw (le-ltb m q qm) (most_plus m d dm)
]

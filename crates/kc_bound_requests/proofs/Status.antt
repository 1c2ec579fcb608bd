-- I and PSE in the high byte of the PSW.
use Rattle.std.proofs.Common.{◌≡◌, ℕ, Bool, true, false, ◌+◌, ◌*◌, ◌/◌, ◌%◌, ◌==◌, refl, ap, arith}
use Rattle.kc_alu.specs.declared.flags.Flags.{Flags}
use Rattle.kc_exec_spec.specs.Status.{has, weighed, with_bit, with_flags}

-- I and PSE are as they were
pub record Keeps (old new : ℕ) : Type 0 where
  pub interrupts : has 2 new ≡ has 2 old
  pub server : has 4 new ≡ has 4 old

pub as-it-was : (psw : ℕ) → Keeps psw psw
as-it-was psw = record { interrupts = refl; server = refl }

by-bits : (old new : ℕ) → new / 2 % 2 ≡ old / 2 % 2 → new / 4 % 2 ≡ old / 4 % 2 → Keeps old new
by-bits old new i p = record { interrupts = ap (λ k. k == 1) i; server = ap (λ k. k == 1) p }

-- the bit of a weight is at most that
abbrev IsBit : ℕ → ℕ → Type 0
IsBit w n = (k : ℕ) × (n ≡ w * k)

bit-of : (w : ℕ) (b : Bool) → IsBit w (weighed w b)
bit-of w true = (1, omega arith)
bit-of w false = (0, omega arith)

is-low : (b : Bool) → weighed 1 b % 2 ≡ weighed 1 b
is-low true = refl
is-low false = refl

flags-sum : (psw z n v t c s : ℕ) → s % 2 ≡ s → Keeps psw (128 * z + 64 * n + 32 * v + 16 * t + 8 * c + psw / 2 % 4 * 2 + s)
flags-sum psw z n v t c s low = by-bits psw _ (omega (arith, low)) (omega (arith, low))

weight-is : (w : ℕ) (b : Bool) → weighed w b ≡ w * (weighed 1 b)
weight-is w true = omega arith
weight-is w false = omega arith

pub flags-keep : (psw : ℕ) (f : Flags) → Keeps psw (with_flags psw f)
unfolding with_flags
flags-keep psw f =
    rw (weight-is 128 f.z, weight-is 64 f.n, weight-is 32 f.v, weight-is 16 f.vt, weight-is 8 f.c)
    (flags-sum psw (weighed 1 f.z) (weighed 1 f.n) (weighed 1 f.v) (weighed 1 f.vt) (weighed 1 f.c) (weighed 1 f.st) (is-low f.st))

pub carry-keeps : (psw : ℕ) (set : Bool) → Keeps psw (with_bit 8 set psw)
carry-keeps psw true = by-bits psw _ (omega arith) (omega arith)
carry-keeps psw false = by-bits psw _ (omega arith) (omega arith)

pub overflow-keeps : (psw : ℕ) → Keeps psw (with_bit 16 false psw)
overflow-keeps psw = by-bits psw _ (omega arith) (omega arith)

-- one of them is set to a value, and the other is as it was
pub record Sets (weight other : ℕ) (set : Bool) (old new : ℕ) : Type 0 where
  pub is : has weight new ≡ set
  pub kept : has other new ≡ has other old

pub interrupts-set : (psw : ℕ) (set : Bool) → Sets 2 4 set psw (with_bit 2 set psw)
interrupts-set psw true = record {
  is = (let e : (psw / 4 * 4 + 2 + psw % 2) / 2 % 2 ≡ 1 = omega arith in ap (λ k. k == 1) e);
  kept = (let e : (psw / 4 * 4 + 2 + psw % 2) / 4 % 2 ≡ psw / 4 % 2 = omega arith in ap (λ k. k == 1) e);
}
interrupts-set psw false = record {
  is = (let e : (psw / 4 * 4 + 0 + psw % 2) / 2 % 2 ≡ 0 = omega arith in ap (λ k. k == 1) e);
  kept = (let e : (psw / 4 * 4 + 0 + psw % 2) / 4 % 2 ≡ psw / 4 % 2 = omega arith in ap (λ k. k == 1) e);
}

pub server-set : (psw : ℕ) (set : Bool) → Sets 4 2 set psw (with_bit 4 set psw)
server-set psw true = record {
  is = (let e : (psw / 8 * 8 + 4 + psw % 4) / 4 % 2 ≡ 1 = omega arith in ap (λ k. k == 1) e);
  kept = (let e : (psw / 8 * 8 + 4 + psw % 4) / 2 % 2 ≡ psw / 2 % 2 = omega arith in ap (λ k. k == 1) e);
}
server-set psw false = record {
  is = (let e : (psw / 8 * 8 + 0 + psw % 4) / 4 % 2 ≡ 0 = omega arith in ap (λ k. k == 1) e);
  kept = (let e : (psw / 8 * 8 + 0 + psw % 4) / 2 % 2 ≡ psw / 2 % 2 = omega arith in ap (λ k. k == 1) e);
}

-- Gaps by the place's rest alone; where pieces end at most.
use Rattle.std.proofs.Common.{◌≡◌, ℕ, zero, suc, ◌-◌, ◌%◌, ◌<◌, ◌≤◌, List, [], ◌∷◌, ◌++◌, get_or, ap, arith}
use Rattle.std.proofs.Math.ListN.{set}
use Rattle.std.proofs.Math.Nat.{mod-mod}
use Rattle.kc_asm_emit.specs.Alignment.{gap}

pub gap_again : (place align : ℕ) → 0 < align → gap (place % align) align ≡ gap place align
gap_again place align h = ap (λ r. (align - r) % align) (mod-mod place align)

pub gap_of_none : (place : ℕ) → gap place 0 ≡ 0
gap_of_none place = omega arith

pub set_bound : (ends : List ℕ) (piece after most k : ℕ) → after ≤ most → ((j : ℕ) → get_or ends j 0 ≤ most) → get_or (set ends piece after) k 0 ≤ most
set_bound [] piece after most k le h = omega arith
set_bound (e ∷ es) zero after most zero le h = le
set_bound (e ∷ es) zero after most (suc k) le h = h (suc k)
set_bound (e ∷ es) (suc p) after most zero le h = h zero
set_bound (e ∷ es) (suc p) after most (suc k) le h = set_bound es p after most k le (λ j. h (suc j))

pub push_bound : (ends : List ℕ) (address most k : ℕ) → address ≤ most → ((j : ℕ) → get_or ends j 0 ≤ most) → get_or (ends ++ address ∷ []) k 0 ≤ most
push_bound [] address most zero le h = le
push_bound [] address most (suc k) le h = omega arith
push_bound (e ∷ es) address most zero le h = h zero
push_bound (e ∷ es) address most (suc k) le h = push_bound es address most k le (λ j. h (suc j))

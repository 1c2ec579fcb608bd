-- The least number that passes a test.
use Rattle.std.proofs.Common.{◌≡◌, ℕ, zero, suc, ◌+◌, ◌-◌, ◌<◌, Bool, true, false, refl, ◌∙◌, Some, None, arith}
use Rattle.std.specs.Prelude.{List, Option, if◌then◌else◌}
use Rattle.kc_isa.specs.Names.{Shown, row_at}
use Rattle.kc_lex.specs.Instructions.{least, is_called, has_name, first_opcode}
use Rattle.kc_asm_encode.specs.declared.argument.Argument.{Argument}
use Rattle.kc_asm_encode.specs.Opcodes.{is_row_for, is_opcode_for, opcode_of}

least_more : (p : ℕ → Bool) (m k : ℕ) → p k ≡ false → least p (suc m) k ≡ least p m (k + 1)
unfolding least
least_more p m k e = rw e refl

least_here : (p : ℕ → Bool) (m k : ℕ) → p k ≡ true → least p (suc m) k ≡ Some k
unfolding least
least_here p m k e = rw e refl

pub least_step : (p : ℕ → Bool) (n k : ℕ) → k < n → p k ≡ false → least p (n - k) k ≡ least p (n - (k + 1)) (k + 1)
least_step p n k h e = let f : n - k ≡ suc (n - (k + 1)) = omega arith in rw f (least_more p (n - (k + 1)) k e)

pub least_found : (p : ℕ → Bool) (n k : ℕ) → k < n → p k ≡ true → least p (n - k) k ≡ Some k
least_found p n k h e = let f : n - k ≡ suc (n - (k + 1)) = omega arith in rw f (least_here p (n - (k + 1)) k e)

pub least_none : (p : ℕ → Bool) (n k : ℕ) → n ≡ k → least p (n - k) k ≡ None
unfolding least
least_none p n k h = let f : n - k ≡ 0 = omega arith in rw f refl

-- ---- from the first opcode of the mnemonic on

abbrev IsWithin : (ℕ → Bool) → (ℕ → Bool) → Type 0
IsWithin p q = (j : ℕ) → q j ≡ false → p j ≡ false

from_step : (p q : ℕ → Bool) (n from k : ℕ) (t : Bool) → q from ≡ t → IsWithin p q → (if t then Some from else least q n (from + 1)) ≡ Some k →
    (least q n (from + 1) ≡ Some k → least p n (from + 1) ≡ least p ((from + 1) + n - k) k) → least p (suc n) from ≡ least p (from + suc n - k) k
from_step p q n from k true e w g r = let f : from ≡ k = cc g in let c : from + suc n - k ≡ suc n = omega arith in rw (c, f) refl
from_step p q n from k false e w g r = let c : from + suc n - k ≡ (from + 1) + n - k = omega arith in rw c (least_more p n from (w from e) ∙ r g)

from_first : (p q : ℕ → Bool) (n from k : ℕ) → IsWithin p q → least q n from ≡ Some k → least p n from ≡ least p (from + n - k) k
unfolding least
from_first p q zero from k w h = absurd (cc h)
from_first p q (suc n) from k w h = from_step p q n from k (q from) refl w h (λ g. from_first p q n (from + 1) k w g)

none_step : (p q : ℕ → Bool) (n from : ℕ) (t : Bool) → q from ≡ t → IsWithin p q → (if t then Some from else least q n (from + 1)) ≡ None →
    (least q n (from + 1) ≡ None → least p n (from + 1) ≡ None) → least p (suc n) from ≡ None
none_step p q n from true e w g r = absurd (cc g)
none_step p q n from false e w g r = least_more p n from (w from e) ∙ r g

none_first : (p q : ℕ → Bool) (n from : ℕ) → IsWithin p q → least q n from ≡ None → least p n from ≡ None
unfolding least
none_first p q zero from w h = refl
none_first p q (suc n) from w h = none_step p q n from (q from) refl w h (λ g. none_first p q n (from + 1) w g)

not_row : (word : List ℕ) (args : List Argument) (opcode : ℕ) (row : Option Shown) → is_called word row ≡ false → (elim row as (λ _. Bool) [ None ↦ false | Some r ↦ is_row_for word args opcode r ]) ≡ false
not_row word args opcode None h = refl
not_row word args opcode (Some r) h = rw h refl

within : (word : List ℕ) (args : List Argument) (signed : Bool) → IsWithin (is_opcode_for word args signed) (has_name word signed)
within word args signed j h = not_row word args j (row_at j signed) h

pub opcode_from : (word : List ℕ) (args : List Argument) (signed : Bool) (k : ℕ) → first_opcode word signed ≡ Some k → opcode_of word args signed ≡ least (is_opcode_for word args signed) (256 - k) k
unfolding opcode_of first_opcode
opcode_from word args signed k h = from_first (is_opcode_for word args signed) (has_name word signed) 256 0 k (within word args signed) h

pub opcode_none : (word : List ℕ) (args : List Argument) (signed : Bool) → first_opcode word signed ≡ None → opcode_of word args signed ≡ None
unfolding opcode_of first_opcode
opcode_none word args signed h = none_first (is_opcode_for word args signed) (has_name word signed) 256 0 (within word args signed) h

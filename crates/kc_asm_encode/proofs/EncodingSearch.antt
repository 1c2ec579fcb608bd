-- The least number that passes a test.
use Rattle.std.proofs.Common.{◌≡◌, ◌≢◌, ℕ, zero, suc, ◌+◌, ◌<◌, ◌≤◌, Bool, true, false, refl, sym, subst, ◌∙◌, Some, arith}
use Rattle.kc_lex.specs.Instructions.{least}
use Rattle.kc_lex.proofs.IndexLemmas.{least-passes}
use Rattle.kc_asm_encode.specs.Opcodes.{opcode_of, is_opcode_for}
use Rattle.kc_asm_encode.specs.declared.argument.Argument.{Argument}
use Rattle.std.specs.Prelude.{List, if◌then◌else◌}

pub opcode-passes : (word : List ℕ) (args : List Argument) (signed : Bool) (k : ℕ) → opcode_of word args signed ≡ Some k → (is_opcode_for word args signed k ≡ true) × (k < 256)
unfolding opcode_of
opcode-passes word args signed k h = let r : (is_opcode_for word args signed k ≡ true) × (k < 0 + 256) = least-passes (is_opcode_for word args signed) 256 0 k h in (r.0, omega arith)

finds_step : (p : ℕ → Bool) (n from k : ℕ) (t : Bool) → p from ≡ t → p k ≡ true → (from ≢ k → (j : ℕ) × (least p n (from + 1) ≡ Some j)) →
    (j : ℕ) × ((if t then Some from else least p n (from + 1)) ≡ Some j)
finds_step p n from k true e h r = (from, refl)
finds_step p n from k false e h r = r (λ (q : from ≡ k). (let f : false ≡ true = sym e ∙ (subst (λ (m : ℕ). p m ≡ true) (sym q) h) in absurd (cc f)))

-- what passes is found, or something before it
pub least-finds : (p : ℕ → Bool) (n from k : ℕ) → from ≤ k → k < from + n → p k ≡ true → (j : ℕ) × (least p n from ≡ Some j)
unfolding least
least-finds p zero from k a b h = absurd (omega arith)
least-finds p (suc n) from k a b h = finds_step p n from k (p from) refl h (λ d. least-finds p n (from + 1) k (omega arith) (omega arith) h)

pub opcode-finds : (word : List ℕ) (args : List Argument) (signed : Bool) (k : ℕ) → k < 256 → is_opcode_for word args signed k ≡ true → (j : ℕ) × (opcode_of word args signed ≡ Some j)
unfolding opcode_of
opcode-finds word args signed k a h = least-finds (is_opcode_for word args signed) 256 0 k (omega arith) (omega arith) h

-- tests that agree find alike
pub least-alike : (p q : ℕ → Bool) (n from : ℕ) → ((k : ℕ) → p k ≡ q k) → least p n from ≡ least q n from
unfolding least
least-alike p q zero from h = refl
least-alike p q (suc n) from h = rw (h from) (rw (least-alike p q n (from + 1) h) refl)

pub opcode-alike : (word : List ℕ) (args brgs : List Argument) (signed : Bool) → ((k : ℕ) → is_opcode_for word args signed k ≡ is_opcode_for word brgs signed k) → opcode_of word args signed ≡ opcode_of word brgs signed
unfolding opcode_of
opcode-alike word args brgs signed h = least-alike (is_opcode_for word args signed) (is_opcode_for word brgs signed) 256 0 h

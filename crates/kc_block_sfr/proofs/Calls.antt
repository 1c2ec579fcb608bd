-- How many calls an access may make, by the register that it names.
use Rattle.std.proofs.Common.{◌≡◌, ℕ, ◌≤◌, Bool, true, false, ◌||◌, refl, ap, is_some, List, Some, None, arith}
use Rattle.std.proofs.lemmas.Bool.{false≢true}
use Rattle.std.specs.Prelude.{not}
use Rattle.std.specs.List.{list_all}
use Rattle.kc_block_spec.specs.declared.registers.Window.{Window}
use Rattle.kc_block_spec.specs.declared.registers.Window.TheVariants.{Window0, Window1, Window15}
use Rattle.kc_block_spec.specs.declared.registers.WritableByte.{WritableByte}
use Rattle.kc_block_spec.specs.declared.registers.ReadableWord.{ReadableWord}
use Rattle.kc_block_spec.specs.declared.registers.WritableWord.{WritableWord}
use Rattle.kc_block_spec.specs.Registers.{registers, bytes_read, bytes_read_everywhere, bytes_written, bytes_written_everywhere, words_read, words_written, row_at}
use Rattle.kc_block_spec.proofs.Searches.{not_read_everywhere, not_written_everywhere}
use Rattle.kc_block_spec.proofs.Tables.{all_when, row_law}
use Rattle.kc_block_sfr.specs.Costs.{calls_unless, read_calls, write_calls, is_plain, named_calls}

-- what the window does not name is no register of every window
pub further_read : (w : Window) (addr : ℕ) → row_at (bytes_read w) addr ≡ None → read_calls addr ≡ 4
further_read w addr none = ap (λ row. calls_unless (is_some row)) (not_read_everywhere w addr none)

pub further_written : (w : Window) (addr : ℕ) → row_at (bytes_written w) addr ≡ None → write_calls addr ≡ 4
further_written w addr none = ap (λ row. calls_unless (is_some row)) (not_written_everywhere w addr none)

-- no unit holds a register of every window
plain_everywhere : (w : Window) → list_all (λ row. not (is_some (row_at bytes_written_everywhere row.0)) || is_plain row.1) (bytes_written w) ≡ true
unfolding bytes_written bytes_written_everywhere registers
plain_everywhere Window0 = refl
plain_everywhere Window1 = refl
plain_everywhere Window15 = refl

pub named_within : (w : Window) (addr : ℕ) (r : WritableByte) → row_at (bytes_written w) addr ≡ Some r → named_calls r ≤ write_calls addr
named_within w addr r row =
    by (is_some (row_at bytes_written_everywhere addr)) (is_plain r)
    (row_law (λ a r. is_some (row_at bytes_written_everywhere a) ≡ true → is_plain r ≡ true) (bytes_written w) addr r
    (all_when (λ row. is_some (row_at bytes_written_everywhere row.0)) (λ row. is_plain row.1) (λ row. is_plain row.1 ≡ true) (bytes_written w) (plain_everywhere w) (λ row plain. plain)) row)
  where
    by : (everywhere plain : Bool) → (everywhere ≡ true → plain ≡ true) → calls_unless plain ≤ calls_unless everywhere
    by everywhere true is = omega arith
    by false false is = omega arith
    by true false is = absurd (cc (is refl))

-- a word register stands at no address that every window has
word_is_own : {R : Type 0} {B : Type 0} (words : List (ℕ × R)) (bytes : List (ℕ × B)) (addr : ℕ) (r : R) →
    list_all (λ row. not (is_some (row_at bytes row.0)) || false) words ≡ true → row_at words addr ≡ Some r → calls_unless (is_some (row_at bytes addr)) ≡ 4
word_is_own words bytes addr r apart row =
    by (is_some (row_at bytes addr))
    (row_law (λ a r. is_some (row_at bytes a) ≡ true → ⊥) words addr r
    (all_when (λ row. is_some (row_at bytes row.0)) (λ row. false) (λ row. ⊥) words apart (λ row never. false≢true never)) row)
  where
    by : (everywhere : Bool) → (everywhere ≡ true → ⊥) → calls_unless everywhere ≡ 4
    by true never = absurd (never refl)
    by false never = refl

words_read_apart : (w : Window) → list_all (λ row. not (is_some (row_at bytes_read_everywhere row.0)) || false) (words_read w) ≡ true
unfolding words_read bytes_read_everywhere registers
words_read_apart Window0 = refl
words_read_apart Window1 = refl
words_read_apart Window15 = refl

words_written_apart : (w : Window) → list_all (λ row. not (is_some (row_at bytes_written_everywhere row.0)) || false) (words_written w) ≡ true
unfolding words_written bytes_written_everywhere registers
words_written_apart Window0 = refl
words_written_apart Window1 = refl
words_written_apart Window15 = refl

pub word_read : (w : Window) (addr : ℕ) (r : ReadableWord) → row_at (words_read w) addr ≡ Some r → read_calls addr ≡ 4
word_read w addr r row = word_is_own (words_read w) bytes_read_everywhere addr r (words_read_apart w) row

pub word_written : (w : Window) (addr : ℕ) (r : WritableWord) → row_at (words_written w) addr ≡ Some r → write_calls addr ≡ 4
word_written w addr r row = word_is_own (words_written w) bytes_written_everywhere addr r (words_written_apart w) row

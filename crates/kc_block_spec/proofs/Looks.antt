-- What a look shows is what a read would answer.
use Rattle.std.proofs.Common.{◌≡◌, ℕ, zero, suc, ◌-◌, ◌*◌, ◌%◌, ◌==◌, ◌^◌, ◌<◌, Bool, true, false, ◌&&◌, ◌||◌, refl, sym, ◌∙◌, ap, arith, lit<, bit_and, bit_or, min, max, Option, Some, None, Result, Ok, Err}
use Rattle.std.specs.Prelude.{is_some, is_none, if◌then◌else◌}
use Rattle.std.specs.Int.{bit_at}
use Rattle.std.specs.Option.{unwrap_or}
use Rattle.std.proofs.lemmas.Nat.Bits.{bit_at_and, bit_at_or, same_from_bits_below}
use lib.Bits.{or_lt, and_lt}
use lib.Pow.{pow_pos}
use Rattle.std.proofs.Math.Nat.{pow-suc}
use Rattle.kc_base.specs.Bits.{bit, weight}
use Rattle.kc_base.specs.Levels.{is_high}
use Rattle.kc_base.specs.Pins.{pin_count}
use Rattle.kc_base.specs.declared.types.Kind.{Kind}
use Rattle.kc_base.specs.declared.types.Kind.TheVariants.{OddWord, NoRegister, ByteAccess}
use Rattle.kc_stim.specs.Drives.{wire_to, level_before}
use Rattle.kc_stim.specs.Proper.{is_driven}
use Rattle.kc_base.specs.Pins.{is_input}
use Rattle.kc_block_spec.specs.declared.registers.ReadableByte.{ReadableByte}
use Rattle.kc_block_spec.specs.declared.registers.ReadableWord.{ReadableWord}
use Rattle.kc_block_spec.specs.Levels.{mask_of, follows, stimulated, stimulated_before}
use Rattle.kc_block_spec.specs.Registers.{window_number, bytes_read, words_read, row_at}
use Rattle.kc_block_spec.specs.Reading.{byte_value, word_value}
use Rattle.kc_block_spec.specs.Accesses.{or_no_register, byte_read_as, word_read_as}
use Rattle.kc_block_spec.specs.Looking.{wired_inputs, with_levels, half_at, look_byte, look_word, looked}
use Rattle.kc_block_spec.specs.RegisterLaws.{LooksAreReads, LevelsShownStay}
use Rattle.kc_block_spec.proofs.Masks.{mask_bit, mask_same}

-- masks of tests joined
pub mask-lt : (test : ℕ → Bool) (n : ℕ) → mask_of test n < 2 ^ n
unfolding mask_of
mask-lt test zero = lit< tt
mask-lt test (suc n) =
    let low : mask_of test n < 2 ^ n = mask-lt test n in
    let one : 2 ^ suc n ≡ 2 ^ n * 2 = pow-suc 2 n in
    let wide : mask_of test n < 2 ^ suc n = omega arith in
    or_lt (suc n) (mask_of test n) (weight (test n) (2 ^ n)) wide (top (test n) one)
  where
    top : (b : Bool) → 2 ^ suc n ≡ 2 ^ n * 2 → weight b (2 ^ n) < 2 ^ suc n
    top true one = let some : 0 < 2 ^ n = pow_pos n in omega arith
    top false one = let some : 0 < 2 ^ n = pow_pos n in omega arith

both : (a b : Bool) → min (weight a 1) (weight b 1) ≡ weight (a && b) 1
both true true = refl
both true false = refl
both false b = omega arith

either : (a b : Bool) → max (weight a 1) (weight b 1) ≡ weight (a || b) 1
either true true = refl
either true false = refl
either false b = omega arith

pub mask_and : (p q : ℕ → Bool) (n : ℕ) → bit_and (mask_of p n) (mask_of q n) ≡ mask_of (λ k. p k && q k) n
mask_and p q n =
    same_from_bits_below n _ _ (and_lt n (mask_of p n) (mask_of q n) (mask-lt p n) (mask-lt q n)) (mask-lt (λ k. p k && q k) n) (λ k lt.
    let a : bit_at (mask_of p n) k ≡ weight (p k) 1 = mask_bit p n k lt in
    let b : bit_at (mask_of q n) k ≡ weight (q k) 1 = mask_bit q n k lt in
    bit_at_and (mask_of p n) (mask_of q n) k ∙ rw (a, b) (both (p k) (q k)) ∙ sym (mask_bit (λ k. p k && q k) n k lt))

pub mask_or : (p q : ℕ → Bool) (n : ℕ) → bit_or (mask_of p n) (mask_of q n) ≡ mask_of (λ k. p k || q k) n
mask_or p q n =
    same_from_bits_below n _ _ (or_lt n (mask_of p n) (mask_of q n) (mask-lt p n) (mask-lt q n)) (mask-lt (λ k. p k || q k) n) (λ k lt.
    let a : bit_at (mask_of p n) k ≡ weight (p k) 1 = mask_bit p n k lt in
    let b : bit_at (mask_of q n) k ≡ weight (q k) 1 = mask_bit q n k lt in
    bit_at_or (mask_of p n) (mask_of q n) k ∙ rw (a, b) (either (p k) (q k)) ∙ sym (mask_bit (λ k. p k || q k) n k lt))

-- of the levels of the state before, those of the wired inputs are what the wires gave
wires_alone : (input high : Bool) (wire : Option ℕ) (outs : ℕ) →
    (((input && is_none wire) && high) || follows wire outs) && is_some wire ≡ follows wire outs
wires_alone true true None outs = refl
wires_alone true false None outs = refl
wires_alone false high None outs = refl
wires_alone true high (Some output) outs = by (bit outs output)
  where
    by : (b : Bool) → b && true ≡ b
    by true = refl
    by false = refl
wires_alone false high (Some output) outs = by (bit outs output)
  where
    by : (b : Bool) → b && true ≡ b
    by true = refl
    by false = refl

pub levels_shown_stay : {X : Type 0} → LevelsShownStay X
levels_shown_stay t outs u levels still =
    let before = λ (pin : ℕ). is_driven u.drives pin && is_high (level_before u.drives.stimuli pin t) in
    let along = λ (pin : ℕ). follows (wire_to u.drives.wires pin) outs in
    let with_wire = λ (pin : ℕ). is_some (wire_to u.drives.wires pin) in
    let same : stimulated u.drives t ≡ stimulated_before u.drives t =
    mask_same _ _ pin_count (λ pin lt. ap (λ level. is_driven u.drives pin && is_high level) (still pin)) in
    let kept : bit_and (bit_or (mask_of before pin_count) (mask_of along pin_count)) (mask_of with_wire pin_count) ≡ mask_of along pin_count =
    ap (λ m. bit_and m (mask_of with_wire pin_count)) (mask_or before along pin_count)
    ∙ mask_and (λ pin. before pin || along pin) with_wire pin_count
    ∙ mask_same _ _ pin_count (λ pin lt. wires_alone (is_input pin) (is_high (level_before u.drives.stimuli pin t)) (wire_to u.drives.wires pin) outs) in
    ap (λ m. bit_or m (bit_and u.board_registers.levels (wired_inputs u.drives))) same
    ∙ ap (λ m. bit_or (stimulated_before u.drives t) (bit_and m (wired_inputs u.drives))) levels
    ∙ ap (bit_or (stimulated_before u.drives t)) kept
    ∙ sym levels

ok_same : (m n : ℕ) → ◌≡◌ {A = Result ℕ Kind} (Ok m) (Ok n) → m ≡ n
ok_same m n e = cc

answered : (answer : Option ℕ) (n : ℕ) → or_no_register answer ≡ Ok n → unwrap_or answer 0 ≡ n
answered (Some m) n e = ok_same m n e
answered None n e = cc

unanswered : (answer : Option ℕ) → or_no_register answer ≡ Err NoRegister → unwrap_or answer 0 ≡ 0
unanswered (Some m) e = cc
unanswered None e = refl

even_of : (odd : Bool) (r : Result ℕ Kind) (n : ℕ) → (if odd then Err OddWord else r) ≡ Ok n → r ≡ Ok n
even_of true r n e = cc
even_of false r n e = e

never_half : {P : Type 0} (answer : Option ℕ) → or_no_register answer ≡ Err ByteAccess → P
never_half (Some m) e = cc
never_half None e = cc

pub looks_are_reads : {X : Type 0} → LooksAreReads X
looks_are_reads f t w u addr shown =
    let as_is : looked f t w u addr ≡ look_byte f t w u addr (row_at (bytes_read w) addr) =
    ap (λ levels. look_byte f t w (with_levels u levels) addr (row_at (bytes_read w) addr)) shown in
    record {
      byte = λ n e. as_is ∙ byte (row_at (bytes_read w) addr) n e;
      half = λ n e word. as_is ∙ half (row_at (bytes_read w) addr) n e (even_of ((addr - addr % 2) % 2 == 1) (word_read_as f t w u (addr - addr % 2) (row_at (words_read w) (addr - addr % 2))) n word);
      none = λ e. as_is ∙ none (row_at (bytes_read w) addr) e;
    }
  where
    byte : (row : Option ReadableByte) (n : ℕ) → byte_read_as f t w u addr row ≡ Ok n → look_byte f t w u addr row ≡ n
    byte (Some r) n e = ok_same (byte_value u r) n e
    byte None n e = by (row_at (words_read w) (addr - addr % 2)) e
      where
        by : (word : Option ReadableWord) →
            (if is_some word then Err ByteAccess else or_no_register (f.answer (window_number w) addr t u.further)) ≡ Ok n → look_word f t w u addr word ≡ n
        by (Some r) e = cc
        by None e = answered (f.answer (window_number w) addr t u.further) n e

    half : (row : Option ReadableByte) (n : ℕ) → byte_read_as f t w u addr row ≡ Err ByteAccess →
        word_read_as f t w u (addr - addr % 2) (row_at (words_read w) (addr - addr % 2)) ≡ Ok n → look_byte f t w u addr row ≡ half_at addr n
    half (Some r) n e word = cc
    half None n e word = by (row_at (words_read w) (addr - addr % 2)) e word
      where
        by : (row : Option ReadableWord) →
            (if is_some row then Err ByteAccess else or_no_register (f.answer (window_number w) addr t u.further)) ≡ Err ByteAccess →
            word_read_as f t w u (addr - addr % 2) row ≡ Ok n → look_word f t w u addr row ≡ half_at addr n
        by (Some r) e word = ap (half_at addr) (ok_same (word_value t u r) n word)
        by None e word = never_half (f.answer (window_number w) addr t u.further) e

    none : (row : Option ReadableByte) → byte_read_as f t w u addr row ≡ Err NoRegister → look_byte f t w u addr row ≡ 0
    none (Some r) e = cc
    none None e = by (row_at (words_read w) (addr - addr % 2)) e
      where
        by : (word : Option ReadableWord) →
            (if is_some word then Err ByteAccess else or_no_register (f.answer (window_number w) addr t u.further)) ≡ Err NoRegister → look_word f t w u addr word ≡ 0
        by (Some r) e = cc
        by None e = unanswered (f.answer (window_number w) addr t u.further) e

-- What each line of a dump is for a level, for a value and for an event.
use Rattle.std.proofs.Common.{◌≡◌, ℕ, ◌+◌, ◌-◌, ◌*◌, ◌/◌, ◌%◌, ◌<◌, ◌≤◌, Bool, true, false, cond, ◌&&◌, eqb, Option, Some, List, [], ◌∷◌, ◌++◌, refl, sym, ap, ◌∙◌, arith}
use Rattle.std.specs.List.{before_first}
use Rattle.std.specs.Str.{bytes_eq}
use Rattle.std.proofs.lemmas.Bool.{eq-eqb, ne_eqb, eqb-true, eqb-false}
use Rattle.kc_base.specs.Fields.{is_space}
use Rattle.kc_base.specs.declared.types.Level.{Level}
use Rattle.kc_base.specs.declared.types.Level.TheVariants.{Low, High}
use Rattle.kc_base.proofs.Words.{word-before, word-after}
use Rattle.kc_trace.specs.declared.life.Signal.{Signal}
use Rattle.kc_trace.specs.Signals.{same_signal, is_signal}
use Rattle.kc_trace.specs.Text.{level_digit}
use Rattle.kc_vcd.specs.declared.change.Change.{Change}
use Rattle.kc_vcd.specs.declared.change.Change.TheVariants.{Moves, Takes, Happens, Unseen}
use Rattle.kc_vcd.specs.declared.variable.Variable.{Variable}
use Rattle.kc_vcd.specs.declared.variable.Variable.TheVariants.{Wire, Analog}
use Rattle.kc_convert.specs.Samples.{channel_count}
use Rattle.kc_vcd.specs.Variables.{number_of, code_of, signal_number}
use Rattle.kc_vcd.specs.Dump.{digits, significant}
use Rattle.kc_vcd.specs.Reader.{word, digit_level, level_by, value_by, count_by, binary_value}
use Rattle.kc_vcd.specs.Laws.{IsKnown, IsKnownChange}
use Rattle.kc_vcd.proofs.Known.{code_same, code_high, signal_same, signal_apart}
use Rattle.kc_vcd.proofs.Readings.{lines_by, value_text, value_word, Reads}

-- ---- a level

abbrev pub level_effect : Signal → Change → Option Level → Option Level
level_effect signal (Moves other level) a = cond (same_signal signal other) (Some level) a
level_effect signal _ a = a

digit_is : (level : Level) (a : Option Level) → digit_level (level_digit level) a ≡ Some level
digit_is Low a = refl
digit_is High a = refl

stamp_level : (code : ℕ) (ds : List ℕ) (a : Option Level) → level_by code (35 ∷ ds) a ≡ a
stamp_level code [] a = refl
stamp_level code (d ∷ []) a = elim (eqb d code) as (λ b. cond b (digit_level 35 a) a ≡ a) [ true ↦ refl | false ↦ refl ]
stamp_level code (d ∷ e ∷ ds) a = refl

value_level : (code k : ℕ) (xs : List ℕ) (a : Option Level) → level_by code (98 ∷ (xs ++ 32 ∷ k ∷ [])) a ≡ a
value_level code k [] a = refl
value_level code k (x ∷ []) a = refl
value_level code k (x ∷ y ∷ xs) a = refl

level_reads : (signal : Signal) → is_signal signal ≡ true → (c : Change) (line : List ℕ) (a : Option Level) → IsKnownChange c → lines_by c ≡ line ∷ [] → level_by (code_of (Wire signal)) line a ≡ level_effect signal c a
level_reads signal is (Moves other level) line a known there =
    let code = code_of (Wire signal) in
    let same : level_digit level ∷ code_of (Wire other) ∷ [] ≡ line = cc in
    ap (λ (l : List ℕ). level_by code l a) (sym same)
    ∙ (λ i. cond ((code_same (Wire other) (Wire signal) known is ∙ signal_same other signal known is) i) (digit_is level a i) a)
level_reads signal is (Takes channel value) line a known there =
    let same : value_text channel value ≡ line = cc in
    ap (λ (l : List ℕ). level_by (code_of (Wire signal)) l a) (sym same) ∙ value_level (code_of (Wire signal)) (code_of (Analog channel)) (significant (digits value)) a
level_reads signal is (Happens v) line a known there =
    let code = code_of (Wire signal) in
    let same : 49 ∷ code_of v ∷ [] ≡ line = cc in
    let other : eqb (number_of v) (signal_number signal) ≡ false = ne_eqb (number_of v) (signal_number signal) (λ e. let far : eqb (signal_number signal) (number_of v) ≡ false = signal_apart signal (number_of v) is (let high : 57 ≤ number_of v = known.1 in omega (arith, high)) in false_same (signal_number signal) (number_of v) far (sym e)) in
    ap (λ (l : List ℕ). level_by code l a) (sym same)
    ∙ ap (λ b. cond b (Some High) a) (code_same v (Wire signal) known.0 is ∙ other)
  where
    false_same : (n m : ℕ) → eqb n m ≡ false → n ≡ m → ⊥
    false_same n m off same = eqb-false n m off same
level_reads signal is Unseen line a known there = absurd cc

pub reads_levels : (signal : Signal) → is_signal signal ≡ true → Reads (level_by (code_of (Wire signal))) (level_effect signal)
reads_levels signal is = record {
  stamps = stamp_level (code_of (Wire signal));
  words = λ x y ds a. refl;
  levels = level_reads signal is;
  unseen = λ a. refl;
}

-- ---- a value

abbrev pub value_effect : ℕ → Change → Option ℕ → Option ℕ
value_effect channel (Takes other value) a = cond (eqb other channel) (Some value) a
value_effect channel _ a = a

-- zeros in front change no number
stripped : (ds : List ℕ) → binary_value (significant ds) ≡ binary_value ds
unfolding significant
stripped [] = refl
stripped (d ∷ []) = refl
stripped (d ∷ e ∷ more) = by_test (eqb d 48) refl (stripped (e ∷ more))
  where
    by_test : (b : Bool) → eqb d 48 ≡ b → binary_value (significant (e ∷ more)) ≡ binary_value (e ∷ more) → binary_value (cond b (significant (e ∷ more)) (d ∷ e ∷ more)) ≡ binary_value (d ∷ e ∷ more)
    by_test true is rest = rest ∙ ap (λ n. binary_value (n ∷ e ∷ more)) (sym (eqb-true d 48 is))
    by_test false is rest = refl

halved : (v : ℕ) → 2 * (v / 2) + (48 + v % 2 - 48) ≡ v
halved v = omega arith

binary_digits : (value : ℕ) → value ≤ 1023 → binary_value (digits value) ≡ value
binary_digits value small =
    let a : 2 * (2 * 0 + (48 + value / 512 % 2 - 48)) + (48 + value / 256 % 2 - 48) ≡ value / 256 = omega (arith, small) in
    let b : 2 * (value / 256) + (48 + value / 128 % 2 - 48) ≡ value / 128 = omega arith in
    let c : 2 * (value / 128) + (48 + value / 64 % 2 - 48) ≡ value / 64 = omega arith in
    let d : 2 * (value / 64) + (48 + value / 32 % 2 - 48) ≡ value / 32 = omega arith in
    let e : 2 * (value / 32) + (48 + value / 16 % 2 - 48) ≡ value / 16 = omega arith in
    let f : 2 * (value / 16) + (48 + value / 8 % 2 - 48) ≡ value / 8 = omega arith in
    let g : 2 * (value / 8) + (48 + value / 4 % 2 - 48) ≡ value / 4 = omega arith in
    let h : 2 * (value / 4) + (48 + value / 2 % 2 - 48) ≡ value / 2 = omega arith in
    let k : 2 * (value / 2) + (48 + value / 1 % 2 - 48) ≡ value = omega arith in
    ap (λ n. 2 * (2 * (2 * (2 * (2 * (2 * (2 * (2 * n + (48 + value / 128 % 2 - 48)) + (48 + value / 64 % 2 - 48)) + (48 + value / 32 % 2 - 48)) + (48 + value / 16 % 2 - 48)) + (48 + value / 8 % 2 - 48)) + (48 + value / 4 % 2 - 48)) + (48 + value / 2 % 2 - 48)) + (48 + value / 1 % 2 - 48)) a
    ∙ ap (λ n. 2 * (2 * (2 * (2 * (2 * (2 * (2 * n + (48 + value / 64 % 2 - 48)) + (48 + value / 32 % 2 - 48)) + (48 + value / 16 % 2 - 48)) + (48 + value / 8 % 2 - 48)) + (48 + value / 4 % 2 - 48)) + (48 + value / 2 % 2 - 48)) + (48 + value / 1 % 2 - 48)) b
    ∙ ap (λ n. 2 * (2 * (2 * (2 * (2 * (2 * n + (48 + value / 32 % 2 - 48)) + (48 + value / 16 % 2 - 48)) + (48 + value / 8 % 2 - 48)) + (48 + value / 4 % 2 - 48)) + (48 + value / 2 % 2 - 48)) + (48 + value / 1 % 2 - 48)) c
    ∙ ap (λ n. 2 * (2 * (2 * (2 * (2 * n + (48 + value / 16 % 2 - 48)) + (48 + value / 8 % 2 - 48)) + (48 + value / 4 % 2 - 48)) + (48 + value / 2 % 2 - 48)) + (48 + value / 1 % 2 - 48)) d
    ∙ ap (λ n. 2 * (2 * (2 * (2 * n + (48 + value / 8 % 2 - 48)) + (48 + value / 4 % 2 - 48)) + (48 + value / 2 % 2 - 48)) + (48 + value / 1 % 2 - 48)) e
    ∙ ap (λ n. 2 * (2 * (2 * n + (48 + value / 4 % 2 - 48)) + (48 + value / 2 % 2 - 48)) + (48 + value / 1 % 2 - 48)) f
    ∙ ap (λ n. 2 * (2 * n + (48 + value / 2 % 2 - 48)) + (48 + value / 1 % 2 - 48)) g
    ∙ ap (λ n. 2 * n + (48 + value / 1 % 2 - 48)) h
    ∙ k

single_same : (n m : ℕ) → bytes_eq (n ∷ []) (m ∷ []) ≡ eqb n m
single_same n m = elim (eqb n m) as (λ b. (b && true) ≡ b) [ true ↦ refl | false ↦ refl ]

single_word : (n : ℕ) → 32 < n → before_first is_space (n ∷ []) ≡ n ∷ []
single_word n high = let other : eqb n 32 ≡ false = ne_eqb n 32 (λ e. omega (arith, high, e)) in rw other refl

value_reads : (channel : ℕ) → channel < channel_count → (c : Change) (line : List ℕ) (a : Option ℕ) → IsKnownChange c → lines_by c ≡ line ∷ [] → value_by (code_of (Analog channel)) line a ≡ value_effect channel c a
value_reads channel is (Moves other Low) line a known there =
    let same : level_digit Low ∷ code_of (Wire other) ∷ [] ≡ line = cc in ap (λ (l : List ℕ). value_by (code_of (Analog channel)) l a) (sym same)
value_reads channel is (Moves other High) line a known there =
    let same : level_digit High ∷ code_of (Wire other) ∷ [] ≡ line = cc in ap (λ (l : List ℕ). value_by (code_of (Analog channel)) l a) (sym same)
value_reads channel is (Takes other value) line a known there =
    let code = code_of (Analog channel) in
    let ds = significant (digits value) in
    let same : value_text other value ≡ line = cc in
    let named : word 1 (ds ++ 32 ∷ code_of (Analog other) ∷ []) ≡ code_of (Analog other) ∷ [] = ap (before_first is_space) (word-after ds (code_of (Analog other) ∷ []) (value_word value)) ∙ single_word (code_of (Analog other)) (code_high (Analog other)) in
    let digits_read : word 0 (ds ++ 32 ∷ code_of (Analog other) ∷ []) ≡ ds = word-before ds (code_of (Analog other) ∷ []) (value_word value) in
    let numbered : eqb (49 + other) (49 + channel) ≡ eqb other channel = more_same other channel in
    let test : bytes_eq (code_of (Analog other) ∷ []) (code ∷ []) ≡ eqb other channel = single_same (code_of (Analog other)) code ∙ code_same (Analog other) (Analog channel) known.0 is ∙ numbered in
    ap (λ (l : List ℕ). value_by code l a) (sym same)
    ∙ (λ i. cond (bytes_eq (named i) (code ∷ [])) (Some (binary_value (digits_read i))) a)
    ∙ (λ i. cond (test i) (Some ((stripped (digits value) ∙ binary_digits value known.1) i)) a)
  where
    more_same : (n m : ℕ) → eqb (49 + n) (49 + m) ≡ eqb n m
    more_same n m = by_test (eqb n m) refl
      where
        by_test : (b : Bool) → eqb n m ≡ b → eqb (49 + n) (49 + m) ≡ b
        by_test true e = eq-eqb (49 + n) (49 + m) (ap (λ k. 49 + k) (eqb-true n m e))
        by_test false e = ne_eqb (49 + n) (49 + m) (λ same. eqb-false n m e (omega (arith, same)))
value_reads channel is (Happens v) line a known there =
    let same : 49 ∷ code_of v ∷ [] ≡ line = cc in ap (λ (l : List ℕ). value_by (code_of (Analog channel)) l a) (sym same)
value_reads channel is Unseen line a known there = absurd cc

pub reads_values : (channel : ℕ) → channel < channel_count → Reads (value_by (code_of (Analog channel))) (value_effect channel)
reads_values channel is = record { stamps = λ ds a. refl; words = λ x y ds a. refl; levels = value_reads channel is; unseen = λ a. refl }

-- ---- an event

abbrev pub count_effect : Variable → Change → ℕ → ℕ
count_effect event (Happens v) n = cond (eqb (number_of v) (number_of event)) (n + 1) n
count_effect event _ n = n

stamp_count : (code : ℕ) (ds : List ℕ) (n : ℕ) → count_by code (35 ∷ ds) n ≡ n
stamp_count code [] n = refl
stamp_count code (d ∷ []) n = refl
stamp_count code (d ∷ e ∷ ds) n = refl

value_count : (code k : ℕ) (xs : List ℕ) (n : ℕ) → count_by code (98 ∷ (xs ++ 32 ∷ k ∷ [])) n ≡ n
value_count code k [] n = refl
value_count code k (x ∷ []) n = refl
value_count code k (x ∷ y ∷ xs) n = refl

count_reads : (event : Variable) → IsKnown event → 57 ≤ number_of event → (c : Change) (line : List ℕ) (n : ℕ) → IsKnownChange c → lines_by c ≡ line ∷ [] → count_by (code_of event) line n ≡ count_effect event c n
count_reads event is high (Moves other Low) line n known there =
    let same : level_digit Low ∷ code_of (Wire other) ∷ [] ≡ line = cc in ap (λ (l : List ℕ). count_by (code_of event) l n) (sym same)
count_reads event is high (Moves other High) line n known there =
    let same : level_digit High ∷ code_of (Wire other) ∷ [] ≡ line = cc in
    ap (λ (l : List ℕ). count_by (code_of event) l n) (sym same)
    ∙ ap (λ b. cond b (n + 1) n) (code_same (Wire other) event known is ∙ signal_apart other (number_of event) known (omega (arith, high)))
count_reads event is high (Takes channel value) line n known there =
    let same : value_text channel value ≡ line = cc in
    ap (λ (l : List ℕ). count_by (code_of event) l n) (sym same) ∙ value_count (code_of event) (code_of (Analog channel)) (significant (digits value)) n
count_reads event is high (Happens v) line n known there =
    let same : 49 ∷ code_of v ∷ [] ≡ line = cc in
    ap (λ (l : List ℕ). count_by (code_of event) l n) (sym same) ∙ ap (λ b. cond b (n + 1) n) (code_same v event known.0 is)
count_reads event is high Unseen line n known there = absurd cc

pub reads_counts : (event : Variable) → IsKnown event → 57 ≤ number_of event → Reads (count_by (code_of event)) (count_effect event)
reads_counts event is high = record { stamps = stamp_count (code_of event); words = λ x y ds n. refl; levels = count_reads event is high; unseen = λ n. refl }

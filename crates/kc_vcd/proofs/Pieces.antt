-- Lists that grow by a piece.
use Rattle.std.proofs.Common.{◌≡◌, ℕ, zero, suc, ◌+◌, ◌-◌, ◌≤◌, length, take, drop, take_all, get_or, sym, subst, append_assoc, List, [], ◌∷◌, ◌++◌, flat_map, All, refl, ap, ◌∙◌, append-nil, add-one, arith}
use Rattle.std.specs.List.{range_with_len}
use Rattle.std.proofs.lemmas.Grind.{flat_map-append}
use Rattle.std.proofs.lemmas.List.Elements.{All-tail}
use Rattle.kc_stim.specs.Drives.{Drives}
use Rattle.kc_convert.specs.declared.sample.Sample.{Sample}
use Rattle.kc_vcd.specs.declared.variable.Variable.{Variable}
use Rattle.kc_vcd.specs.declared.variable.Variable.TheVariants.{Entry, Transfer}
use Rattle.kc_vcd.specs.Variables.{IsVariable, output_at, outputs, input_at, inputs, channel_at, channels, entries, transfers}
use Rattle.kc_vcd.specs.Dump.{declaration, declarations}

-- a range with one number more
range-more : (a n : ℕ) → range_with_len a (n + 1) ≡ range_with_len a n ++ (a + n) ∷ []
range-more a n = rw add-one (by_count a n)
  where
    by_count : (a n : ℕ) → range_with_len a (suc n) ≡ range_with_len a n ++ (a + n) ∷ []
    by_count a zero = let same : a + 0 ≡ a = omega arith in rw same refl
    by_count a (suc n) = let next : a + suc n ≡ a + 1 + n = omega arith in rw next (ap (λ (r : List ℕ). a ∷ r) (by_count (a + 1) n))

pub pieces-more : {A : Type 0} (f : ℕ → List A) (n : ℕ) → flat_map f (range_with_len 0 (n + 1)) ≡ flat_map f (range_with_len 0 n) ++ f n
pieces-more f n =
    let last : 0 + n ≡ n = omega arith in
    ap (flat_map f) (range-more 0 n) ∙ flat_map-append f (range_with_len 0 n) ((0 + n) ∷ []) ∙ ap (λ t. flat_map f (range_with_len 0 n) ++ t) (append-nil (f (0 + n)) ∙ ap f last)

pub outputs-none : outputs 0 ≡ []
unfolding outputs
outputs-none = refl

pub outputs-more : (n : ℕ) → outputs (n + 1) ≡ outputs n ++ output_at n
unfolding outputs
outputs-more n = pieces-more output_at n

pub inputs-none : (d : Drives) → inputs d 0 ≡ []
unfolding inputs
inputs-none d = refl

pub inputs-more : (d : Drives) (n : ℕ) → inputs d (n + 1) ≡ inputs d n ++ input_at d n
unfolding inputs
inputs-more d n = pieces-more (input_at d) n

pub channels-none : (samples : List Sample) → channels samples 0 ≡ []
unfolding channels
channels-none samples = refl

pub channels-more : (samples : List Sample) (n : ℕ) → channels samples (n + 1) ≡ channels samples n ++ channel_at samples n
unfolding channels
channels-more samples n = pieces-more (channel_at samples) n

pub entries-none : entries 0 ≡ []
unfolding entries
entries-none = refl

pub entries-more : (n : ℕ) → entries (n + 1) ≡ entries n ++ Entry n ∷ []
unfolding entries
entries-more n = pieces-more (λ number. Entry number ∷ []) n

pub transfers-none : transfers 0 ≡ []
unfolding transfers
transfers-none = refl

pub transfers-more : (n : ℕ) → transfers (n + 1) ≡ transfers n ++ Transfer n ∷ []
unfolding transfers
transfers-more n = pieces-more (λ number. Transfer number ∷ []) n

pub known_rest : (v : Variable) (vs : List Variable) → All IsVariable (v ∷ vs) → All IsVariable vs
known_rest v vs all = All-tail IsVariable v vs all

pub declared_step : (first before now : List ℕ) (vs : List Variable) (d : Variable) → 1 ≤ length vs → now ≡ before ++ declaration (get_or vs 0 d) → before ++ declarations vs ≡ first →
    now ++ declarations (take (length vs - 1) (drop 1 vs)) ≡ first
unfolding declarations
declared_step first before now [] d some put so_far = absurd (omega (arith, some))
declared_step first before now (v ∷ vs) d some put so_far =
    (λ i. put i ++ declarations (take_all (length (v ∷ vs) - 1) vs (omega arith) i)) ∙ append_assoc before (declaration v) (declarations vs) ∙ so_far

pub known_step : (vs : List Variable) → 1 ≤ length vs → All IsVariable vs → All IsVariable (take (length vs - 1) (drop 1 vs))
known_step [] some all = absurd (omega (arith, some))
known_step (v ∷ vs) some all = subst (λ ws. All IsVariable ws) (sym (take_all (length (v ∷ vs) - 1) vs (omega arith))) (known_rest v vs all)

-- five pieces, one behind the other
pub five_put : (old a b c d e one two three four five : List ℕ) → one ≡ old ++ a → two ≡ one ++ b → three ≡ two ++ c → four ≡ three ++ d → five ≡ four ++ e → five ≡ old ++ (a ++ b ++ c ++ d ++ e)
five_put old a b c d e one two three four five ia ib ic id ie =
    ie
    ∙ ap (λ (t : List ℕ). t ++ e) (id ∙ ap (λ (t : List ℕ). t ++ d) (ic ∙ ap (λ (t : List ℕ). t ++ c) (ib ∙ ap (λ (t : List ℕ). t ++ b) ia ∙ append_assoc old a b) ∙ append_assoc old (a ++ b) c) ∙ append_assoc old (a ++ b ++ c) d)
    ∙ append_assoc old (a ++ b ++ c ++ d) e

-- The variables that the dump of a run has.
use Rattle.std.proofs.Common.{◌≡◌, ℕ, zero, suc, ◌+◌, ◌<◌, Bool, true, false, cond, inl, inr, List, [], ◌∷◌, ◌++◌, flat_map, refl, sym, ap, subst, ◌∙◌, arith}
use Rattle.std.specs.List.{range_with_len}
use Rattle.std.proofs.lemmas.Bool.{and_parts, cases_lt}
use Rattle.kc_base.specs.Pins.{pin_count, is_printed}
use Rattle.kc_base.proofs.PinLemmas.{input_is_pin}
use Rattle.kc_trace.specs.declared.life.Signal.{Signal}
use Rattle.kc_trace.specs.declared.life.Signal.TheVariants.{Output, Input}
use Rattle.kc_stim.specs.Drives.{Drives, is_driven}
use Rattle.kc_base.specs.Pins.{is_input}
use Rattle.kc_convert.specs.declared.sample.Sample.{Sample}
use Rattle.kc_vcd.specs.declared.variable.Variable.{Variable}
use Rattle.kc_vcd.specs.declared.variable.Variable.TheVariants.{Wire, Analog, Entry, Transfer, Undefined, Life}
use Rattle.kc_base.specs.Limits.{entry_count, transfer_count}
use Rattle.kc_convert.specs.Samples.{channel_count}
use Rattle.kc_vcd.specs.Variables.{output_at, outputs, is_shown_input, input_at, inputs, has_value, channel_at, channels, entries, transfers, variables_of}
use Rattle.kc_vcd.specs.Laws.{IsKnown, AllKnown, Member}
use Rattle.kc_vcd.specs.Runs.{is_shown}
use Rattle.kc_vcd.proofs.Pieces.{pieces-more}
use Rattle.kc_vcd.proofs.Known.{printed_is_pin}

-- ---- all are known

both_known : (xs ys : List Variable) → AllKnown xs → AllKnown ys → AllKnown (xs ++ ys)
both_known [] ys h k = k
both_known (x ∷ xs) ys h k = (h.0, both_known xs ys h.1 k)

known_if : (b : Bool) (v : Variable) → (b ≡ true → IsKnown v) → AllKnown (cond b (v ∷ []) [])
known_if true v is = (is refl, tt)
known_if false v is = tt

each_known : (f : ℕ → List Variable) (n : ℕ) → ((k : ℕ) → k < n → AllKnown (f k)) → AllKnown (flat_map f (range_with_len 0 n))
each_known f zero each = tt
each_known f (suc n) each =
    let next : n + 1 ≡ suc n = omega arith in
    subst AllKnown (sym (pieces-more f n) ∙ ap (λ k. flat_map f (range_with_len 0 k)) next)
    (both_known (flat_map f (range_with_len 0 n)) (f n) (each_known f n (λ k less. each k (omega (arith, less)))) (each n (omega arith)))

pub shown_known : (d : Drives) (samples : List Sample) → AllKnown (variables_of d samples)
unfolding outputs inputs channels entries transfers
shown_known d samples =
    let a = each_known output_at pin_count (λ k less. known_if (is_printed k) (Wire (Output (record { 0 = k }))) (λ on. on)) in
    let b = each_known (input_at d) pin_count (λ k less. known_if (is_shown_input d k) (Wire (Input (record { 0 = k }))) (λ on. (and_parts (is_input k) (is_driven d k) on).0)) in
    let c = each_known (channel_at samples) channel_count (λ k less. known_if (has_value samples k) (Analog k) (λ on. less)) in
    let e = each_known (λ number. Entry number ∷ []) entry_count (λ k less. (less, tt)) in
    let f = each_known (λ number. Transfer number ∷ []) transfer_count (λ k less. (less, tt)) in
    let ab = both_known (outputs pin_count) (inputs d pin_count) a b in
    let abc = both_known (outputs pin_count ++ inputs d pin_count) (channels samples channel_count) ab c in
    let abce = both_known (outputs pin_count ++ inputs d pin_count ++ channels samples channel_count) (entries entry_count) abc e in
    let abcef = both_known (outputs pin_count ++ inputs d pin_count ++ channels samples channel_count ++ entries entry_count) (transfers transfer_count) abce f in
    both_known (outputs pin_count ++ inputs d pin_count ++ channels samples channel_count ++ entries entry_count ++ transfers transfer_count) (Undefined ∷ Life ∷ []) abcef (tt, (tt, tt))

-- ---- which are there

in_first : (v : Variable) (xs ys : List Variable) → Member v xs → Member v (xs ++ ys)
in_first v [] ys there = absurd there
in_first v (x ∷ xs) ys (inl same) = inl same
in_first v (x ∷ xs) ys (inr there) = inr (in_first v xs ys there)

in_second : (v : Variable) (xs ys : List Variable) → Member v ys → Member v (xs ++ ys)
in_second v [] ys there = there
in_second v (x ∷ xs) ys there = inr (in_second v xs ys there)

in_piece : (v : Variable) (f : ℕ → List Variable) (n k : ℕ) → k < n → Member v (f k) → Member v (flat_map f (range_with_len 0 n))
in_piece v f zero k less there = absurd (omega (arith, less))
in_piece v f (suc n) k less there =
    let next : n + 1 ≡ suc n = omega arith in
    subst (Member v) (sym (pieces-more f n) ∙ ap (λ j. flat_map f (range_with_len 0 j)) next) (elim (cases_lt k n) [
      | inl before ↦ in_first v (flat_map f (range_with_len 0 n)) (f n) (in_piece v f n k before there)
      | inr last ↦ in_second v (flat_map f (range_with_len 0 n)) (f n) (let is : k ≡ n = omega (arith, less, last) in subst (λ j. Member v (f j)) is there)
    ])

member_if : (b : Bool) (v : Variable) → b ≡ true → Member v (cond b (v ∷ []) [])
member_if true v on = inl refl
member_if false v on = absurd cc

-- of the six parts
in_a : (v : Variable) (a b c e f g : List Variable) → Member v a → Member v (a ++ b ++ c ++ e ++ f ++ g)
in_a v a b c e f g there = in_first v (a ++ b ++ c ++ e ++ f) g (in_first v (a ++ b ++ c ++ e) f (in_first v (a ++ b ++ c) e (in_first v (a ++ b) c (in_first v a b there))))

in_b : (v : Variable) (a b c e f g : List Variable) → Member v b → Member v (a ++ b ++ c ++ e ++ f ++ g)
in_b v a b c e f g there = in_first v (a ++ b ++ c ++ e ++ f) g (in_first v (a ++ b ++ c ++ e) f (in_first v (a ++ b ++ c) e (in_first v (a ++ b) c (in_second v a b there))))

in_c : (v : Variable) (a b c e f g : List Variable) → Member v c → Member v (a ++ b ++ c ++ e ++ f ++ g)
in_c v a b c e f g there = in_first v (a ++ b ++ c ++ e ++ f) g (in_first v (a ++ b ++ c ++ e) f (in_first v (a ++ b ++ c) e (in_second v (a ++ b) c there)))

in_e : (v : Variable) (a b c e f g : List Variable) → Member v e → Member v (a ++ b ++ c ++ e ++ f ++ g)
in_e v a b c e f g there = in_first v (a ++ b ++ c ++ e ++ f) g (in_first v (a ++ b ++ c ++ e) f (in_second v (a ++ b ++ c) e there))

in_f : (v : Variable) (a b c e f g : List Variable) → Member v f → Member v (a ++ b ++ c ++ e ++ f ++ g)
in_f v a b c e f g there = in_first v (a ++ b ++ c ++ e ++ f) g (in_second v (a ++ b ++ c ++ e) f there)

pub signal_there : (d : Drives) (samples : List Sample) (signal : Signal) → is_shown d signal ≡ true → Member (Wire signal) (variables_of d samples)
unfolding outputs inputs
signal_there d samples (Output pin) is =
    in_a (Wire (Output pin)) (outputs pin_count) (inputs d pin_count) (channels samples channel_count) (entries entry_count) (transfers transfer_count) (Undefined ∷ Life ∷ [])
    (in_piece (Wire (Output pin)) output_at pin_count pin.0 (printed_is_pin pin.0 is) (member_if (is_printed pin.0) (Wire (Output pin)) is))
signal_there d samples (Input pin) is =
    in_b (Wire (Input pin)) (outputs pin_count) (inputs d pin_count) (channels samples channel_count) (entries entry_count) (transfers transfer_count) (Undefined ∷ Life ∷ [])
    (in_piece (Wire (Input pin)) (input_at d) pin_count pin.0 (input_is_pin pin.0 (and_parts (is_input pin.0) (is_driven d pin.0) is).0) (member_if (is_shown_input d pin.0) (Wire (Input pin)) is))

pub channel_there : (d : Drives) (samples : List Sample) (channel : ℕ) → channel < channel_count → has_value samples channel ≡ true → Member (Analog channel) (variables_of d samples)
unfolding channels
channel_there d samples channel less is =
    in_c (Analog channel) (outputs pin_count) (inputs d pin_count) (channels samples channel_count) (entries entry_count) (transfers transfer_count) (Undefined ∷ Life ∷ [])
    (in_piece (Analog channel) (channel_at samples) channel_count channel less (member_if (has_value samples channel) (Analog channel) is))

pub entry_there : (d : Drives) (samples : List Sample) (number : ℕ) → number < entry_count → Member (Entry number) (variables_of d samples)
unfolding entries
entry_there d samples number less =
    in_e (Entry number) (outputs pin_count) (inputs d pin_count) (channels samples channel_count) (entries entry_count) (transfers transfer_count) (Undefined ∷ Life ∷ [])
    (in_piece (Entry number) (λ n. Entry n ∷ []) entry_count number less (inl refl))

pub transfer_there : (d : Drives) (samples : List Sample) (number : ℕ) → number < transfer_count → Member (Transfer number) (variables_of d samples)
unfolding transfers
transfer_there d samples number less =
    in_f (Transfer number) (outputs pin_count) (inputs d pin_count) (channels samples channel_count) (entries entry_count) (transfers transfer_count) (Undefined ∷ Life ∷ [])
    (in_piece (Transfer number) (λ n. Transfer n ∷ []) transfer_count number less (inl refl))

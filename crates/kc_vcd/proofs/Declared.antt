-- The variables of a dump are such as a dump may have.
use Rattle.std.proofs.Common.{◌≡◌, ℕ, zero, suc, ◌+◌, ◌<◌, Bool, true, false, cond, List, [], ◌∷◌, ◌++◌, All, flat_map, sym, ap, subst, ◌∙◌, append_assoc, arith}
use Rattle.std.specs.List.{range_with_len}
use Rattle.std.proofs.lemmas.List.Elements.{All-nil, All-cons, All-append}
use Rattle.kc_base.specs.Pins.{pin_count, is_printed}
use Rattle.kc_trace.specs.declared.life.Signal.TheVariants.{Output, Input}
use Rattle.kc_stim.specs.Drives.{Drives}
use Rattle.kc_convert.specs.declared.sample.Sample.{Sample}
use Rattle.kc_vcd.specs.declared.variable.Variable.{Variable}
use Rattle.kc_vcd.specs.declared.variable.Variable.TheVariants.{Wire, Analog, Entry, Transfer, Undefined, Life}
use Rattle.kc_base.specs.Limits.{entry_count, transfer_count}
use Rattle.kc_convert.specs.Samples.{channel_count}
use Rattle.kc_vcd.specs.Variables.{IsVariable, output_at, outputs, is_shown_input, input_at, inputs, has_value, channel_at, channels, entries, transfers, variables_of}
use Rattle.kc_vcd.proofs.Pieces.{pieces-more}

one : (v : Variable) → IsVariable v → All IsVariable (v ∷ [])
one v is = All-cons IsVariable v [] is (All-nil IsVariable)

one_if : (b : Bool) (v : Variable) → IsVariable v → All IsVariable (cond b (v ∷ []) [])
one_if true v is = one v is
one_if false v is = All-nil IsVariable

pieces_known : (f : ℕ → List Variable) (n : ℕ) → ((k : ℕ) → k < n → All IsVariable (f k)) → All IsVariable (flat_map f (range_with_len 0 n))
pieces_known f zero each = All-nil IsVariable
pieces_known f (suc n) each =
    let next : n + 1 ≡ suc n = omega arith in
    subst (λ vs. All IsVariable vs) (sym (pieces-more f n) ∙ ap (λ k. flat_map f (range_with_len 0 k)) next)
    (All-append IsVariable (flat_map f (range_with_len 0 n)) (f n) (pieces_known f n (λ k less. each k (omega (arith, less)))) (each n (omega arith)))

outputs_known : All IsVariable (outputs pin_count)
unfolding outputs
outputs_known = pieces_known output_at pin_count (λ k less. one_if (is_printed k) (Wire (Output (record { 0 = k }))) less)

inputs_known : (d : Drives) → All IsVariable (inputs d pin_count)
unfolding inputs
inputs_known d = pieces_known (input_at d) pin_count (λ k less. one_if (is_shown_input d k) (Wire (Input (record { 0 = k }))) less)

channels_known : (samples : List Sample) → All IsVariable (channels samples channel_count)
unfolding channels
channels_known samples = pieces_known (channel_at samples) channel_count (λ k less. one_if (has_value samples k) (Analog k) less)

entries_known : All IsVariable (entries entry_count)
unfolding entries
entries_known = pieces_known (λ number. Entry number ∷ []) entry_count (λ k less. one (Entry k) less)

transfers_known : All IsVariable (transfers transfer_count)
unfolding transfers
transfers_known = pieces_known (λ number. Transfer number ∷ []) transfer_count (λ k less. one (Transfer k) less)

pub variables_known : (d : Drives) (samples : List Sample) → All IsVariable (variables_of d samples)
variables_known d samples =
    let a = All-append IsVariable (outputs pin_count) (inputs d pin_count) outputs_known (inputs_known d) in
    let b = All-append IsVariable (outputs pin_count ++ inputs d pin_count) (channels samples channel_count) a (channels_known samples) in
    let c = All-append IsVariable (outputs pin_count ++ inputs d pin_count ++ channels samples channel_count) (entries entry_count) b entries_known in
    let e = All-append IsVariable (outputs pin_count ++ inputs d pin_count ++ channels samples channel_count ++ entries entry_count) (transfers transfer_count) c transfers_known in
    All-append IsVariable (outputs pin_count ++ inputs d pin_count ++ channels samples channel_count ++ entries entry_count ++ transfers transfer_count) (Undefined ∷ Life ∷ []) e
    (All-cons IsVariable Undefined (Life ∷ []) tt (one Life tt))

pub all_put : (d : Drives) (samples : List Sample) (z a b c e f g h : List Variable) → z ≡ [] → a ≡ z ++ outputs pin_count → b ≡ a ++ inputs d pin_count → c ≡ b ++ channels samples channel_count → e ≡ c ++ entries entry_count →
    f ≡ e ++ transfers transfer_count → g ≡ f ++ Undefined ∷ [] → h ≡ g ++ Life ∷ [] → All IsVariable h
all_put d samples z a b c e f g h none ia ib ic ie if' ig ih =
    let five : f ≡ outputs pin_count ++ inputs d pin_count ++ channels samples channel_count ++ entries entry_count ++ transfers transfer_count =
    if' ∙ ap (λ (t : List Variable). t ++ transfers transfer_count) (ie ∙ ap (λ (t : List Variable). t ++ entries entry_count) (ic ∙ ap (λ (t : List Variable). t ++ channels samples channel_count) (ib ∙ ap (λ (t : List Variable). t ++ inputs d pin_count) (ia ∙ ap (λ (t : List Variable). t ++ outputs pin_count) none)))) in
    let whole : h ≡ variables_of d samples = ih ∙ ap (λ (t : List Variable). t ++ Life ∷ []) ig ∙ append_assoc f (Undefined ∷ []) (Life ∷ []) ∙ ap (λ (t : List Variable). t ++ Undefined ∷ Life ∷ []) five in
    subst (λ vs. All IsVariable vs) (sym whole) (variables_known d samples)

-- Masks of inputs, pin by pin.
use Rattle.std.proofs.Common.{◌≡◌, ℕ, zero, suc, ◌+◌, ◌-◌, ◌^◌, ◌<◌, ◌≤◌, ◌==◌, Bool, true, false, ◌&&◌, refl, sym, ◌∙◌, ap, arith, Option, Some, None, inl, inr, min, max, add-zero, add-suc, add-one, List, [], ◌∷◌, length}
use Rattle.std.specs.Prelude.{not, is_some, is_none, bit_and, bit_or}
use Rattle.std.specs.Int.{bit_at, bit_not}
use Rattle.std.proofs.Common.{w64}
use Rattle.std.proofs.lemmas.Nat.Bits.{bit_at_or, bit_at_and, bit_at_not, same_from_bits}
use Rattle.std.proofs.lemmas.Bool.{not-true, false≢true, cases_lt}
use lib.Bits.{or_zero_r}
use Rattle.kc_base.specs.Bits.{weight}
use Rattle.kc_base.specs.Levels.{is_high}
use Rattle.kc_base.specs.Pins.{pin_count, pin_facts, is_input, may_be_wired, hsi0, extint}
use Rattle.kc_base.proofs.PinLemmas.{each_below, no_facts}
use Rattle.kc_stim.specs.Drives.{Drives, level_before, wire_to}
use Rattle.kc_stim.specs.Proper.{AreProper, is_driven}
use Rattle.kc_stim.proofs.Proper.{wires_lead_from_outputs}
use Rattle.kc_block_spec.specs.Levels.{mask_of, follows, stimulated_before, wired}
use Rattle.kc_block_spec.specs.Looking.{wired_inputs}
use Rattle.kc_block_spec.proofs.Masks.{mask_bit, mask_above}

-- one pin more
pub mask_next : (test : ℕ → Bool) (n : ℕ) → mask_of test (n + 1) ≡ bit_or (mask_of test n) (weight (test n) (2 ^ n))
unfolding mask_of
mask_next test n = rw add-one refl

pub mask_start : (test : ℕ → Bool) → mask_of test 0 ≡ 0
unfolding mask_of
mask_start test = refl

-- pins that do not pass
pub mask_rest : (test : ℕ → Bool) (n k : ℕ) → ((i : ℕ) → n ≤ i → i < n + k → test i ≡ false) → mask_of test (n + k) ≡ mask_of test n
unfolding mask_of
mask_rest test n zero none = rw add-zero refl
mask_rest test n (suc k) none =
    rw (add-suc n k, none (n + k) (omega arith) (omega arith), or_zero_r (mask_of test (n + k)))
    (mask_rest test n k (λ i le lt. none i le (omega arith)))

-- an input that may not be wired has no wire
pub no_wire : (d : Drives) (pin : ℕ) → AreProper d → may_be_wired pin ≡ false → wire_to d.wires pin ≡ None
no_wire d pin proper other = by (wire_to d.wires pin) refl
  where
    by : (o : Option ℕ) → wire_to d.wires pin ≡ o → wire_to d.wires pin ≡ None
    by None e = e
    by (Some output) e = absurd (false≢true (sym other ∙ (wires_lead_from_outputs d pin output proper e).to))

-- HSI0 is the first that may be wired, EXTINT the last
low_pin : (pin : ℕ) → pin < hsi0 → may_be_wired pin ≡ false
unfolding pin_facts
low_pin pin lt = not-true (may_be_wired pin) (each_below (λ n. not (may_be_wired n)) hsi0 pin refl lt)

high_pin : (pin : ℕ) → extint + 1 ≤ pin → may_be_wired pin ≡ false
unfolding pin_facts
high_pin pin le = elim (cases_lt pin pin_count) [
  | inl less ↦
      let same : extint + 1 + (pin - (extint + 1)) ≡ pin = omega (arith, le) in
      let none = each_below (λ k. not (may_be_wired (extint + 1 + k))) (pin_count - (extint + 1)) (pin - (extint + 1)) refl (omega (arith, le, less)) in
      sym (ap may_be_wired same) ∙ not-true (may_be_wired (extint + 1 + (pin - (extint + 1)))) none
  | inr past ↦ ap (λ facts. facts.wirable) (no_facts pin past)
]

-- a test of wires, below the inputs that may be wired and from there on
module _ (d : Drives) (proper : AreProper d) (q : Option ℕ → Bool) (none : q None ≡ false) where
  pub wires_below : mask_of (λ pin. q (wire_to d.wires pin)) hsi0 ≡ 0
  wires_below = mask_rest (λ pin. q (wire_to d.wires pin)) 0 hsi0 (λ i le lt. ap q (no_wire d i proper (low_pin i lt)) ∙ none) ∙ mask_start (λ pin. q (wire_to d.wires pin))

  pub wires_above : mask_of (λ pin. q (wire_to d.wires pin)) pin_count ≡ mask_of (λ pin. q (wire_to d.wires pin)) (extint + 1)
  wires_above = mask_rest (λ pin. q (wire_to d.wires pin)) (extint + 1) (pin_count - (extint + 1)) (λ i le lt. ap q (no_wire d i proper (high_pin i le)) ∙ none)

not-none : (n : ℕ) → (suc n == 0) ≡ false
not-none n = grind arith

no-list : {A : Type 0} (xs : List A) → (length xs == 0) ≡ true → xs ≡ []
no-list [] none = refl
no-list (x ∷ xs) none = absurd (false≢true (sym (not-none (length xs)) ∙ none))

-- where there is no wire, no pin passes
pub no_wires : (d : Drives) (q : Option ℕ → Bool) → q None ≡ false → (length d.wires == 0) ≡ true → 0 ≡ mask_of (λ pin. q (wire_to d.wires pin)) pin_count
no_wires d q none empty = sym (
    mask_rest (λ pin. q (wire_to d.wires pin)) 0 pin_count (λ i le lt. ap (λ ws. q (wire_to ws i)) (no-list d.wires empty) ∙ none)
    ∙ mask_start (λ pin. q (wire_to d.wires pin)))

-- the levels of the inputs without a wire
module _ (d : Drives) (t outs : ℕ) where
  abbrev stim : ℕ → Bool
  stim pin = is_driven d pin && is_high (level_before d.stimuli pin t)

  bits_here : (high driven : Bool) (o : Option ℕ) (input : Bool) → driven ≡ (input && is_none o) →
      min (max (weight (driven && high) 1) (weight (follows o outs) 1)) (1 - weight (is_some o) 1) ≡ weight (driven && high) 1
  bits_here high driven None true e = by high driven e
    where
      by : (h v : Bool) → v ≡ true → min (max (weight (v && h) 1) 0) 1 ≡ weight (v && h) 1
      by true true e = refl
      by false true e = refl
      by h false e = absurd (false≢true e)
  bits_here high driven None false e = by high driven e
    where
      by : (h v : Bool) → v ≡ false → min (max (weight (v && h) 1) 0) 1 ≡ weight (v && h) 1
      by h false e = refl
      by h true e = absurd (false≢true (sym e))
  bits_here high driven (Some output) input e = by high driven input e
    where
      by : (h v i : Bool) → v ≡ (i && false) → min (max (weight (v && h) 1) (weight (follows (Some output) outs) 1)) 0 ≡ weight (v && h) 1
      by h false i e = omega arith
      by h true true e = absurd (false≢true (sym e))
      by h true false e = absurd (false≢true (sym e))

  pub unwired_is : (levels inputs : ℕ) → levels ≡ bit_or (stimulated_before d t) (wired d outs) → inputs ≡ wired_inputs d → inputs < 2 ^ 64 →
      bit_and levels (bit_not w64 inputs) ≡ stimulated_before d t
  unwired_is levels inputs is are fits = same_from_bits _ _ (λ pin. elim (cases_lt pin pin_count) [
    | inl lt ↦
        let least : bit_at (bit_and levels (bit_not w64 inputs)) pin ≡ min (bit_at levels pin) (bit_at (bit_not w64 inputs) pin) = bit_at_and levels (bit_not w64 inputs) pin in
        let most : bit_at levels pin ≡ max (bit_at (stimulated_before d t) pin) (bit_at (wired d outs) pin) =
        ap (λ n. bit_at n pin) is ∙ bit_at_or (stimulated_before d t) (wired d outs) pin in
        let turned : bit_at (bit_not w64 inputs) pin ≡ 1 - bit_at inputs pin = bit_at_not w64 inputs pin fits (omega arith) in
        let own : bit_at (stimulated_before d t) pin ≡ weight (stim pin) 1 = mask_bit stim pin_count pin lt in
        let from : bit_at (wired d outs) pin ≡ weight (follows (wire_to d.wires pin) outs) 1 = mask_bit (λ n. follows (wire_to d.wires n) outs) pin_count pin lt in
        let has : bit_at inputs pin ≡ weight (is_some (wire_to d.wires pin)) 1 =
        ap (λ n. bit_at n pin) are ∙ mask_bit (λ n. is_some (wire_to d.wires n)) pin_count pin lt in
        least
        ∙ ap (λ n. min n (bit_at (bit_not w64 inputs) pin)) (most ∙ ap (λ n. max n (bit_at (wired d outs) pin)) own ∙ ap (λ n. max (weight (stim pin) 1) n) from)
        ∙ ap (λ n. min (max (weight (stim pin) 1) (weight (follows (wire_to d.wires pin) outs) 1)) n) (turned ∙ ap (λ n. 1 - n) has)
        ∙ bits_here (is_high (level_before d.stimuli pin t)) (is_driven d pin) (wire_to d.wires pin) (is_input pin) refl
        ∙ sym own
    | inr le ↦
        let least : bit_at (bit_and levels (bit_not w64 inputs)) pin ≡ min (bit_at levels pin) (bit_at (bit_not w64 inputs) pin) = bit_at_and levels (bit_not w64 inputs) pin in
        let most : bit_at levels pin ≡ max (bit_at (stimulated_before d t) pin) (bit_at (wired d outs) pin) =
        ap (λ n. bit_at n pin) is ∙ bit_at_or (stimulated_before d t) (wired d outs) pin in
        let own : bit_at (stimulated_before d t) pin ≡ 0 = mask_above stim pin_count pin le in
        let from : bit_at (wired d outs) pin ≡ 0 = mask_above (λ n. follows (wire_to d.wires n) outs) pin_count pin le in
        omega arith
  ])

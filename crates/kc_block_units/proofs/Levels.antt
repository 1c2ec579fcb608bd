-- The levels of the inputs while no slot comes.
use Rattle.std.proofs.Common.{◌≢◌, max, true, inl, inr, ◌≡◌, ℕ, zero, suc, ◌+◌, ◌-◌, ◌<◌, ◌≤◌, ◌==◌, Bool, false, ◌&&◌, refl, sym, ◌∙◌, ap, arith, Option, Some, None, add-zero, add-suc}
use Rattle.std.specs.Prelude.{is_none, bit_or}
use Rattle.std.specs.Int.{bit_at}
use Rattle.std.proofs.lemmas.Nat.Bits.{bit_at_or}
use Rattle.std.proofs.lemmas.Bool.{ne_eqb, false≢true, and_parts, cases_Bool}
use Rattle.kc_base.specs.Bits.{weight}
use Rattle.kc_base.specs.Levels.{is_high}
use Rattle.kc_stim.specs.Drives.{Drives, Stimulation, level_at, level_before, wire_to, IsStill, IsNextEdge}
use Rattle.kc_stim.specs.Proper.{is_driven, AreProper}
use Rattle.kc_stim.proofs.Proper.{edges_are_of_driven_inputs}
use Rattle.kc_base.specs.Pins.{pin_count, is_input}
use Rattle.kc_base.proofs.PinLemmas.{input_is_pin}
use Rattle.kc_base.specs.declared.types.Level.{Level}
use Rattle.kc_base.specs.declared.types.Level.TheVariants.{Low, High}
use Rattle.kc_block_spec.specs.Levels.{mask_of, follows, stimulated, stimulated_before, wired}
use Rattle.kc_block_spec.proofs.Masks.{mask_same, mask_bit}

-- the states of a span without an edge by stimuli
still_before : (stimuli : Stimulation) (now t : ℕ) (next : Option ℕ) → IsNextEdge stimuli now next → now ≤ t → ((u : ℕ) → next ≡ Some u → t < u) → IsStill stimuli t
still_before stimuli now t None next le ahead = next t le
still_before stimuli now t (Some u) next le ahead = next.still t le (ahead u refl)

pub before-suc : (stimuli : Stimulation) (pin t : ℕ) → level_before stimuli pin (suc t) ≡ level_at stimuli pin t
before-suc stimuli pin t =
    let off : (suc t == 0) ≡ false = ne_eqb (suc t) 0 (λ e. omega arith) in
    let less : suc t - 1 ≡ t = omega arith in
    rw (off, less) refl

pub level_stays : (stimuli : Stimulation) (pin now n : ℕ) → ((k : ℕ) → k < n → IsStill stimuli (now + k)) → level_before stimuli pin (now + n) ≡ level_before stimuli pin now
level_stays stimuli pin now zero still = rw add-zero refl
level_stays stimuli pin now (suc n) still =
    rw (add-suc now n) (before-suc stimuli pin (now + n) ∙ still n (omega arith) pin ∙ level_stays stimuli pin now n (λ k lt. still k (omega arith)))

-- so the inputs without a wire stay as they are
pub before_stays : (drives : Drives) (now to : ℕ) (next : Option ℕ) → IsNextEdge drives.stimuli now next → now ≤ to → ((u : ℕ) → next ≡ Some u → to ≤ u) →
    stimulated_before drives to ≡ stimulated_before drives now
before_stays drives now to next is le ahead =
    mask_same _ _ pin_count (λ pin lt. ap (λ l. is_driven drives pin && is_high l)
    (let at : now + (to - now) ≡ to = omega arith in
    sym (ap (level_before drives.stimuli pin) at)
    ∙ level_stays drives.stimuli pin now (to - now) (λ k lt. still_before drives.stimuli now (now + k) next is (omega arith) (λ u e. let le' : to ≤ u = ahead u e in omega arith))))

pub stimulated_stays : (drives : Drives) (now t : ℕ) (next : Option ℕ) → IsNextEdge drives.stimuli now next → now ≤ t → ((u : ℕ) → next ≡ Some u → t < u) →
    stimulated drives t ≡ stimulated_before drives now
stimulated_stays drives now t next is le ahead =
    mask_same _ _ pin_count (λ pin below. ap (λ l. is_driven drives pin && is_high l) (still_before drives.stimuli now t next is le ahead pin))
    ∙ before_stays drives now t next is le (λ u e. let lt : t < u = ahead u e in omega arith)

-- and in the present state, where no stimulus comes
pub stimulated_here : (drives : Drives) (now : ℕ) (next : Option ℕ) → IsNextEdge drives.stimuli now next → ((u : ℕ) → next ≡ Some u → now < u) →
    stimulated drives now ≡ stimulated_before drives now
stimulated_here drives now next is ahead = stimulated_stays drives now now next is (omega arith) ahead

-- the next edge is the same from a later state on
pub next_stays : (stimuli : Stimulation) (now to : ℕ) (next : Option ℕ) → IsNextEdge stimuli now next → now ≤ to → ((u : ℕ) → next ≡ Some u → to ≤ u) → IsNextEdge stimuli to next
next_stays stimuli now to None is le ahead = λ t later. is t (omega arith)
next_stays stimuli now to (Some u) is le ahead = record { later = ahead u refl; edge = is.edge; still = λ t later sooner. is.still t (omega arith) sooner }

-- an input without a wire follows no output
driven_parts : (drives : Drives) (pin outs : ℕ) → is_driven drives pin ≡ true → follows (wire_to drives.wires pin) outs ≡ false
driven_parts drives pin outs driven = by (wire_to drives.wires pin) (and_parts (is_input pin) (is_none (wire_to drives.wires pin)) driven).1
  where
    by : (o : Option ℕ) → is_none o ≡ true → follows o outs ≡ false
    by None none = refl
    by (Some n) none = absurd (false≢true none)

weights : (a b : Bool) → weight a 1 ≡ weight b 1 → a ≡ b
weights true true e = refl
weights true false e = absurd (omega arith)
weights false true e = absurd (omega arith)
weights false false e = refl

-- the stimuli in a mask of levels, whatever the wires are
module _ (drives : Drives) (p q : ℕ → Bool) (a b : ℕ)
    (same : bit_or (mask_of (λ pin. is_driven drives pin && p pin) pin_count) (wired drives a) ≡ bit_or (mask_of (λ pin. is_driven drives pin && q pin) pin_count) (wired drives b)) where
  bit_by : (r : ℕ → Bool) (outs pin : ℕ) → pin < pin_count → is_driven drives pin ≡ true →
      bit_at (bit_or (mask_of (λ n. is_driven drives n && r n) pin_count) (wired drives outs)) pin ≡ weight (r pin) 1
  bit_by r outs pin lt driven =
      let own : bit_at (mask_of (λ n. is_driven drives n && r n) pin_count) pin ≡ weight (is_driven drives pin && r pin) 1 = mask_bit (λ n. is_driven drives n && r n) pin_count pin lt in
      let here : weight (is_driven drives pin && r pin) 1 ≡ weight (r pin) 1 = ap (λ d. weight (d && r pin) 1) driven in
      let none : bit_at (wired drives outs) pin ≡ 0 =
      mask_bit (λ n. follows (wire_to drives.wires n) outs) pin_count pin lt ∙ ap (λ f. weight f 1) (driven_parts drives pin outs driven) in
      let most : bit_at (bit_or (mask_of (λ n. is_driven drives n && r n) pin_count) (wired drives outs)) pin
      ≡ max (bit_at (mask_of (λ n. is_driven drives n && r n) pin_count) pin) (bit_at (wired drives outs) pin) =
      bit_at_or (mask_of (λ n. is_driven drives n && r n) pin_count) (wired drives outs) pin in
      omega arith

  pub same_driven : (pin : ℕ) → pin < pin_count → is_driven drives pin ≡ true → p pin ≡ q pin
  same_driven pin lt driven =
      weights (p pin) (q pin) (sym (bit_by p a pin lt driven) ∙ ap (λ m. bit_at m pin) same ∙ bit_by q b pin lt driven)

  pub same_stimuli : mask_of (λ pin. is_driven drives pin && p pin) pin_count ≡ mask_of (λ pin. is_driven drives pin && q pin) pin_count
  same_stimuli = mask_same _ _ pin_count (λ pin lt. elim (cases_Bool (is_driven drives pin)) [
    | inl driven ↦ ap (λ x. is_driven drives pin && x) (same_driven pin lt driven)
    | inr off ↦ rw off refl
  ])

high_same : (a b : Level) → is_high a ≡ is_high b → a ≡ b
high_same Low Low e = refl
high_same Low High e = absurd (false≢true e)
high_same High Low e = absurd (false≢true (sym e))
high_same High High e = refl

-- an edge by stimuli changes the levels
pub edge_changes : (drives : Drives) (t a b pin : ℕ) → AreProper drives → level_at drives.stimuli pin t ≢ level_before drives.stimuli pin t →
    bit_or (stimulated drives t) (wired drives a) ≡ bit_or (stimulated_before drives t) (wired drives b) → ⊥
edge_changes drives t a b pin proper edge same =
    let driven : is_driven drives pin ≡ true = edges_are_of_driven_inputs drives pin t proper edge in
    let below : pin < pin_count = input_is_pin pin (and_parts (is_input pin) (is_none (wire_to drives.wires pin)) driven).0 in
    edge (high_same _ _ (same_driven drives (λ n. is_high (level_at drives.stimuli n t)) (λ n. is_high (level_before drives.stimuli n t)) a b same pin below driven))

-- A frame that is driven on RXD is received.
use Rattle.std.proofs.Common.{◌≡◌, ℕ, zero, suc, ◌+◌, ◌*◌, ◌/◌, ◌%◌, ◌^◌, ◌<◌, ◌≤◌, ◌==◌, Bool, true, false, not, ◌&&◌, refl, sym, ◌∙◌, ap, subst, arith, inl, inr, List, [], ◌∷◌}
use Rattle.std.specs.Prelude.{if◌then◌else◌, nat_le, map}
use Rattle.std.proofs.lemmas.Bool.{cases_Bool, and_left, or_from, lt-leb, eqb-true, eqb-false, false_from_ne_true, false≢true}
use Rattle.std.proofs.lemmas.Nat.{div-mul-add}
use Rattle.std.proofs.Math.Nat.{zero-div}
use Rattle.kc_extra.specs.Histories.{Access}
use Rattle.kc_serial.specs.Frames.{bit_length, frame_level}
use Rattle.kc_serial.specs.Samples.{half_bit}
use Rattle.kc_serial.specs.Port.{receives}
use Rattle.kc_serial.specs.Registers.{sp_con}
use Rattle.kc_serial.specs.History.{Driven, falls, port_at, sample_state, number_of, byte_levels}
use Rattle.kc_serial.proofs.SampleLaws.{half_some, two_halves}
use Rattle.kc_serial.specs.Accesses.{log, is_read_of, control_before, rate_before, comes_since}
use Rattle.kc_serial.specs.Receptions.{sample_of, forbids, IsReceiving, catches_of, Completes, IsCompletion, byte_of, IsLastByte}
use Rattle.kc_serial.specs.Known.{IsSet}
use Rattle.kc_serial.specs.Worked.{settings, levels_of, driven, DrivenFramesAreReceived}
use Rattle.kc_serial.proofs.AccessLaws.{any_done, any_none}
use Rattle.kc_serial.proofs.ReceptionLaws.{falls_caught, one_completes, bytes_last}
use Rattle.kc_serial.proofs.KnownLaws.{received_set, framing_set}

-- the bits of a byte make it again
number_same : (f g : ℕ → Bool) → ((k : ℕ) → f k ≡ g k) → (ks : List ℕ) → number_of (map f ks) ≡ number_of (map g ks)
number_same f g same [] = refl
number_same f g same (k ∷ ks) =
    ap (λ b. (if b then 1 else 0) + 2 * number_of (map f ks)) (same k) ∙ ap (λ n. (if g k then 1 else 0) + 2 * n) (number_same f g same ks)

low_bit : (x : ℕ) → (if x % 2 == 1 then 1 else 0) ≡ x % 2
low_bit x = elim (cases_Bool (x % 2 == 1)) [
  | inl one ↦ ap (λ b. if b then 1 else 0) one ∙ sym (eqb-true (x % 2) 1 one)
  | inr none ↦
      let other : x % 2 ≡ 1 → ⊥ = eqb-false (x % 2) 1 none in
      ap (λ b. if b then 1 else 0) none ∙ omega (arith, other)
]

bits_are : (byte : ℕ) → byte < 2 ^ 8 →
    number_of (map (λ k. frame_level byte k) (1 ∷ 2 ∷ 3 ∷ 4 ∷ 5 ∷ 6 ∷ 7 ∷ 8 ∷ [])) ≡ byte
bits_are byte lt =
    rw (low_bit (byte / 1), low_bit (byte / 2), low_bit (byte / 4), low_bit (byte / 8), low_bit (byte / 16), low_bit (byte / 32), low_bit (byte / 64), low_bit (byte / 128))
    (digits byte lt)
  where
    digits : (n : ℕ) → n < 2 ^ 8 →
        n / 1 % 2 + 2 * (n / 2 % 2 + 2 * (n / 4 % 2 + 2 * (n / 8 % 2 + 2 * (n / 16 % 2 + 2 * (n / 32 % 2 + 2 * (n / 64 % 2 + 2 * (n / 128 % 2 + 2 * 0))))))) ≡ n
    digits n few = omega arith

-- the low byte of the rate comes first
two_bytes : (rate : ℕ) → rate < 2 ^ 16 → (0 / 256 + 256 * (rate % 256)) / 256 + 256 * (rate / 256) ≡ rate
two_bytes rate lt = omega arith

module _ (rate byte : ℕ) where
  abbrev h : Driven
  h = driven rate byte

  abbrev end : ℕ
  end = sample_state 1 rate 9

  -- nothing is accessed behind state 0
  none_later : (such : Access → Bool) (n t : ℕ) → comes_since such (suc n) (log h t) ≡ false
  unfolding log
  none_later such n zero = refl
  none_later such n (suc zero) =
      any_done (λ d. nat_le (suc n) d.at && such d.access) 0 [] (settings rate 0)
      ∙ or_from _ _ (any_none (λ d. nat_le (suc n) d.at && such d.access) 0 (λ a. and_left (nat_le (suc n) 0) (such a) (lt-leb (suc n) 0 (omega arith))) (settings rate 0)) refl
  none_later such n (suc (suc t)) = none_later such n (suc t)

  rate_is : (t : ℕ) → rate < 2 ^ 16 → rate_before h (suc t) ≡ rate
  unfolding log
  rate_is zero lt = two_bytes rate lt
  rate_is (suc t) lt = rate_is t lt

  may_receive : receives (control_before h 1) ≡ true
  unfolding log
  may_receive = refl

  falls_at : falls h 1 ≡ true
  falls_at = ap (λ k. not (frame_level byte k)) (zero-div (bit_length rate))

  level_at : (k : ℕ) → h.levels (sample_state 1 rate k) ≡ frame_level byte k
  level_at k =
      let double : bit_length rate ≡ half_bit rate + half_bit rate = two_halves rate in
      let some : 0 < half_bit rate = half_some rate in
      let place : sample_state 1 rate k ≡ suc (k * bit_length rate + half_bit rate) = in_bit (half_bit rate) (k * bit_length rate) in
      ap (levels_of rate byte) place ∙ ap (λ n. frame_level byte n) (div-mul-add k (bit_length rate) (half_bit rate) (omega arith))
    where
      in_bit : (half bits : ℕ) → 1 + half + bits ≡ suc (bits + half)
      in_bit half bits = omega arith

  not_at_start : catches_of h 0 ≡ false
  not_at_start = refl

  none_before : (e : ℕ) → IsReceiving h (catches_of h) e 1 → ⊥
  none_before e r =
      let past : e < 1 = r.past in
      let zero_is : e ≡ 0 = omega arith in
      false≢true (sym not_at_start ∙ ap (catches_of h) (sym zero_is) ∙ r.caught)

  samples : (k : ℕ) → rate < 2 ^ 16 → sample_of h 1 k ≡ sample_state 1 rate k
  samples k lt = ap (λ n. sample_state 1 n k) (rate_is 0 lt)

  completes_now : rate < 2 ^ 16 → Completes h (catches_of h) 1 end
  completes_now lt = record {
    under = record {
      caught = (falls_caught h 1).1 (falls_at, may_receive, none_before);
      past = let some : 0 < half_bit rate = half_some rate in omega arith;
      within = let last : sample_of h 1 9 ≡ end = samples 9 lt in omega arith;
      start_bit = λ past. ap h.levels (samples 0 lt) ∙ level_at 0;
      allowed = none_later (λ a. forbids a) 0 end;
    };
    last = samples 9 lt;
  }

  -- none completes before
  late : rate < 2 ^ 16 → (e c : ℕ) → Completes h (catches_of h) e c → end ≤ c
  late lt zero c done = absurd (false≢true (sym not_at_start ∙ done.under.caught))
  late lt (suc m) c done =
      let at : sample_of h (suc m) 9 ≡ sample_state (suc m) rate 9 = ap (λ n. sample_state (suc m) n 9) (rate_is m lt) in
      let last : sample_of h (suc m) 9 ≡ c = done.last in
      omega arith

  received_is : rate < 2 ^ 16 → byte < 2 ^ 8 → IsLastByte h (catches_of h) (suc end) (port_at h (suc end)).received → (port_at h (suc end)).received ≡ byte
  received_is lt few last = elim last [
    | inl found ↦
        let after : end ≤ found.1 = late lt found.0 found.1 found.2.completes in
        let past : found.1 < suc end = found.2.past in
        let now : found.1 ≡ end = omega arith in
        let under : IsReceiving h (catches_of h) found.0 end = subst (IsReceiving h (catches_of h) found.0) now found.2.completes.under in
        let here : found.0 ≡ 1 = one_completes h end found.0 1 under (completes_now lt).under in
        found.3
        ∙ ap (byte_of h) here
        ∙ ap (λ n. number_of (byte_levels h.levels 1 n)) (rate_is 0 lt)
        ∙ number_same (λ k. h.levels (sample_state 1 rate k)) (λ k. frame_level byte k) level_at (1 ∷ 2 ∷ 3 ∷ 4 ∷ 5 ∷ 6 ∷ 7 ∷ 8 ∷ [])
        ∙ bits_are byte few
    | inr none ↦ absurd (none.0 end (omega arith) (1, completes_now lt))
  ]

  ri_is : rate < 2 ^ 16 → (port_at h (suc end)).flags.received ≡ true
  ri_is lt =
      let place : end ≡ suc (half_bit rate + 9 * bit_length rate) = omega arith in
      (received_set h (suc end)).1 (record {
        at = end;
        sets = (1, completes_now lt);
        past = omega arith;
        unread = ap (λ s. comes_since (λ a. is_read_of sp_con a) s (log h (suc end))) place ∙ none_later (λ a. is_read_of sp_con a) (half_bit rate + 9 * bit_length rate) (suc end);
      })

  fe_is : rate < 2 ^ 16 → (port_at h (suc end)).flags.framing ≡ false
  fe_is lt = false_from_ne_true (port_at h (suc end)).flags.framing (λ is. wrong ((framing_set h (suc end)).0 is))
    where
      wrong : IsSet h (λ c. IsCompletion h (catches_of h) c × (h.levels c ≡ false)) (suc end) → ⊥
      wrong s =
          let after : end ≤ s.at = late lt s.sets.0.0 s.at s.sets.0.1 in
          let past : s.at < suc end = s.past in
          let now : s.at ≡ end = omega arith in
          false≢true (sym s.sets.1 ∙ ap h.levels now ∙ level_at 9)

pub driven_received : DrivenFramesAreReceived
driven_received rate byte lt few = record {
  completes = completes_now rate byte lt;
  received = received_is rate byte lt few (bytes_last (driven rate byte) (suc (sample_state 1 rate 9)));
  ri = ri_is rate byte lt;
  fe = fe_is rate byte lt;
}

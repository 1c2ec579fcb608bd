-- A frame over a span, and what of a state is heard outside.
use Rattle.std.proofs.Common.{◌≡◌, ℕ, zero, suc, ◌+◌, ◌-◌, ◌*◌, ◌/◌, ◌<◌, ◌≤◌, ◌==◌, Bool, true, false, not, ◌&&◌, refl, sym, ◌∙◌, ap, subst, arith, inl, inr, Option, Some, add-zero, add-suc, add-one}
use Rattle.std.specs.Prelude.{if◌then◌else◌}
use Rattle.std.proofs.lemmas.Bool.{cases_lt, cases_Bool, and_from, and_parts, and_left, and_right, not-true, not_from_true, not_from_false, le-leb, lt-leb, leb-false, false≢true}
use Rattle.std.proofs.lemmas.Nat.{div_below, mul-le}
use Rattle.std.proofs.Math.Nat.{suc-mul, lt-div-mul-add, zero-div}
use Rattle.kc_extra.specs.Further.{is_empty}
use Rattle.kc_serial.specs.Frames.{bit_length, frame_level, shown, is_over, ends, begun_of, sending_after}
use Rattle.kc_serial.specs.Port.{requests, txd_edges}
use Rattle.kc_serial.specs.Spans.{older_sending, SendingFits}
use Rattle.kc_serial.specs.Quiet.{keeps_level, is_quiet_sending, SendingBefore}
use Rattle.kc_serial.specs.declared.sending.Frame.{Frame}
use Rattle.kc_serial.specs.declared.sending.Sending.{Sending}
use Rattle.kc_serial.specs.declared.sending.Sending.TheVariants.{Idle, Next, Busy}
use Rattle.kc_serial.proofs.Quotients.{quotient_next, quotient_later, quotient_before, quotient_at}

pub ends_not : (s : Sending) → is_quiet_sending s ≡ true → ends s ≡ false
ends_not Idle quiet = refl
ends_not (Next byte) quiet = refl
ends_not (Busy frame) quiet = not-true (is_over frame) (and_parts (not (is_over frame)) _ quiet).0

pub sending_next : (rate : ℕ) (waiting : Option ℕ) (k : ℕ) (s : Sending) → is_quiet_sending (older_sending k s) ≡ true →
    sending_after rate waiting (older_sending k s) ≡ older_sending (suc k) s
sending_next rate waiting k Idle quiet = refl
sending_next rate waiting k (Next byte) quiet = absurd (false≢true quiet)
sending_next rate waiting k (Busy frame) quiet =
    let older : Frame = record frame { age = frame.age + k } in
    ap (λ t. if t then begun_of rate waiting else Busy (record older { age = frame.age + k + 1 })) (ends_not (Busy older) quiet)
    ∙ ap (λ n. Busy (record older { age = n })) (add-one (frame.age + k) ∙ sym (add-suc frame.age k))

pub sending_start : (s : Sending) → older_sending 0 s ≡ s
sending_start Idle = refl
sending_start (Next byte) = refl
sending_start (Busy frame) = ap (λ n. Busy (record frame { age = n })) (add-zero frame.age)

pub sending_fits : (n : ℕ) (s : Sending) → ((k : ℕ) → k < n → is_quiet_sending (older_sending k s) ≡ true) → SendingFits n s
sending_fits n Idle quiet = tt
sending_fits n (Next byte) quiet = tt
sending_fits zero (Busy frame) quiet = omega arith
sending_fits (suc n) (Busy frame) quiet =
    let older : Frame = record frame { age = frame.age + n } in
    let lt : frame.age + n + 1 < 10 * bit_length frame.rate = leb-false _ _ (ends_not (Busy older) (quiet n (omega arith))) in
    omega arith

same_level : (x : Bool) → is_empty (txd_edges x x) ≡ true
same_level true = refl
same_level false = refl

heard : (done still : Bool) → ((requests false done == 0) && still) ≡ ((true && still) && not done)
heard true true = refl
heard true false = refl
heard false true = refl
heard false false = refl

unheard : (done still : Bool) → ((requests true done == 0) && still) ≡ false
unheard true still = refl
unheard false still = refl

-- a state is silent where its sending half is quiet and no reception completes
pub silent_is : (rate : ℕ) (waiting : Option ℕ) (s : Sending) (done : Bool) →
    ((requests (ends s) done == 0) && is_empty (txd_edges (shown s) (shown (sending_after rate waiting s)))) ≡ (is_quiet_sending s && not done)
silent_is rate waiting Idle done = heard done true
silent_is rate waiting (Next byte) done =
    let first : frame_level byte (0 / bit_length rate) ≡ false = ap (frame_level byte) (zero-div (bit_length rate)) in
    ap (λ l. (requests false done == 0) && is_empty (txd_edges true l)) first ∙ and_right (requests false done == 0) false refl
silent_is rate waiting (Busy frame) done = elim (cases_Bool (is_over frame)) [
  | inl over ↦
      ap (λ t. (requests t done == 0) && is_empty (txd_edges (shown (Busy frame)) (shown (sending_after rate waiting (Busy frame))))) over
      ∙ unheard done _
      ∙ sym (ap (λ t. (not t && moves) && not done) over)
  | inr on ↦
      ap (λ t. (requests t done == 0) && is_empty (txd_edges (shown (Busy frame)) (shown (if t then begun_of rate waiting else Busy (record frame { age = frame.age + 1 }))))) on
      ∙ heard done moves
      ∙ sym (ap (λ t. (not t && moves) && not done) on)
]
  where
    moves : Bool
    moves = is_empty (txd_edges (frame_level frame.byte (frame.age / bit_length frame.rate)) (frame_level frame.byte ((frame.age + 1) / bit_length frame.rate)))

-- TXD keeps its level from one state to the next, or takes the next level of the frame
module _ (byte rate age : ℕ) where
  abbrev b : ℕ
  b = bit_length rate

  abbrev frame : ℕ → Sending
  frame n = Busy (record { byte = byte; rate = rate; age = n })

  some : 0 < b
  some = omega arith

  abbrev between : ℕ → ℕ → Bool
  between p q = is_empty (txd_edges (frame_level byte p) (frame_level byte q))

  quiet_at : (j k : ℕ) → j ≤ 10 → ((i : ℕ) → age / b + 1 ≤ i → i < j → keeps_level byte i ≡ true) → suc (age + k) < j * b → is_quiet_sending (frame (age + k)) ≡ true
  quiet_at j k few same lt =
      let x : ℕ = age + k in
      let most : j * b ≤ 10 * b = mul-le j b 10 b few (omega arith) in
      let on : is_over (record { byte = byte; rate = rate; age = age + k }) ≡ false = lt-leb (10 * b) (age + k + 1) (omega arith) in
      let one : age + k + 1 ≡ suc (age + k) = add-one (age + k) in
      let still : between ((age + k) / b) ((age + k + 1) / b) ≡ true =
      ap (λ n. between ((age + k) / b) (n / b)) one
      ∙ (elim (quotient_next b (age + k) some) [
        | inl grows ↦
            let before : suc ((age + k) / b) - 1 ≡ (age + k) / b = omega arith in
            let later : age / b ≤ (age + k) / b = quotient_later b age (age + k) some (omega arith) in
            let less : suc ((age + k) / b) < j = subst (λ q. q < j) grows.0 (div_below (suc (age + k)) b j some lt) in
            ap (λ q. between ((age + k) / b) q) grows.0
            ∙ ap (λ p. between p (suc ((age + k) / b))) (sym before)
            ∙ same (suc ((age + k) / b)) (omega arith) less
        | inr stays ↦ ap (λ q. between ((age + k) / b) q) stays.0 ∙ same_level (frame_level byte ((age + k) / b))
      ]) in
      and_from _ _ (not_from_false _ on) still

  active_at : (q x : ℕ) → (suc q < 10 → keeps_level byte (suc q) ≡ false) → suc q ≤ 10 → suc x ≡ suc q * b → is_quiet_sending (frame x) ≡ false
  active_at q x other few is = elim (cases_lt (suc q) 10) [
    | inl lt ↦
        let before : suc q - 1 ≡ q = omega arith in
        and_right (not (is_over (record { byte = byte; rate = rate; age = x }))) _
        (ap (λ n. between (x / b) (n / b)) (add-one x)
        ∙ ap (λ p. between p (suc x / b)) (quotient_before b q x some is ∙ sym before)
        ∙ ap (λ p. between (suc q - 1) p) (quotient_at b (suc q) (suc x) some is)
        ∙ other lt)
    | inr ge ↦
        let all : suc q ≡ 10 = omega arith in
        let whole : suc q * b ≡ 10 * b = ap (λ n. n * b) all in
        and_left (not (is_over (record { byte = byte; rate = rate; age = x }))) _ (not_from_true _ (le-leb (10 * b) (x + 1) (omega arith)))
  ]

  pub frame_before : (j : ℕ) → age / b + 1 ≤ j → j ≤ 10 → ((i : ℕ) → age / b + 1 ≤ i → i < j → keeps_level byte i ≡ true) → (j < 10 → keeps_level byte j ≡ false) →
      SendingBefore (frame age) (Some (j * b - 1 - age))
  frame_before zero later few same other = absurd (omega arith)
  frame_before (suc q) later few same other =
      let below : age < age / b * b + b = lt-div-mul-add some in
      let more : suc (age / b) * b ≡ age / b * b + b = suc-mul (age / b) b in
      let most : suc (age / b) * b ≤ suc q * b = mul-le (suc (age / b)) b (suc q) b (omega arith) (omega arith) in
      let within : suc age ≤ suc q * b = omega arith in
      (λ k lt. quiet_at (suc q) k few same (omega arith), active_at q (age + (suc q * b - 1 - age)) other few (omega arith))

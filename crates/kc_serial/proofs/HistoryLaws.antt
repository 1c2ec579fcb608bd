-- A reception by the levels of RXD at its sample states.
use Rattle.std.proofs.Common.{◌≡◌, ℕ, zero, suc, ◌+◌, ◌-◌, ◌*◌, ◌/◌, ◌%◌, ◌<◌, ◌≤◌, ◌==◌, Bool, true, false, ◌&&◌, List, [], ◌∷◌, refl, sym, ◌∙◌, ap, subst, arith, inl, inr, Option, Some, None, add-zero, add-suc, add-one}
use Rattle.std.specs.Prelude.{nat_lt, if◌then◌else◌, fold}
use Rattle.std.proofs.lemmas.Bool.{cases_lt, cases_Bool, and_parts, lt-ltb, le-ltb, lt-leb, le-leb, ne_eqb, leb-true, leb-false}
use Rattle.std.proofs.lemmas.Nat.{div-add-mod', le-div}
use Rattle.std.proofs.Math.Nat.{mod-eq_of_lt, div-eq_of_lt}
use Rattle.kc_extra.specs.Two.{either_holds}
use Rattle.kc_extra.specs.Histories.{Access, accessed}
use Rattle.kc_serial.specs.Frames.{bit_length, shown, ends, begun, begun_of, is_over, sending_after}
use Rattle.kc_serial.specs.Samples.{half_bit, is_sample, is_complete, shifted, sampled, with_sample, reception_after}
use Rattle.kc_serial.specs.Port.{ticked, receives, is_on}
use Rattle.kc_serial.specs.Registers.{sbuf, baud_rate, sp_con, is_readable, is_writable, after_read, after_write, queued, with_byte, with_rate, with_control}
use Rattle.kc_serial.specs.Spans.{bits_by}
use Rattle.kc_serial.specs.Unit.{serial_further}
use Rattle.kc_serial.specs.History.{Driven, falls, port_at, LevelsAreKept, sample_state, number_of, ReceivedBytesAreSamples, FramesAreShown}
use Rattle.kc_serial.specs.declared.receiving.Reception.{Reception}
use Rattle.kc_serial.specs.declared.sending.Frame.{Frame}
use Rattle.kc_serial.specs.declared.sending.Sending.{Sending}
use Rattle.kc_serial.specs.declared.sending.Sending.TheVariants.{Idle, Next, Busy}
use Rattle.kc_serial.specs.declared.serial.Serial.{Serial}
use Rattle.kc_serial.proofs.Quotients.{taken_next, quotient_before}
use Rattle.kc_serial.proofs.SampleLaws.{half_some, two_halves, is_equal}

some_same : {T : Type 0} (x y : T) → Some x ≡ Some y → x ≡ y
some_same x y e = cc

-- an access keeps the level of RXD
queued_level : (byte : ℕ) (s : Sending) (d : Serial) → (queued byte s d).rxd ≡ d.rxd
queued_level byte Idle d = refl
queued_level byte (Next other) d = refl
queued_level byte (Busy frame) d = refl

access_level : (t : ℕ) (d : Serial) (a : Access) → (accessed serial_further t d a).rxd ≡ d.rxd
access_level t d a =
    let P = λ (e : Serial). e.rxd ≡ d.rxd in
    either_holds P a.is_write (after_write a.window a.sfr a.value d) (after_read a.window a.sfr d)
    (either_holds P (is_writable a.window a.sfr) _ d
    (either_holds P (a.sfr == sbuf) (with_byte a.value d) _
    (either_holds P (is_on d.control) (queued a.value d.sending d) d (queued_level a.value d.sending d) refl)
    (either_holds P (a.sfr == baud_rate) (with_rate a.value d) (with_control a.value d) refl refl))
    refl)
    (either_holds P (is_readable a.window a.sfr && (a.sfr == sp_con)) _ d refl refl)

accesses_level : (t : ℕ) (accesses : List Access) (d : Serial) → (fold (accessed serial_further t) d accesses).rxd ≡ d.rxd
accesses_level t [] d = refl
accesses_level t (a ∷ accesses) d = accesses_level t accesses (accessed serial_further t d a) ∙ access_level t d a

pub levels_kept : LevelsAreKept
unfolding port_at
levels_kept h zero = refl
levels_kept h (suc t) = accesses_level t (h.accesses t) (ticked (h.levels t) (falls h t) (port_at h t))

-- a reception that is under way after an access was so before
abbrev Since : Serial → Serial → Type 0
Since d e = (r : Reception) → e.reception ≡ Some r → d.reception ≡ Some r

queued_since : (byte : ℕ) (s : Sending) (d : Serial) → Since d (queued byte s d)
queued_since byte Idle d = λ r e. e
queued_since byte (Next other) d = λ r e. e
queued_since byte (Busy frame) d = λ r e. e

kept_if : (may : Bool) (o : Option Reception) (r : Reception) → (if may then o else None) ≡ Some r → o ≡ Some r
kept_if true o r e = e
kept_if false o r e = absurd (cc)

access_since : (t : ℕ) (d : Serial) (a : Access) → Since d (accessed serial_further t d a)
access_since t d a =
    either_holds (Since d) a.is_write (after_write a.window a.sfr a.value d) (after_read a.window a.sfr d)
    (either_holds (Since d) (is_writable a.window a.sfr) _ d
    (either_holds (Since d) (a.sfr == sbuf) (with_byte a.value d) _
    (either_holds (Since d) (is_on d.control) (queued a.value d.sending d) d (queued_since a.value d.sending d) (λ r e. e))
    (either_holds (Since d) (a.sfr == baud_rate) (with_rate a.value d) (with_control a.value d) (λ r e. e) (λ r e. kept_if (receives a.value) d.reception r e)))
    (λ r e. e))
    (either_holds (Since d) (is_readable a.window a.sfr && (a.sfr == sp_con)) _ d (λ r e. e) (λ r e. e))

accesses_since : (t : ℕ) (accesses : List Access) (d : Serial) → Since d (fold (accessed serial_further t) d accesses)
accesses_since t [] d = λ r e. e
accesses_since t (a ∷ accesses) d = λ r e. access_since t d a r (accesses_since t accesses (accessed serial_further t d a) r e)

-- a frame under way stays so
abbrev Stays : Serial → Serial → Type 0
Stays d e = (frame : Frame) → d.sending ≡ Busy frame → e.sending ≡ Busy frame

queued_stays : (byte : ℕ) (s : Sending) (d : Serial) → d.sending ≡ s → Stays d (queued byte s d)
queued_stays byte Idle d is = λ frame e. absurd (idle_is_not frame (sym is ∙ e))
  where
    idle_is_not : (frame : Frame) → Idle ≡ Busy frame → ⊥
    idle_is_not frame e = cc
queued_stays byte (Next other) d is = λ frame e. e
queued_stays byte (Busy old) d is = λ frame e. e

access_stays : (t : ℕ) (d : Serial) (a : Access) → Stays d (accessed serial_further t d a)
access_stays t d a =
    either_holds (Stays d) a.is_write (after_write a.window a.sfr a.value d) (after_read a.window a.sfr d)
    (either_holds (Stays d) (is_writable a.window a.sfr) _ d
    (either_holds (Stays d) (a.sfr == sbuf) (with_byte a.value d) _
    (either_holds (Stays d) (is_on d.control) (queued a.value d.sending d) d (queued_stays a.value d.sending d refl) (λ frame e. e))
    (either_holds (Stays d) (a.sfr == baud_rate) (with_rate a.value d) (with_control a.value d) (λ frame e. e) (λ frame e. e)))
    (λ frame e. e))
    (either_holds (Stays d) (is_readable a.window a.sfr && (a.sfr == sp_con)) _ d (λ frame e. e) (λ frame e. e))

accesses_stay : (t : ℕ) (accesses : List Access) (d : Serial) → Stays d (fold (accessed serial_further t) d accesses)
accesses_stay t [] d = λ frame e. e
accesses_stay t (a ∷ accesses) d = λ frame e. accesses_stay t accesses (accessed serial_further t d a) frame (access_stays t d a frame e)

frame_goes_on : (h : Driven) (t byte rate age : ℕ) → age + 1 < 10 * bit_length rate →
    (port_at h t).sending ≡ Busy (record { byte = byte; rate = rate; age = age }) →
    (port_at h (suc t)).sending ≡ Busy (record { byte = byte; rate = rate; age = age + 1 })
unfolding port_at
frame_goes_on h t byte rate age young is =
    let on : is_over (record { byte = byte; rate = rate; age = age }) ≡ false = lt-leb (10 * bit_length rate) (age + 1) young in
    accesses_stay t (h.accesses t) (ticked (h.levels t) (falls h t) (port_at h t)) (record { byte = byte; rate = rate; age = age + 1 })
    (ap (sending_after (port_at h t).rate (port_at h t).waiting) is
    ∙ ap (λ s. if s then begun_of (port_at h t).rate (port_at h t).waiting else Busy (record { byte = byte; rate = rate; age = age + 1 })) on)

frame_at : (h : Driven) (f byte rate n : ℕ) → (port_at h (suc f)).sending ≡ begun rate byte → n < 10 * bit_length rate →
    (port_at h (suc (f + n))).sending ≡ Busy (record { byte = byte; rate = rate; age = n })
frame_at h f byte rate zero is lt = ap (λ t. (port_at h (suc t)).sending) (add-zero f) ∙ is
frame_at h f byte rate (suc n) is lt =
    ap (λ t. (port_at h (suc t)).sending) (add-suc f n)
    ∙ frame_goes_on h (suc (f + n)) byte rate n (omega arith) (frame_at h f byte rate n is (omega arith))
    ∙ ap (λ age. Busy (record { byte = byte; rate = rate; age = age })) (add-one n)

pub frames_shown : FramesAreShown
frames_shown h f byte rate is =
    let some : suc (f + (10 * bit_length rate - 1)) ≡ f + 10 * bit_length rate = omega arith in
    record {
      levels = λ n lt. ap shown (frame_at h f byte rate n is lt);
      end =
          ap (λ t. ends (port_at h t).sending) (sym some)
          ∙ ap ends (frame_at h f byte rate (10 * bit_length rate - 1) is (omega arith))
          ∙ le-leb (10 * bit_length rate) (10 * bit_length rate - 1 + 1) (omega arith);
    }

-- the shift register after so many samples
abbrev bits_in : (ℕ → Bool) → ℕ → ℕ → ℕ → ℕ
bits_in levels e rate zero = 0
bits_in levels e rate (suc k) = shifted (levels (sample_state e rate (suc k))) (bits_in levels e rate k)

-- a reception under way, as state t begins
record Under (h : Driven) (t : ℕ) (r : Reception) : Type 0 where
  edge : ℕ
  fell : falls h edge ≡ true
  allowed : receives (port_at h edge).control ≡ true
  rate : r.rate ≡ (port_at h edge).rate
  age : edge + suc r.age ≡ t
  young : r.age < 9 * bit_length r.rate + half_bit r.rate
  start_bit : half_bit r.rate ≤ r.age → h.levels (sample_state edge r.rate 0) ≡ false
  register : r.register ≡ bits_in h.levels edge r.rate (bits_by r.rate r.age)

begun_under : (h : Driven) (t rate : ℕ) → rate ≡ (port_at h t).rate → falls h t ≡ true → receives (port_at h t).control ≡ true →
    Under h (suc t) (record { rate = rate; age = 0; register = 0 })
begun_under h t rate same fell allowed =
    let none : (0 + half_bit rate) / bit_length rate ≡ 0 = div-eq_of_lt (omega arith) in
    let bits : bits_by rate 0 ≡ 0 = ap (λ q. q - 1) none in
    record {
      edge = t;
      fell = fell;
      allowed = allowed;
      rate = same;
      age = omega arith;
      young = omega arith;
      start_bit = λ le. absurd (omega arith);
      register = sym (ap (bits_in h.levels t rate) bits);
    }

module _ (h : Driven) (t : ℕ) (r : Reception) (u : Under h t r) (going : suc r.age < 9 * bit_length r.rate + half_bit r.rate) where
  abbrev b : ℕ
  b = bit_length r.rate

  abbrev half : ℕ
  half = half_bit r.rate

  abbrev later : ℕ → Reception
  later register = record { rate = r.rate; age = suc r.age; register = register }

  onward : (register : ℕ) → (half ≤ suc r.age → h.levels (sample_state u.edge r.rate 0) ≡ false) →
      register ≡ bits_in h.levels u.edge r.rate (bits_by r.rate (suc r.age)) → Under h (suc t) (later register)
  onward register start is =
      let place : u.edge + suc r.age ≡ t = u.age in
      record {
        edge = u.edge;
        fell = u.fell;
        allowed = u.allowed;
        rate = u.rate;
        age = omega arith;
        young = going;
        start_bit = start;
        register = is;
      }

  at_start : (high : Bool) (r' : Reception) → high ≡ h.levels t → suc r.age ≡ half → bits_by r.rate (suc r.age) ≡ bits_by r.rate r.age →
      (if high then None else Some (later r.register)) ≡ Some r' → Under h (suc t) r'
  at_start true r' level place same e = absurd (cc)
  at_start false r' level place same e =
      let now : sample_state u.edge r.rate 0 ≡ t = let age : u.edge + suc r.age ≡ t = u.age in let none : 0 * b ≡ 0 = omega arith in omega arith in
      subst (Under h (suc t)) (some_same (later r.register) r' e)
      (onward r.register (λ le. ap h.levels now ∙ sym level) (u.register ∙ ap (bits_in h.levels u.edge r.rate) (sym same)))

  under_next : (r' : Reception) → sampled (h.levels t) (later r.register) ≡ Some r' → Under h (suc t) r'
  under_next r' e =
      let double : b ≡ half + half = two_halves r.rate in
      let pos : 0 < half = half_some r.rate in
      let some : 0 < b = omega arith in
      elim (taken_next b half r.age (half_some r.rate) (two_halves r.rate)) [
        | inl here ↦
            let test : is_sample r.rate (suc r.age) ≡ true = is_equal (suc r.age % b) half here.0 in
            let with : with_sample (h.levels t) (later r.register) ≡ Some r' =
            sym (ap (λ s. if s then with_sample (h.levels t) (later r.register) else Some (later r.register)) test) ∙ e in
            elim (cases_lt (suc r.age) b) [
              | inl first ↦
                  let place : suc r.age ≡ half = sym (mod-eq_of_lt first) ∙ here.0 in
                  let none : (r.age + half) / b ≡ 0 = sym here.2 ∙ div-eq_of_lt first in
                  let same : bits_by r.rate (suc r.age) ≡ bits_by r.rate r.age = start_same ((r.age + half) / b) ((suc r.age + half) / b) here.1 none in
                  let within : nat_lt (suc r.age) b ≡ true = lt-ltb (suc r.age) b first in
                  at_start (h.levels t) r' refl place same
                  (sym (ap (λ s. if s then (if h.levels t then None else Some (later r.register)) else Some (later (shifted (h.levels t) r.register))) within) ∙ with)
              | inr past ↦
                  let one : 1 ≤ (r.age + half) / b = subst (λ q. 1 ≤ q) here.2 (le-div 1 (suc r.age) b some (omega arith)) in
                  let next : bits_by r.rate (suc r.age) ≡ suc (bits_by r.rate r.age) = grown ((r.age + half) / b) ((suc r.age + half) / b) here.1 one in
                  let within : nat_lt (suc r.age) b ≡ false = le-ltb (suc r.age) b past in
                  let whole : suc r.age / b * b + suc r.age % b ≡ suc r.age = div-add-mod' (suc r.age) b in
                  let count : suc r.age / b ≡ suc (bits_by r.rate r.age) = here.2 ∙ counted ((r.age + half) / b) one in
                  let product : suc r.age / b * b ≡ suc (bits_by r.rate r.age) * b = ap (λ q. q * b) count in
                  let rest : suc r.age % b ≡ half = here.0 in
                  let age : u.edge + suc r.age ≡ t = u.age in
                  let now : sample_state u.edge r.rate (suc (bits_by r.rate r.age)) ≡ t = omega arith in
                  let taken : shifted (h.levels t) r.register ≡ bits_in h.levels u.edge r.rate (bits_by r.rate (suc r.age)) =
                  ap (shifted (h.levels t)) u.register
                  ∙ ap (λ n. shifted (h.levels n) (bits_in h.levels u.edge r.rate (bits_by r.rate r.age))) (sym now)
                  ∙ ap (bits_in h.levels u.edge r.rate) (sym next) in
                  let new : Some (later (shifted (h.levels t) r.register)) ≡ Some r' =
                  sym (ap (λ s. if s then (if h.levels t then None else Some (later r.register)) else Some (later (shifted (h.levels t) r.register))) within) ∙ with in
                  subst (Under h (suc t)) (some_same (later (shifted (h.levels t) r.register)) r' new)
                  (onward (shifted (h.levels t) r.register) (λ le. u.start_bit (omega arith)) taken)
            ]
        | inr other ↦
            let test : is_sample r.rate (suc r.age) ≡ false = ne_eqb (suc r.age % b) half other.0 in
            let same : bits_by r.rate (suc r.age) ≡ bits_by r.rate r.age = ap (λ q. q - 1) other.1 in
            let new : Some (later r.register) ≡ Some r' =
            sym (ap (λ s. if s then with_sample (h.levels t) (later r.register) else Some (later r.register)) test) ∙ e in
            subst (Under h (suc t)) (some_same (later r.register) r' new)
            (onward r.register
            (λ le. elim (cases_lt r.age half) [
              | inl first ↦
                  let place : suc r.age ≡ half = omega arith in
                  let small : suc r.age < b = omega arith in
                  absurd (other.0 (mod-eq_of_lt small ∙ place))
              | inr passed ↦ u.start_bit passed
            ])
            (u.register ∙ ap (bits_in h.levels u.edge r.rate) (sym same)))
      ]
    where
      grown : (q q' : ℕ) → q' ≡ suc q → 1 ≤ q → q' - 1 ≡ suc (q - 1)
      grown q q' is one = omega arith

      start_same : (q q' : ℕ) → q' ≡ suc q → q ≡ 0 → q' - 1 ≡ q - 1
      start_same q q' is none = omega arith

      counted : (q : ℕ) → 1 ≤ q → q ≡ suc (q - 1)
      counted q one = omega arith

-- the Tick of a state
ticked_under : (h : Driven) (t rate : ℕ) (begins : Bool) (o : Option Reception) → rate ≡ (port_at h t).rate → (begins ≡ true → (falls h t ≡ true) × (receives (port_at h t).control ≡ true)) →
    ((r : Reception) → o ≡ Some r → Under h t r) → (r' : Reception) → reception_after rate (h.levels t) begins o ≡ Some r' → Under h (suc t) r'
ticked_under h t rate false None same began under r' e = absurd (cc)
ticked_under h t rate true None same began under r' e =
    let both = began refl in
    subst (Under h (suc t)) (some_same _ r' e) (begun_under h t rate same both.0 both.1)
ticked_under h t rate begins (Some r) same began under r' e = elim (cases_Bool (is_complete r)) [
  | inl done ↦
      let none : None ≡ Some r' = sym (ap (λ s. if s then None else sampled (h.levels t) (record r { age = r.age + 1 })) done) ∙ e in
      absurd (cc)
  | inr on ↦
      let going : r.age + 1 < 9 * bit_length r.rate + half_bit r.rate = leb-false _ _ on in
      under_next h t r (under r refl) (omega arith) r'
      (ap (λ n. sampled (h.levels t) (record r { age = n })) (sym (add-one r.age))
      ∙ sym (ap (λ s. if s then None else sampled (h.levels t) (record r { age = r.age + 1 })) on) ∙ e)
]

port_under : (h : Driven) (t : ℕ) (r : Reception) → (port_at h t).reception ≡ Some r → Under h t r
unfolding port_at
port_under h zero r e = absurd (cc)
port_under h (suc t) r e =
    ticked_under h t (port_at h t).rate (falls h t && receives (port_at h t).control) (port_at h t).reception refl
    (λ on. and_parts (falls h t) (receives (port_at h t).control) on) (port_under h t) r
    (accesses_since t (h.accesses t) (ticked (h.levels t) (falls h t) (port_at h t)) r e)

-- eight samples make the number with these bits
eight_bits : (a b c d e f g h : Bool) →
    shifted h (shifted g (shifted f (shifted e (shifted d (shifted c (shifted b (shifted a 0))))))) ≡ number_of (a ∷ b ∷ c ∷ d ∷ e ∷ f ∷ g ∷ h ∷ [])
eight_bits a b c d e f g h =
    rw (weighs a, weighs b, weighs c, weighs d, weighs e, weighs f, weighs g, weighs h)
    (eight (if a then 1 else 0) (if b then 1 else 0) (if c then 1 else 0) (if d then 1 else 0) (if e then 1 else 0) (if f then 1 else 0) (if g then 1 else 0) (if h then 1 else 0))
  where
    weighs : (x : Bool) → (if x then 128 else 0) ≡ 128 * (if x then 1 else 0)
    weighs true = refl
    weighs false = refl

    eight : (a b c d e f g h : ℕ) →
        (((((((0 / 2 + 128 * a) / 2 + 128 * b) / 2 + 128 * c) / 2 + 128 * d) / 2 + 128 * e) / 2 + 128 * f) / 2 + 128 * g) / 2 + 128 * h
        ≡ a + 2 * (b + 2 * (c + 2 * (d + 2 * (e + 2 * (f + 2 * (g + 2 * (h + 2 * 0)))))))
    eight a b c d e f g h = omega arith

pub bytes_are_samples : ReceivedBytesAreSamples
bytes_are_samples h t r under done =
    let u : Under h t r = port_under h t r under in
    let most : r.age < 9 * bit_length r.rate + half_bit r.rate = u.young in
    let least : 9 * bit_length r.rate + half_bit r.rate ≤ r.age + 1 = leb-true _ _ done in
    let double : bit_length r.rate ≡ half_bit r.rate + half_bit r.rate = two_halves r.rate in
    let pos : 0 < half_bit r.rate = half_some r.rate in
    let some : 0 < bit_length r.rate = omega arith in
    let ten : suc (r.age + half_bit r.rate) ≡ suc 9 * bit_length r.rate = omega arith in
    let bits : bits_by r.rate r.age ≡ 8 = ap (λ q. q - 1) (quotient_before (bit_length r.rate) 9 (r.age + half_bit r.rate) some ten) in
    let age : u.edge + suc r.age ≡ t = u.age in
    record {
      edge = u.edge;
      fell = u.fell;
      allowed = u.allowed;
      rate = u.rate;
      start_bit = u.start_bit (omega arith);
      byte = u.register ∙ ap (bits_in h.levels u.edge r.rate) bits ∙ eight_bits (at u.edge 1) (at u.edge 2) (at u.edge 3) (at u.edge 4) (at u.edge 5) (at u.edge 6) (at u.edge 7) (at u.edge 8);
      last = omega arith;
    }
  where
    at : ℕ → ℕ → Bool
    at e k = h.levels (sample_state e r.rate k)

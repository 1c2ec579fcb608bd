-- A beacon keeps the laws of further units.
use Rattle.std.proofs.Common.{◌≡◌, ℕ, Bool, true, false, ◌||◌, refl, sym, ◌∙◌, ap, arith, Some, None, [], ◌∷◌}
use Rattle.std.proofs.lemmas.Bool.{or_parts}
use Rattle.std.proofs.lemmas.List.Elements.{All-cons}
use Rattle.std.specs.Prelude.{bit_xor, is_some, if◌then◌else◌, All}
use Rattle.std.specs.Int.Bits.{xor_self, xor_zero_r, xor_assoc}
use Rattle.std.proofs.lemmas.Nat.{xor_comm}
use Rattle.kc_base.specs.Bits.{bit}
use Rattle.kc_base.specs.Pins.{IsPin}
use Rattle.kc_span.specs.Span.{Counted}
use Rattle.kc_extra.specs.Pins.{AreFew, MoveSome}
use Rattle.kc_unit_tests.specs.Blinking.{Blinking, ends, turned, gone_on, out_of, lamps_turned, at_levels, is_count, is_state, beacon_further, beacon_agrees, beacon_pins}

-- edges that are taken back
pub twice : (l m : ℕ) → bit_xor m (bit_xor l m) ≡ l
twice l m = ap (bit_xor m) (xor_comm l m) ∙ sym (xor_assoc m m l) ∙ ap (λ n. bit_xor n l) (xor_self m)

-- without an edge the levels are the kept ones
same_levels : (l : ℕ) (d : Blinking) → bit (bit_xor l 0) 21 ≡ d.held → at_levels l d ≡ d
same_levels l d agrees = ap (λ h. record d { held = h }) (ap (λ n. bit n 21) (sym (xor_zero_r l)) ∙ agrees)

pub rests_alone : (t l : ℕ) (d : Counted Blinking) → beacon_agrees l 0 d → beacon_further.step t l 0 d ≡ beacon_further.rest t d
rests_alone t l d agrees = ap (λ b. record d { inner = gone_on b }) (same_levels l d.inner agrees)

pub rests_alone_out : (t l : ℕ) (d : Counted Blinking) → beacon_agrees l 0 d → beacon_further.out t l 0 d ≡ beacon_further.rest_out t d
rests_alone_out t l d agrees = ap out_of (same_levels l d.inner agrees)

held_of_either : (b h : Bool) (x y : Blinking) → x.held ≡ h → y.held ≡ h → (if b then x else y).held ≡ h
held_of_either true h x y p q = p
held_of_either false h x y p q = q

-- no state changes what is kept, but by its levels
gone_on_held : (d : Blinking) → (gone_on d).held ≡ d.held
gone_on_held d = held_of_either (ends d) d.held (turned d) _ refl refl

pub keeps_levels : (t l e m : ℕ) (d : Counted Blinking) → beacon_agrees l e d → beacon_agrees m (bit_xor l m) (beacon_further.step t l e d)
keeps_levels t l e m d agrees = ap (λ n. bit n 21) (twice l m) ∙ sym (gone_on_held (at_levels l d.inner))

pub rest_keeps_level : (t l e : ℕ) (d : Counted Blinking) → beacon_agrees l e d → beacon_agrees l e (beacon_further.rest t d)
rest_keeps_level t l e d agrees = agrees ∙ sym (gone_on_held d.inner)

pub read_keeps_level : (w s t l e : ℕ) (d : Counted Blinking) → beacon_agrees l e d → beacon_agrees l e (beacon_further.after_read w s t d)
read_keeps_level w s t l e d agrees = agrees ∙ sym (held_of_either (is_state w s) d.inner.held _ _ refl refl)

pub write_keeps_level : (w s v t l e : ℕ) (d : Counted Blinking) → beacon_agrees l e d → beacon_agrees l e (beacon_further.after_write w s v t d)
write_keeps_level w s v t l e d agrees =
    agrees ∙ sym (held_of_either (is_count w s) d.inner.held _ _ refl (held_of_either (is_state w s) d.inner.held _ _ refl refl))

pub answers_registers : (w s t : ℕ) (d : Counted Blinking) → is_some (beacon_further.answer w s t d) ≡ beacon_further.readable w s
answers_registers w s t d = by (is_count w s) (is_state w s) _ _
  where
    by : (a b : Bool) (m n : ℕ) → is_some (if a then Some m else if b then Some n else None) ≡ (a || b)
    by true b m n = refl
    by false true m n = refl
    by false false m n = refl

pub no_read_elsewhere : (w s t : ℕ) (d : Counted Blinking) → beacon_further.readable w s ≡ false → beacon_further.after_read w s t d ≡ d
no_read_elsewhere w s t d none = rw ((or_parts (is_count w s) (is_state w s) none).1) refl

pub no_write_elsewhere : (w s v t : ℕ) (d : Counted Blinking) → beacon_further.writable w s ≡ false → beacon_further.after_write w s v t d ≡ d
no_write_elsewhere w s v t d none = rw ((or_parts (is_count w s) (is_state w s) none).0, (or_parts (is_count w s) (is_state w s) none).1) refl

pub two_pins : (d : Counted Blinking) → AreFew beacon_pins
two_pins d = record { few = omega arith; distinct = refl; named = All-cons IsPin 2 (3 ∷ []) (omega arith) (All-cons IsPin 3 [] (omega arith) none) }
  where
    none : All IsPin []
    none = λ k e lt. absurd (omega arith)

-- the first lamp before the second, or none
pub moves_two : (t l e : ℕ) (d : Counted Blinking) → beacon_agrees l e d → MoveSome beacon_pins (beacon_further.out t l e d).moved
moves_two t l e d agrees = by (ends (at_levels l d.inner)) d.inner
  where
    lamps : (a : Bool) (b : Blinking) → a ≡ b.first → MoveSome beacon_pins (lamps_turned b)
    lamps true b is = rw (sym is) (omega arith, refl, (omega arith, refl, tt))
    lamps false b is = rw (sym is) (omega arith, refl, tt)

    by : (end : Bool) (b : Blinking) → MoveSome beacon_pins (if end then lamps_turned b else [])
    by true b = lamps b.first b refl
    by false b = tt

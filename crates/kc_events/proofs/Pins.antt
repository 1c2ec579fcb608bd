-- Pins by their names, by trying all.
use Rattle.std.proofs.Common.{◌≡◌, ℕ, ◌<◌, Bool, true, false, eqb, Option, refl, ap, Some, None}
use Rattle.std.proofs.lemmas.Bool.{eqb-true}
use Rattle.kc_base.specs.Fields.{pin_of}
use Rattle.kc_base.specs.Pins.{pin_name, pin_count}
use Rattle.kc_base.proofs.PinLemmas.{each_below}
use Rattle.kc_base.proofs.Words.{Word, is_word, word-from}

abbrev pub is_number : Option ℕ → ℕ → Bool
is_number None n = false
is_number (Some m) n = eqb m n

pub number_is : (o : Option ℕ) (n : ℕ) → is_number o n ≡ true → o ≡ Some n
number_is None n h = absurd (let t : false ≡ true = h in cc)
number_is (Some m) n h = ap Some (eqb-true m n h)

pub pin-read : (pin : ℕ) → pin < pin_count → pin_of (pin_name pin) ≡ Some pin
unfolding pin_of
pin-read pin less = number_is (pin_of (pin_name pin)) pin (each_below (λ n. is_number (pin_of (pin_name n)) n) 41 pin refl less)

pub pin-word : (pin : ℕ) → pin < pin_count → Word (pin_name pin)
pin-word pin less = word-from (pin_name pin) (each_below (λ n. is_word (pin_name n)) 41 pin refl less)

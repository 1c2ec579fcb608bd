-- What a field may be.
use Rattle.std.proofs.Common.{◌≡◌, ℕ, ◌<◌, ◌≤◌, ◌==◌, Bool, true, false, not, ◌&&◌, List, [], ◌∷◌, refl, sym, ◌∙◌, ap, subst, arith, Option, Some, None, inl, inr}
use Rattle.std.specs.Prelude.{if◌then◌else◌, nat_le}
use Rattle.std.specs.List.{list_all, before_first}
use Rattle.std.proofs.lemmas.Bool.{cases_Bool, and_parts, leb-true}
use Rattle.std.proofs.lemmas.Bool.Decides.{nat_tests}
use Rattle.std.specs.Char.{is_ascii_digit}
use Rattle.kc_base.specs.Fields.{is_space, second_of, third_of, time_of}
use Rattle.kc_base.proofs.Numbers.{number-small}
use Rattle.kc_convert.specs.declared.sample.Sample.{Sample}
use Rattle.kc_convert.specs.declared.sample.Item.{Item}
use Rattle.kc_convert.specs.declared.sample.Item.TheVariants.{Blank, Sampled, Wrong}
use Rattle.kc_convert.specs.Fields.{channel_of, value_of}
use Rattle.kc_convert.specs.Lines.{sampled, sample_line, item_of}
use Rattle.kc_convert.specs.Samples.{channel_count, IsValue}

IsSmall : Item → Type 0
IsSmall Blank = Unit {0}
IsSmall Wrong = Unit {0}
IsSmall (Sampled s) = IsValue s

channel_small : (text : List ℕ) (n : ℕ) → channel_of text ≡ Some n → n < channel_count
channel_small [] n is = absurd cc
channel_small (c ∷ []) n is = grind (arith, nat_tests, is)
channel_small (c ∷ (d ∷ ds)) n is = absurd cc

sampled_small : (t c v : Option ℕ) → ((n : ℕ) → c ≡ Some n → n < channel_count) → ((n : ℕ) → v ≡ Some n → n ≤ 1023) → IsSmall (sampled t c v)
unfolding IsSmall
sampled_small None c v few small = tt
sampled_small (Some t) None v few small = tt
sampled_small (Some t) (Some c) None few small = tt
sampled_small (Some t) (Some c) (Some v) few small = (few c refl, small v refl)

either : (b : Bool) (x y : Item) → IsSmall x → IsSmall y → IsSmall (if b then x else y)
either true x y p q = p
either false x y p q = q

line_small : (line : List ℕ) → IsSmall (item_of line)
unfolding IsSmall
line_small [] = tt
line_small (c ∷ cs) =
    either (c == 59) Blank (if c == 64 then sample_line cs else Wrong) tt
    (either (c == 64) (sample_line cs) Wrong
    (sampled_small (time_of (before_first is_space cs)) (channel_of (second_of cs)) (value_of (third_of cs)) (channel_small (second_of cs)) (λ n is. number-small 1023 (third_of cs) n is)) tt)

-- a value of a line has ten bits, and is one of an input that there is
pub item_small : (line : List ℕ) (s : Sample) → item_of line ≡ Sampled s → IsValue s
unfolding IsSmall
item_small line s is = subst IsSmall is (line_small line)

pub not_false : (b : Bool) → not b ≡ false → b ≡ true
not_false true off = refl
not_false false off = absurd (cc)

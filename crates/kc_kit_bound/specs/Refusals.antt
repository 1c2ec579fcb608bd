-- Why no bound is found, as it is printed (this kit's own). What is known of refusals says what finds them.
use Rattle.std.specs.Prelude.{◌≡◌, ◌⊎◌, ℕ, List, ◌++◌, codes, flat_map}
use Rattle.kc_base.specs.Digits.{hex}
use Rattle.kc_bound.specs.declared.notes.Notes.{Notes}
use Rattle.kc_bound_find.specs.declared.refusal.Why.{Why}
use Rattle.kc_bound_find.specs.declared.refusal.Why.TheVariants as why
use Rattle.kc_bound_find.specs.declared.refusal.Refusal.{Refusal}
use Rattle.kc_bound_find.specs.Refusals.{AreRefusals}

abbrev pub word_of : Why → List ℕ
word_of why.Block = codes "block"
word_of why.Computed = codes "computed"
word_of why.Early = codes "early"
word_of why.Endless = codes "endless"
word_of why.Outside = codes "outside"
word_of why.Recursive = codes "recursive"
word_of why.Unbounded = codes "unbounded"

abbrev pub refusal_line : List ℕ → ℕ → List ℕ
refusal_line word a = word ++ codes " " ++ hex 4 a ++ codes "\n"

abbrev pub refusals_text : List Refusal → List ℕ
refusals_text refusals = flat_map (λ (r : Refusal). refusal_line (word_of r.why) r.at) refusals

-- the lines of refusals, one or more, by rising address
pub record AreRefused (image : List ℕ) (notes : Notes) (text : List ℕ) : Type 0 where
  pub refusals : List Refusal
  pub found : AreRefusals image notes refusals
  pub printed : text ≡ refusals_text refusals

-- or the line of a bound that is too long, alone
abbrev pub IsRefused : List ℕ → Notes → ℕ → List ℕ → Type 0
IsRefused image notes from text = AreRefused image notes text ⊎ (text ≡ refusal_line (codes "long") from)

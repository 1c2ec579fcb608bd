-- What names count from: nothing, address 0, the external that they are, or what the place of a statement counts from (after
-- the MCS-96 Macro Assembler User's Guide, "Relocatable Expressions").
use Rattle.std.specs.Prelude.{◌≡◌, ℕ, ◌<◌, Bool, true, List, ◌∷◌, ◌++◌, reverse, length}
use Rattle.std.specs.List.{AllPass}
use Rattle.kc_expr.specs.declared.values.Base.{Base}
use Rattle.kc_expr.specs.declared.values.Base.TheVariants.{Fixed, Absolute, External}
use Rattle.kc_expr.specs.Known.{is_known}
use Rattle.kc_asm_symbols.specs.Located.{Located}
use Rattle.kc_asm_symbols.specs.Externals.{externals}
use Rattle.kc_asm_symbols.specs.Meanings.{meaning, in_all}

-- where the bases of externals and places are known, so are those of what names mean
pub record MeaningsAreKnown (known : Base → Bool) (all : List Located) : Type 0 where
  pub at : (before after : List Located) (l : Located) → all ≡ reverse before ++ l ∷ after → (name : List ℕ) → is_known known (meaning all before l name) ≡ true
  pub last : (name : List ℕ) → is_known known (in_all all name) ≡ true

abbrev pub BasesAreKnown : Type 0
BasesAreKnown =
    (known : Base → Bool) → known Fixed ≡ true → known Absolute ≡ true
    → (all : List Located) → ((e : ℕ) → e < length (externals all) → known (External e) ≡ true) → AllPass (λ l. known l.here.base) all
    → MeaningsAreKnown known all

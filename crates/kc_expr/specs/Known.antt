-- What an expression counts from: nothing, address 0, or what one of its names counts from (after the MCS-96 Macro
-- Assembler User's Guide, "Relocatable Expressions").
use Rattle.std.specs.Prelude.{◌≡◌, ℕ, Bool, true, List, Ok, Err}
use Rattle.kc_expr.specs.declared.values.Base.{Base}
use Rattle.kc_expr.specs.declared.values.Base.TheVariants.{Fixed, Absolute}
use Rattle.kc_expr.specs.Tree.{Tree}
use Rattle.kc_expr.specs.Meaning.{Answer, answer_by}

-- an answer counts from a base that is known
abbrev pub is_known : (Base → Bool) → Answer → Bool
is_known known (Ok v) = known v.base
is_known known (Err fault) = true

-- where all names count from known bases, so do all expressions
abbrev pub ExpressionsAreKnown : Type 0
ExpressionsAreKnown =
    (known : Base → Bool) → known Fixed ≡ true → known Absolute ≡ true
    → (look : List ℕ → Answer) → ((name : List ℕ) → is_known known (look name) ≡ true)
    → (x : Tree) → is_known known (answer_by look x) ≡ true

-- Answers that are alike: the same fault, or values of one base and one tag, and of one number where it is fixed. What
-- moves with its piece has such answers wherever it stands (after the MCS-96 Macro Assembler User's Guide, "Relocatable
-- Expressions").
use Rattle.std.specs.Prelude.{◌≡◌, ℕ, true, List, Ok, Err}
use Rattle.kc_expr.specs.declared.values.Value.{Value}
use Rattle.kc_expr.specs.Tree.{Tree}
use Rattle.kc_expr.specs.Meaning.{Answer, answer_by, is_fixed}

pub record AreAlikeValues (v w : Value) : Type 0 where
  pub base : v.base ≡ w.base
  pub tag : v.tag ≡ w.tag
  pub number : is_fixed v.base ≡ true → v.number ≡ w.number

abbrev pub AreAlike : Answer → Answer → Type 0
AreAlike (Ok v) (Ok w) = AreAlikeValues v w
AreAlike (Ok v) (Err fault) = ⊥
AreAlike (Err fault) (Ok w) = ⊥
AreAlike (Err fault) (Err other) = fault ≡ other

abbrev pub AllAlike : (List ℕ → Answer) → (List ℕ → Answer) → Type 0
AllAlike look other = (name : List ℕ) → AreAlike (look name) (other name)

-- where all names answer alike, so do all expressions
abbrev pub ExpressionsAreAlike : Type 0
ExpressionsAreAlike = (look other : List ℕ → Answer) → AllAlike look other → (x : Tree) → AreAlike (answer_by look x) (answer_by other x)

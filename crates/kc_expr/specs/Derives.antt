-- What is an expression, by the rules of its grammar: level 0 stands alone or in parentheses, the levels above are those
-- of the operators, the tightest first (after the MCS-96 Macro Assembler User's Guide, "Expressions"; the exact
-- precedence is this kit's own).
use Rattle.std.specs.Prelude.{◌≡◌, ℕ, suc, ◌≤◌, Bool, true, false, ◌&&◌, List, [], ◌∷◌, ◌++◌, length, Some, None}
use Rattle.kc_lex.specs.declared.token.Token.{Token}
use Rattle.kc_lex.specs.Kinds.{is_sign}
use Rattle.kc_expr.specs.declared.expr.Unary.{Unary}
use Rattle.kc_expr.specs.declared.expr.Binary.{Binary}
use Rattle.kc_expr.specs.Tree.{Tree, One, Two}
use Rattle.kc_expr.specs.Grammar.{alone, is_type, unary_at, binary_at, Reading}

-- nothing, or `:` and a type
abbrev pub is_suffix : List Token → Bool
is_suffix [] = true
is_suffix (t ∷ []) = false
is_suffix (t ∷ u ∷ []) = is_sign 58 t && is_type u
is_suffix (t ∷ u ∷ v ∷ ts) = false

pub data Derives : ℕ → List Token → Tree → Type 0 where
  from_token : {t : Token} {s : List Token} {e : Tree} → alone t ≡ Some e → is_suffix s ≡ true → Derives 0 (t ∷ s) e
  from_group : {a : Token} {e : Tree} (b : Token) (ts s : List Token) → is_sign 40 a ≡ true → Derives 7 ts e → is_sign 41 b ≡ true → is_suffix s ≡ true → Derives 0 (a ∷ (ts ++ b ∷ s)) e
  from_tighter : {l : ℕ} {ts : List Token} {e : Tree} → Derives l ts e → Derives (suc l) ts e
  from_unary : {l : ℕ} {t : Token} {ts : List Token} {e : Tree} {op : Unary} → unary_at l t ≡ Some op → Derives l ts e → Derives l (t ∷ ts) (One op e)
  from_binary : {l : ℕ} {a b : Tree} {op : Binary} (t : Token) (us vs : List Token) → binary_at (suc l) t ≡ Some op → Derives (suc l) us a → Derives l vs b → Derives (suc l) (us ++ t ∷ vs) (Two op a b)

-- the tokens begin with an expression that is this tree, and with no longer one; the rest is what is left
pub record IsLongestPrefix (ts : List Token) (e : Tree) (rest : List Token) : Type 0 where
  pub prefix : List Token
  pub is : ts ≡ prefix ++ rest
  pub derives : Derives 7 prefix e
  pub longest : (other behind : List Token) (e' : Tree) → ts ≡ other ++ behind → Derives 7 other e' → length other ≤ length prefix
  pub only : (e' : Tree) → Derives 7 prefix e' → e' ≡ e

-- the reading is of the longest expression at the beginning, or none where no prefix is an expression
abbrev pub IsLongest : Reading → List Token → Type 0
IsLongest None ts = (other behind : List Token) (e : Tree) → ts ≡ other ++ behind → Derives 7 other e → ⊥
IsLongest (Some p) ts = IsLongestPrefix ts p.0 p.1

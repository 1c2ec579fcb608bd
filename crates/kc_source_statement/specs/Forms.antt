-- What an operand is, by the forms in which it is written: `x`, `#x`, `[reg]`, `[reg]+` and `x[reg]`, where x and reg are
-- expressions (after the MCS-96 Macro Assembler User's Guide, "Instruction Operands").
use Rattle.std.specs.Prelude.{◌≡◌, true, List, [], ◌∷◌, ◌++◌, Some}
use Rattle.kc_lex.specs.declared.token.Token.{Token}
use Rattle.kc_lex.specs.Kinds.{is_sign}
use Rattle.kc_expr.specs.Tree.{Tree}
use Rattle.kc_expr.specs.Derives.{Derives}
use Rattle.kc_source_statement.specs.Trees.{ArgTree, Plain, Immediate, Indirect, Increment, Indexed}
use Rattle.kc_source_statement.specs.Operands.{operand}

pub data IsOperand : List Token → ArgTree → Type 0 where
  is_plain : {ts : List Token} {x : Tree} → Derives 7 ts x → IsOperand ts (Plain x)
  is_immediate : {a : Token} {ts : List Token} {x : Tree} → is_sign 35 a ≡ true → Derives 7 ts x → IsOperand (a ∷ ts) (Immediate x)
  is_indirect : {a : Token} {r : Tree} (ts : List Token) (b : Token) → is_sign 91 a ≡ true → Derives 7 ts r → is_sign 93 b ≡ true → IsOperand (a ∷ (ts ++ b ∷ [])) (Indirect r)
  is_increment : {a : Token} {r : Tree} (ts : List Token) (b c : Token) → is_sign 91 a ≡ true → Derives 7 ts r → is_sign 93 b ≡ true → is_sign 43 c ≡ true → IsOperand (a ∷ (ts ++ b ∷ c ∷ [])) (Increment r)
  is_indexed : {x r : Tree} (us : List Token) (a : Token) (vs : List Token) (b : Token) → Derives 7 us x → is_sign 91 a ≡ true → Derives 7 vs r → is_sign 93 b ≡ true → IsOperand (us ++ a ∷ (vs ++ b ∷ [])) (Indexed x r)

-- an operand is read exactly where the tokens have one of these forms, and it is the one that they have
pub record OperandsHaveForms : Type 0 where
  pub read_has_form : (ts : List Token) (a : ArgTree) → operand ts ≡ Some a → IsOperand ts a
  pub form_is_read : (ts : List Token) (a : ArgTree) → IsOperand ts a → operand ts ≡ Some a

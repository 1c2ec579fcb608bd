-- The grammar of expressions, as a function on tokens that gives the longest expression at the beginning and the rest
-- (after the MCS-96 Macro Assembler User's Guide, "Expressions"; the exact precedence is this kit's own).
use Rattle.std.specs.Prelude.{ℕ, zero, suc, ◌+◌, ◌-◌, ◌*◌, Bool, false, not, ◌&&◌, ◌||◌, ◌==◌, if◌then◌else◌, List, [], ◌∷◌, length, drop, Option, Some, None, codes, option_and_then, ◌≡◌, Result, Ok, Err}
use Rattle.std.specs.Option.{option_map}
use Rattle.kc_lex.specs.declared.token.TokenKind.{TokenKind}
use Rattle.kc_lex.specs.declared.token.TokenKind.TheVariants as kinds
use Rattle.kc_lex.specs.declared.token.Token.{Token}
use Rattle.kc_lex.specs.Words.{is_reserved, is_stack}
use Rattle.kc_lex.specs.Codes.{other_operands}
use Rattle.kc_lex.specs.Kinds.{is_sign, is_word, begins_sign}
use Rattle.kc_expr.specs.declared.expr.Unary.{Unary}
use Rattle.kc_expr.specs.declared.expr.Unary.TheVariants as unary
use Rattle.kc_expr.specs.declared.expr.Binary.{Binary}
use Rattle.kc_expr.specs.declared.expr.Binary.TheVariants as binary
use Rattle.kc_expr.specs.declared.expr.Expr.{Expr}
use Rattle.kc_lex.specs.declared.fault.SourceFault.{SourceFault}
use Rattle.kc_lex.specs.declared.fault.SourceFault.TheVariants as faults
use Rattle.kc_expr.specs.Tree.{Tree, Number, Chars, Name, Here, One, Two, tree_of}

-- ---- operators: 1 is the tightest level of operators and 7 the loosest

abbrev pub unary_at : ℕ → Token → Option Unary
unary_at level t =
    if (level == 1) && is_word (codes "LOW") t then Some unary.Low
    else (if (level == 1) && is_word (codes "HIGH") t then Some unary.High
    else (if (level == 1) && is_sign 43 t then Some unary.Plus
    else (if (level == 1) && is_sign 45 t then Some unary.Minus
    else (if (level == 5) && is_word (codes "NOT") t then Some unary.Not
    else None))))

abbrev pub multiplying : Token → Option Binary
multiplying t =
    if is_sign 42 t then Some binary.Times
    else (if is_sign 47 t then Some binary.Over
    else (if is_word (codes "MOD") t then Some binary.Mod
    else (if is_word (codes "SHL") t then Some binary.Shl
    else (if is_word (codes "SHR") t then Some binary.Shr
    else None))))

abbrev pub adding : Token → Option Binary
adding t = if is_sign 43 t then Some binary.Plus else (if is_sign 45 t then Some binary.Minus else None)

abbrev pub comparing : Token → Option Binary
comparing t =
    if is_word (codes "EQ") t then Some binary.Eq
    else (if is_word (codes "NE") t then Some binary.Ne
    else (if is_word (codes "LT") t then Some binary.Lt
    else (if is_word (codes "LE") t then Some binary.Le
    else (if is_word (codes "GT") t then Some binary.Gt
    else (if is_word (codes "GE") t then Some binary.Ge
    else None)))))

abbrev pub either : Token → Option Binary
either t = if is_word (codes "OR") t then Some binary.Or else (if is_word (codes "XOR") t then Some binary.Xor else None)

abbrev pub meeting : Token → Option Binary
meeting t = if is_word (codes "AND") t then Some binary.And else None

unfoldable pub binary_at : ℕ → Token → Option Binary
binary_at level t =
    if level == 2 then multiplying t
    else (if level == 3 then adding t
    else (if level == 4 then comparing t
    else (if level == 6 then meeting t
    else (if level == 7 then either t
    else None))))

-- ---- what stands alone

abbrev pub is_short : List ℕ → Bool
is_short cs = (length cs == 1) || (length cs == 2)

-- a reserved word names no value, but STACK does
abbrev pub names_value : List ℕ → Bool
names_value w = not (is_reserved w) || is_stack w

abbrev pub of_kind : TokenKind → Token → Option Tree
of_kind kinds.Number t = Some (Number t.value)
of_kind kinds.Chars t = if is_short t.text then Some (Chars t.text) else None
of_kind kinds.Name t = if names_value t.text then Some (Name t.text) else None
of_kind kinds.Sign t = if is_sign 36 t then Some Here else None

abbrev pub alone : Token → Option Tree
alone t = of_kind t.kind t

-- a suffix has no effect
abbrev pub is_type : Token → Bool
is_type t = is_word (codes "BYTE") t || is_word (codes "WORD") t || is_word (codes "LONG") t || is_word (codes "ENTRY") t || is_word (codes "NULL") t

abbrev pub has_suffix : List Token → Bool
has_suffix [] = false
has_suffix (t ∷ []) = false
has_suffix (t ∷ u ∷ ts) = is_sign 58 t && is_type u

unfoldable pub past_suffix : List Token → List Token
past_suffix ts = if has_suffix ts then drop 2 ts else ts

-- ---- expressions

-- an expression and the tokens after it
abbrev pub Reading : Type 0
Reading = Option (Tree × List Token)

abbrev pub unary_first : ℕ → List Token → Option Unary
unary_first level [] = None
unary_first level (t ∷ ts) = unary_at level t

abbrev pub binary_first : ℕ → List Token → Option Binary
binary_first level [] = None
binary_first level (t ∷ ts) = binary_at level t

abbrev pub grouped : Reading → Reading
grouped None = None
grouped (Some p) = if begins_sign 41 p.1 then Some (p.0, past_suffix (drop 1 p.1)) else None

-- a token alone, or an expression in parentheses; inner is what stands behind the first token
abbrev pub primary : List Token → Reading → Reading
primary [] inner = None
primary (t ∷ ts) inner = if is_sign 40 t then grouped inner else option_map (λ e. (e, past_suffix ts)) (alone t)

-- behind an operator its operand; else what stands without one
abbrev pub prefixed : Option Unary → Reading → Reading → Reading
prefixed None operand plain = plain
prefixed (Some op) operand plain = option_map (λ p. (One op p.0, p.1)) operand

-- an operator joins what stands left and right of it; without a right side it is not taken
abbrev pub joined : Option Binary → Tree → List Token → Reading → (Tree → List Token → Reading) → Reading
joined None left ts right goes_on = Some (left, ts)
joined (Some op) left ts None goes_on = Some (left, ts)
joined (Some op) left ts (Some p) goes_on = goes_on (Two op left p.0) p.1

-- the longest expression of a level, in at most n steps
unfoldable mutual
  pub longest : ℕ → ℕ → List Token → Reading
  longest zero level ts = None
  longest (suc n) zero ts = primary ts (longest n 7 (drop 1 ts))
  longest (suc n) (suc l) ts = prefixed (unary_first (suc l) ts) (longest n (suc l) (drop 1 ts)) (option_and_then (λ p. extended n (suc l) p.0 p.1) (longest n l ts))

  -- goes on to the right with the operators of the level
  pub extended : ℕ → ℕ → Tree → List Token → Reading
  extended zero level left ts = Some (left, ts)
  extended (suc n) level left ts = joined (binary_first level ts) left ts (longest n (level - 1) (drop 1 ts)) (λ tree rest. extended n level tree rest)

-- more steps than the tokens can take
abbrev pub parsed : List Token → Reading
parsed ts = longest (16 * length ts + 15) 7 ts

-- what a call found, seen as a reading
abbrev pub seen : List Token → Option (Expr × ℕ) → Reading
seen tokens None = None
seen tokens (Some p) = Some (tree_of p.0, drop p.1 tokens)

-- what parse answers: the expression that is read and the place after it, or a fault where there is none
abbrev pub IsParsed : List Token → ℕ → Result (Expr × ℕ) SourceFault → Type 0
IsParsed tokens from (Ok p) = parsed (drop from tokens) ≡ Some (tree_of p.0, drop p.1 tokens)
IsParsed tokens from (Err (faults.At line code)) = (line ≡ 0) × (code ≡ other_operands) × (parsed (drop from tokens) ≡ None)
IsParsed tokens from (Err faults.NoMemory) = Unit {0}

-- The parts of a statement: expressions, operands, items and names (after the MCS-96 Macro Assembler User's Guide,
-- "Instruction Operands"; the exact forms are this kit's own).
use Rattle.std.specs.Prelude.{ℕ, Bool, false, ◌&&◌, ◌==◌, if◌then◌else◌, List, [], ◌∷◌, length, drop, Option, Some, None}
use Rattle.std.specs.Option.{option_map}
use Rattle.kc_lex.specs.declared.token.Token.{Token}
use Rattle.kc_lex.specs.Kinds.{is_sign, is_free_name, is_chars_kind, begins_sign}
use Rattle.kc_lex.specs.Lists.{in_first}
use Rattle.kc_expr.specs.Tree.{Tree}
use Rattle.kc_expr.specs.Grammar.{Reading, parsed, is_type}
use Rattle.kc_source_statement.specs.Trees.{ItemTree, ArgTree, Plain, Immediate, Indirect, Increment, Indexed}
use Rattle.kc_source_statement.specs.Trees as trees

abbrev pub is_nil : List Token → Bool
is_nil ts = length ts == 0

-- ---- an expression that takes all the tokens

abbrev pub taken_whole : Reading → Option Tree
taken_whole None = None
taken_whole (Some p) = if is_nil p.1 then Some p.0 else None

unfoldable pub whole : List Token → Option Tree
whole ts = taken_whole (parsed ts)

-- ---- lists: the parts between commas

unfoldable pub parts : List Token → List (List Token)
parts [] = [] ∷ []
parts (t ∷ ts) = if is_sign 44 t then [] ∷ parts ts else in_first t (parts ts)

abbrev pub and_some : {A : Type 0} → Option A → Option (List A) → Option (List A)
and_some None rest = None
and_some (Some x) None = None
and_some (Some x) (Some xs) = Some (x ∷ xs)

-- what each of the lists says, or none where one says nothing
unfoldable pub all_some : {A : Type 0} → (List Token → Option A) → List (List Token) → Option (List A)
all_some read [] = Some []
all_some read (p ∷ ps) = and_some (read p) (all_some read ps)

-- ---- operands

-- `]` and no more
abbrev pub is_close : List Token → Bool
is_close [] = false
is_close (t ∷ []) = is_sign 93 t
is_close (t ∷ u ∷ ts) = false

-- `]+` and no more
abbrev pub is_close_plus : List Token → Bool
is_close_plus [] = false
is_close_plus (t ∷ []) = false
is_close_plus (t ∷ u ∷ []) = is_sign 93 t && is_sign 43 u
is_close_plus (t ∷ u ∷ v ∷ ts) = false

abbrev pub pointed : Reading → Option ArgTree
pointed None = None
pointed (Some p) = if is_close p.1 then Some (Indirect p.0) else (if is_close_plus p.1 then Some (Increment p.0) else None)

abbrev pub with_register : Tree → Reading → Option ArgTree
with_register x None = None
with_register x (Some p) = if is_close p.1 then Some (Indexed x p.0) else None

abbrev pub plain_or_indexed : Reading → Option ArgTree
plain_or_indexed None = None
plain_or_indexed (Some p) =
    if is_nil p.1 then Some (Plain p.0)
    else (if begins_sign 91 p.1 then with_register p.0 (parsed (drop 1 p.1)) else None)

-- `#x`, `[reg]`, `[reg]+`, `x` or `x[reg]`
unfoldable pub operand : List Token → Option ArgTree
operand ts =
    if begins_sign 35 ts then option_map (λ x. Immediate x) (whole (drop 1 ts))
    else (if begins_sign 91 ts then pointed (parsed (drop 1 ts))
    else plain_or_indexed (parsed ts))

unfoldable pub operands_in : List Token → Option (List ArgTree)
operands_in ts = if is_nil ts then Some [] else all_some operand (parts ts)

-- ---- items of data

abbrev pub string_of : List Token → Option (List ℕ)
string_of [] = None
string_of (t ∷ []) = if is_chars_kind t.kind then Some t.text else None
string_of (t ∷ u ∷ ts) = None

abbrev pub string_or : Option (List ℕ) → Option Tree → Option ItemTree
string_or (Some cs) x = Some (trees.Chars cs)
string_or None None = None
string_or None (Some x) = Some (trees.Value x)

-- strings are items of bytes alone, and only where they stand alone
unfoldable pub item : Bool → List Token → Option ItemTree
item bytes ts = string_or (if bytes then string_of ts else None) (whole ts)

abbrev pub items_in : Bool → List Token → Option (List ItemTree)
items_in bytes ts = all_some (item bytes) (parts ts)

-- ---- names

abbrev pub free_text : Token → Option (List ℕ)
free_text t = if is_free_name t then Some t.text else None

-- a name, and behind one that is taken its type, which has no effect
abbrev pub name_in : Bool → List Token → Option (List ℕ)
name_in typed [] = None
name_in typed (t ∷ []) = free_text t
name_in typed (t ∷ u ∷ []) = None
name_in typed (t ∷ u ∷ v ∷ []) = if typed && is_sign 58 u && is_type v then free_text t else None
name_in typed (t ∷ u ∷ v ∷ w ∷ ts) = None

abbrev pub names_in : Bool → List Token → Option (List (List ℕ))
names_in typed ts = all_some (name_in typed) (parts ts)

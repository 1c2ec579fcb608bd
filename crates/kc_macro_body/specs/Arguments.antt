-- The arguments of a call, and lists of names (after the MCS-96 Macro Assembler User's Guide, "Macro Calls").
use Rattle.std.specs.Prelude.{ℕ, ◌+◌, ◌-◌, Bool, true, false, ◌&&◌, ◌==◌, if◌then◌else◌, List, [], ◌∷◌, drop, take, length, map, Option, Some, None, codes}
use Rattle.kc_lex.specs.declared.token.Token.{Token}
use Rattle.kc_lex.specs.Kinds.{is_word, is_sign, is_free_name}
use Rattle.kc_lex.specs.Lists.{in_first}

-- ---- arguments: commas outside `<` and `>` stand between them

-- in how many groups a token leaves the text; a `>` of no group is a token like others
abbrev pub group_depth : Token → ℕ → ℕ
group_depth t depth = if is_sign 60 t then depth + 1 else if is_sign 62 t then depth - 1 else depth

unfoldable pub split_at_commas : ℕ → List Token → List (List Token)
split_at_commas depth [] = [] ∷ []
split_at_commas depth (t ∷ ts) =
    if is_sign 44 t && (depth == 0) then [] ∷ split_at_commas depth ts
    else in_first t (split_at_commas (group_depth t depth) ts)

abbrev pub is_nothing : List Token → Bool
is_nothing [] = true
is_nothing (t ∷ ts) = false

-- whether the group that is open so deep ends with the last token
unfoldable pub closes : ℕ → List Token → Bool
closes depth [] = false
closes depth (t ∷ ts) = if group_depth t depth == 0 then is_nothing ts else closes (group_depth t depth) ts

-- one whole group
abbrev pub is_group : List Token → Bool
is_group [] = false
is_group (t ∷ ts) = is_sign 60 t && closes 1 ts

-- what stands between the first and the last token
abbrev pub inside : List Token → List Token
inside ts = take (length (drop 1 ts) - 1) (drop 1 ts)

-- an argument that is one whole group loses its outer signs
abbrev pub ungrouped : List Token → List Token
ungrouped ts = if is_group ts then inside ts else ts

-- no tokens are no argument
abbrev pub arguments : List Token → List (List Token)
arguments [] = []
arguments (t ∷ ts) = map ungrouped (split_at_commas 0 (t ∷ ts))

-- ---- names between commas

abbrev pub in_front : List ℕ → Option (List (List ℕ)) → Option (List (List ℕ))
in_front n None = None
in_front n (Some ns) = Some (n ∷ ns)

unfoldable pub names_at : List Token → Option (List (List ℕ))
names_at [] = None
names_at (t ∷ []) = if is_free_name t then Some (t.text ∷ []) else None
names_at (t ∷ u ∷ ts) = if is_free_name t then (if is_sign 44 u then in_front t.text (names_at ts) else None) else None

-- ---- the first lines of definitions and of repetitions over arguments

-- a name and parameters
abbrev pub with_name : List ℕ → Option (List (List ℕ)) → Option (List ℕ × List (List ℕ))
with_name n None = None
with_name n (Some ps) = Some (n, ps)

abbrev pub parameters : List Token → Option (List (List ℕ))
parameters [] = Some []
parameters (t ∷ ts) = names_at (t ∷ ts)

-- a name, MACRO, and the names of the parameters
abbrev pub definition : List Token → Option (List ℕ × List (List ℕ))
definition [] = None
definition (n ∷ []) = None
definition (n ∷ w ∷ ts) = if is_free_name n && is_word (codes "MACRO") w then with_name n.text (parameters ts) else None

-- behind IRP: a name, a comma, and one group to the end of the line with the arguments
abbrev pub over_arguments : List Token → Option (List ℕ × List (List Token))
over_arguments [] = None
over_arguments (n ∷ []) = None
over_arguments (n ∷ c ∷ ts) = if is_free_name n && is_sign 44 c && is_group ts then Some (n.text, arguments (inside ts)) else None

-- Statements by the table of the language: a line's label, and what the words behind it say, or the code of its fault:
-- 1 for what is no statement, 14 for a statement that has not its form (after the MCS-96 Macro Assembler User's Guide,
-- "Assembler Directives"; the exact forms and the codes are this kit's own).
use Rattle.std.specs.Prelude.{ℕ, Bool, true, false, ◌&&◌, ◌||◌, ◌==◌, if◌then◌else◌, List, [], ◌∷◌, map, drop, Option, Some, None, Result, Ok, Err, codes}
use Rattle.std.specs.Option.{option_map}
use Rattle.kc_lex.specs.declared.token.Token.{Token}
use Rattle.kc_lex.specs.declared.words.Operands.{Operands}
use Rattle.kc_lex.specs.declared.words.Directive.{Directive}
use Rattle.kc_lex.specs.declared.words.Directive.TheVariants as directives
use Rattle.kc_lex.specs.Words.{operands_for, directive_of}
use Rattle.kc_lex.specs.Takes.{takes}
use Rattle.kc_lex.specs.Kinds.{is_sign, is_word, is_name_kind, is_free_name, has_label, begins_word}
use Rattle.kc_lex.specs.Lists.{first_text}
use Rattle.kc_lex.specs.Codes.{no_statement, other_operands}
use Rattle.kc_expr.specs.Tree.{Tree}
use Rattle.kc_expr.specs.Grammar.{Reading, parsed}
use Rattle.kc_source_statement.specs.Trees.{ArgTree, ActionTree, notation}
use Rattle.kc_source_statement.specs.Trees as trees
use Rattle.kc_source_statement.specs.Operands.{is_nil, whole, operands_in, items_in, names_in}

-- ---- the form of each directive, by what stands behind its word

-- alone, or AT and a place
unfoldable pub segment_in : List Token → Option (Option Tree)
segment_in ts =
    if is_nil ts then Some None
    else (if begins_word (codes "AT") ts then option_map (λ x. Some x) (whole (drop 1 ts)) else None)

abbrev pub is_stack_part : List Token → Bool
is_stack_part [] = false
is_stack_part (t ∷ []) = false
is_stack_part (t ∷ u ∷ []) = false
is_stack_part (t ∷ u ∷ v ∷ ts) = is_sign 44 t && is_word (codes "STACKSIZE") u && is_sign 40 v

-- `)` and no more
abbrev pub is_end_of_group : List Token → Bool
is_end_of_group [] = false
is_end_of_group (t ∷ []) = is_sign 41 t
is_end_of_group (t ∷ u ∷ ts) = false

abbrev pub grouped_whole : Reading → Option Tree
grouped_whole None = None
grouped_whole (Some p) = if is_end_of_group p.1 then Some p.0 else None

-- nothing, or `, STACKSIZE(x)`
unfoldable pub stack_in : List Token → Option (Option Tree)
stack_in ts =
    if is_nil ts then Some None
    else (if is_stack_part ts then option_map (λ x. Some x) (grouped_whole (parsed (drop 3 ts))) else None)

-- the word MAIN has no effect
abbrev pub past_main : List Token → List Token
past_main ts = if begins_word (codes "MAIN") ts then drop 1 ts else ts

abbrev pub module_in : Option (List ℕ) → List Token → Option ActionTree
module_in name ts = option_map (λ s. trees.Module name s) (stack_in (past_main ts))

abbrev pub alone_in : ActionTree → List Token → Option ActionTree
alone_in a ts = if is_nil ts then Some a else None

abbrev pub defined_in : ℕ → List Token → Option ActionTree
defined_in size ts = option_map (λ is. trees.Define size is) (items_in (size == 1) ts)

abbrev pub reserved_in : ℕ → List Token → Option ActionTree
reserved_in size ts = option_map (λ x. trees.Reserve size x) (whole ts)

-- what a directive says with what stands behind it; EQU and SET want a name before them, and the words of macros,
-- repetitions and conditions have no form here, where these are replaced
unfoldable pub directive_in : Directive → List Token → Option ActionTree
directive_in directives.Module ts = module_in None ts
directive_in directives.Cseg ts = option_map (λ at. trees.Cseg at) (segment_in ts)
directive_in directives.Dseg ts = option_map (λ at. trees.Dseg at) (segment_in ts)
directive_in directives.Rseg ts = option_map (λ at. trees.Rseg at) (segment_in ts)
directive_in directives.Sseg ts = option_map (λ x. trees.Sseg x) (whole ts)
directive_in directives.Public ts = option_map (λ ns. trees.Public ns) (names_in false ts)
directive_in directives.Extrn ts = option_map (λ ns. trees.Extrn ns) (names_in true ts)
directive_in directives.Dcb ts = defined_in 1 ts
directive_in directives.Dcw ts = defined_in 2 ts
directive_in directives.Dcl ts = defined_in 4 ts
directive_in directives.Dsb ts = reserved_in 1 ts
directive_in directives.Dsw ts = reserved_in 2 ts
directive_in directives.Dsl ts = reserved_in 4 ts
directive_in directives.Org ts = option_map (λ x. trees.Org x) (whole ts)
directive_in directives.Even ts = alone_in trees.Even ts
directive_in directives.End ts = alone_in trees.End ts
directive_in d ts = None

-- ---- a name before EQU, SET or MODULE

abbrev pub is_defining : Directive → Bool
is_defining directives.Equ = true
is_defining directives.Set = true
is_defining directives.Module = true
is_defining d = false

unfoldable pub definition_in : List ℕ → Directive → List Token → Option ActionTree
definition_in name directives.Equ ts = option_map (λ x. trees.Equ name x) (whole ts)
definition_in name directives.Set ts = option_map (λ x. trees.Set name x) (whole ts)
definition_in name directives.Module ts = module_in (Some name) ts
definition_in name d ts = None

-- ---- the words of a statement

abbrev pub or_form_fault : Option ActionTree → Result ActionTree ℕ
or_form_fault None = Err other_operands
or_form_fault (Some a) = Ok a

abbrev pub by_directive : Option Directive → List Token → Result ActionTree ℕ
by_directive None ts = Err no_statement
by_directive (Some d) ts = or_form_fault (directive_in d ts)

abbrev pub operation_in : List ℕ → Operands → Option (List ArgTree) → Result ActionTree ℕ
operation_in word form None = Err other_operands
operation_in word form (Some args) = if takes form (map notation args) then Ok (trees.Operation word args) else Err other_operands

abbrev pub by_operation : List ℕ → Option Operands → List Token → Result ActionTree ℕ
by_operation word None ts = by_directive (directive_of word) ts
by_operation word (Some form) ts = operation_in word form (operands_in ts)

-- the directive that a token is
abbrev pub directive_at : Token → Option Directive
directive_at t = if is_name_kind t.kind then directive_of t.text else None

abbrev pub first_directive : List Token → Option Directive
first_directive [] = None
first_directive (t ∷ ts) = directive_at t

-- the directive behind a name
abbrev pub second_directive : List Token → Option Directive
second_directive [] = None
second_directive (t ∷ []) = None
second_directive (t ∷ u ∷ ts) = if is_free_name t then directive_at u else None

abbrev pub by_word : Token → List Token → Result ActionTree ℕ
by_word t ts = if is_name_kind t.kind then by_operation t.text (operands_for t.text) ts else Err no_statement

abbrev pub only_defining : Option Directive → Option Directive
only_defining None = None
only_defining (Some d) = if is_defining d then Some d else None

-- the first word, and the second where it defines the first
abbrev pub by_first : Token → Option Directive → List Token → Result ActionTree ℕ
by_first t None ts = by_word t ts
by_first t (Some d) ts = or_form_fault (definition_in t.text d (drop 1 ts))

-- what the words of a line without label say
unfoldable pub action_in : List Token → Result ActionTree ℕ
action_in [] = Ok trees.Bare
action_in (t ∷ ts) = by_first t (only_defining (second_directive (t ∷ ts))) ts

-- ---- labels

abbrev pub bars : Directive → Bool
bars directives.Equ = true
bars directives.Set = true
bars directives.Macro = true
bars directives.Module = true
bars directives.Local = true
bars directives.Exitm = true
bars directives.Else = true
bars directives.Endif = true
bars directives.Endm = true
bars d = false

abbrev pub bars_label : Option Directive → Bool
bars_label None = false
bars_label (Some d) = bars d

-- a label before what takes none makes no statement
abbrev pub behind_label : List Token → Result ActionTree ℕ
behind_label ts = if bars_label (first_directive ts) || bars_label (second_directive ts) then Err no_statement else action_in ts

unfoldable pub statement_in : List Token → Result ActionTree ℕ
statement_in ts = if has_label ts then behind_label (drop 2 ts) else action_in ts

unfoldable pub label_in : List Token → Option (List ℕ)
label_in ts = if has_label ts then Some (first_text ts) else None

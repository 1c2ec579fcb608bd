-- Which macro a line calls.
use Rattle.std.specs.Prelude.{Bool, not, ◌&&◌, ◌||◌, if◌then◌else◌, List, [], ◌∷◌, Option, None, codes}
use Rattle.std.specs.FinMap as fm
use Rattle.kc_lex.specs.declared.token.Token.{Token}
use Rattle.kc_lex.specs.Kinds.{is_name_kind, begins_word}
use Rattle.kc_macro_body.specs.declared.macros.Macro.{Macro}
use Rattle.kc_base.specs.ByName.{ByName}

-- a name before one of these words is defined and not called
abbrev pub is_defining : List Token → Bool
is_defining ts = begins_word (codes "EQU") ts || begins_word (codes "SET") ts || begins_word (codes "MODULE") ts || begins_word (codes "MACRO") ts

abbrev pub called : ByName Macro → List Token → Option Macro
called macros [] = None
called macros (t ∷ ts) = if is_name_kind t.kind && not (is_defining ts) then fm.get macros t.text else None

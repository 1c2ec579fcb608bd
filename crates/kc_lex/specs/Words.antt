-- The words of the language that are no names, and what operands each operation takes (after the MCS-96 Macro Assembler User's
-- Guide, "Reserved Words"; the list is this kit's own).
use Rattle.std.specs.Prelude.{ℕ, Bool, false, not, ◌&&◌, ◌||◌, nat_le, if◌then◌else◌, List, [], ◌∷◌, length, Option, Some, None, is_some, codes}
use Rattle.std.specs.List.{list_any, list_all}
use Rattle.std.specs.Option.{option_or}
use Rattle.std.specs.Str.{bytes_eq}
use Rattle.std.specs.Char.{is_ascii_digit}
use Rattle.kc_lex.specs.declared.words.Directive.{Directive}
use Rattle.kc_lex.specs.declared.words.Directive.TheVariants as directives
use Rattle.kc_lex.specs.declared.words.Operands.{Operands}
use Rattle.kc_lex.specs.declared.words.Operands.TheVariants as operands
use Rattle.kc_lex.specs.Chars.{is_word_char}
pub use Rattle.kc_lex.specs.Instructions.{operands_of}

abbrev pub is_one_of : List (List ℕ) → List ℕ → Bool
is_one_of words w = list_any (λ v. bytes_eq w v) words

-- ---- operators

abbrev pub is_operator_word : List ℕ → Bool
is_operator_word w =
    is_one_of (codes "LOW" ∷ codes "HIGH" ∷ codes "MOD" ∷ codes "SHL" ∷ codes "SHR" ∷ codes "EQ" ∷ codes "NE" ∷ codes "LT" ∷ codes "LE" ∷ codes "GT" ∷ codes "GE" ∷ codes "NOT" ∷ codes "AND" ∷ codes "OR" ∷ codes "XOR" ∷ []) w

-- ---- generic branches, which stand beside the instructions

abbrev pub is_generic_conditional : List ℕ → Bool
is_generic_conditional w =
    is_one_of (codes "BE" ∷ codes "BNE" ∷ codes "BH" ∷ codes "BNH" ∷ codes "BGT" ∷ codes "BLE" ∷ codes "BGE" ∷ codes "BLT" ∷ codes "BC" ∷ codes "BNC" ∷ codes "BV" ∷ codes "BNV" ∷ codes "BVT" ∷ codes "BNVT" ∷ codes "BST" ∷ codes "BNST" ∷ []) w

-- the operands of a generic branch, if the word is one that is no instruction too
unfoldable pub generic_operands_of : List ℕ → Option Operands
generic_operands_of w =
    if is_generic_conditional w then Some operands.One
    else (if bytes_eq w (codes "CALL") then Some operands.One
    else (if is_one_of (codes "BBC" ∷ codes "BBS" ∷ []) w then Some operands.Triple
    else None))

-- the operands of an operation, which is an instruction or a generic branch
abbrev pub operands_for : List ℕ → Option Operands
operands_for w = option_or (operands_of w) (generic_operands_of w)

-- ---- directives

abbrev pub data_directive : List ℕ → Option Directive
data_directive w =
    if bytes_eq w (codes "DCB") then Some directives.Dcb
    else (if bytes_eq w (codes "DCW") then Some directives.Dcw
    else (if bytes_eq w (codes "DCL") then Some directives.Dcl
    else (if bytes_eq w (codes "DSB") then Some directives.Dsb
    else (if bytes_eq w (codes "DSW") then Some directives.Dsw
    else (if bytes_eq w (codes "DSL") then Some directives.Dsl
    else (if bytes_eq w (codes "ORG") then Some directives.Org
    else (if bytes_eq w (codes "EVEN") then Some directives.Even
    else None)))))))

abbrev pub module_directive : List ℕ → Option Directive
module_directive w =
    if bytes_eq w (codes "MODULE") then Some directives.Module
    else (if bytes_eq w (codes "CSEG") then Some directives.Cseg
    else (if bytes_eq w (codes "DSEG") then Some directives.Dseg
    else (if bytes_eq w (codes "RSEG") then Some directives.Rseg
    else (if bytes_eq w (codes "SSEG") then Some directives.Sseg
    else (if bytes_eq w (codes "PUBLIC") then Some directives.Public
    else (if bytes_eq w (codes "EXTRN") then Some directives.Extrn
    else (if bytes_eq w (codes "EQU") then Some directives.Equ
    else (if bytes_eq w (codes "SET") then Some directives.Set
    else (if bytes_eq w (codes "END") then Some directives.End
    else None)))))))))

abbrev pub macro_directive : List ℕ → Option Directive
macro_directive w =
    if bytes_eq w (codes "IF") then Some directives.If
    else (if bytes_eq w (codes "ELSE") then Some directives.Else
    else (if bytes_eq w (codes "ENDIF") then Some directives.Endif
    else (if bytes_eq w (codes "MACRO") then Some directives.Macro
    else (if bytes_eq w (codes "LOCAL") then Some directives.Local
    else (if bytes_eq w (codes "EXITM") then Some directives.Exitm
    else (if bytes_eq w (codes "ENDM") then Some directives.Endm
    else (if bytes_eq w (codes "REPT") then Some directives.Rept
    else (if bytes_eq w (codes "IRP") then Some directives.Irp
    else None))))))))

abbrev pub first_some : Option Directive → Option Directive → Option Directive
first_some None d = d
first_some (Some c) d = Some c

unfoldable pub directive_of : List ℕ → Option Directive
directive_of w = first_some (module_directive w) (first_some (data_directive w) (macro_directive w))

-- ---- names

-- the name of the address after the stack, which only the linker gives
abbrev pub is_stack : List ℕ → Bool
is_stack w = bytes_eq w (codes "STACK")

-- what no program may define
unfoldable pub is_reserved : List ℕ → Bool
is_reserved w = is_operator_word w || is_some (operands_of w) || is_some (generic_operands_of w) || is_some (directive_of w) || is_stack w

abbrev pub begins_name : List ℕ → Bool
begins_name [] = false
begins_name (c ∷ cs) = not (is_ascii_digit c)

-- 1 to 31 letters, digits, `_` and `?`, the first no digit
abbrev pub is_name_text : List ℕ → Bool
is_name_text cs = begins_name cs && list_all is_word_char cs && nat_le (length cs) 31

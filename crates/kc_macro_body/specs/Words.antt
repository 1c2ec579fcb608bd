-- As which word a line is matched (after the MCS-96 Macro Assembler User's Guide, "Macros" and "Conditional Assembly").
use Rattle.std.specs.Prelude.{Bool, true, false, ◌&&◌, if◌then◌else◌, List, [], ◌∷◌, codes}
use Rattle.kc_lex.specs.declared.token.Token.{Token}
use Rattle.kc_lex.specs.Kinds.{is_word, is_name_kind, has_label, begins_word}
use Rattle.kc_macro_body.specs.declared.words.Word.{Word}
use Rattle.kc_macro_body.specs.declared.words.Word.TheVariants.{Macro, Local, Exitm, Else, Endif, Endm, If, Rept, Irp, End, Other}

-- words that may stand behind a label
abbrev pub labelled_word : Token → Word
labelled_word t =
    if is_word (codes "IF") t then If
    else (if is_word (codes "REPT") t then Rept
    else (if is_word (codes "IRP") t then Irp
    else (if is_word (codes "END") t then End
    else Other)))

-- words that may begin a line
abbrev pub bare_word : Token → Word
bare_word t =
    if is_word (codes "MACRO") t then Macro
    else (if is_word (codes "LOCAL") t then Local
    else (if is_word (codes "EXITM") t then Exitm
    else (if is_word (codes "ELSE") t then Else
    else (if is_word (codes "ENDIF") t then Endif
    else (if is_word (codes "ENDM") t then Endm
    else labelled_word t)))))

abbrev pub is_other : Word → Bool
is_other Other = true
is_other Macro = false
is_other Local = false
is_other Exitm = false
is_other Else = false
is_other Endif = false
is_other Endm = false
is_other If = false
is_other Rept = false
is_other Irp = false
is_other End = false

-- the word of a line without label; a definition has its name before MACRO
abbrev pub unlabelled : List Token → Word
unlabelled [] = Other
unlabelled (t ∷ ts) = if is_name_kind t.kind && is_other (bare_word t) && begins_word (codes "MACRO") ts then Macro else bare_word t

-- the word of what stands behind a label
abbrev pub behind_label : List Token → Word
behind_label [] = Other
behind_label (t ∷ ts) = labelled_word t

abbrev pub behind_two : List Token → Word
behind_two [] = Other
behind_two (t ∷ []) = Other
behind_two (t ∷ u ∷ ts) = behind_label ts

unfoldable pub word_of : List Token → Word
word_of ts = if has_label ts then behind_two ts else unlabelled ts

-- ---- texts that end with a word of their own, as a body with ENDM

abbrev pub opens_body : Word → Bool
opens_body Macro = true
opens_body Rept = true
opens_body Irp = true
opens_body w = false

abbrev pub is_macro : Word → Bool
is_macro Macro = true
is_macro w = false

abbrev pub is_local : Word → Bool
is_local Local = true
is_local w = false

abbrev pub is_endm : Word → Bool
is_endm Endm = true
is_endm w = false

abbrev pub opens_if : Word → Bool
opens_if If = true
opens_if w = false

abbrev pub is_endif : Word → Bool
is_endif Endif = true
is_endif w = false

abbrev pub is_else : Word → Bool
is_else Else = true
is_else w = false

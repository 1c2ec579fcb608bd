-- Texts that are whole: each construct that begins in one ends in it (after the MCS-96 Macro Assembler User's Guide, "Macros"
-- and "Conditional Assembly").
use Rattle.std.specs.Prelude.{◌≡◌, Bool, true, not, ◌&&◌, List, [], ◌∷◌, ◌++◌}
use Rattle.kc_macro_body.specs.declared.words.Word.{Word}
use Rattle.kc_macro_body.specs.Words.{opens_body, is_endm, opens_if, is_endif, is_else}
use Rattle.kc_macro_input.specs.declared.piece.Piece.{Piece}
use Rattle.kc_macro_input.specs.Pieces.{word_at}

-- a line is matched as a word for which the test holds
abbrev pub Is : (Word → Bool) → Piece → Type 0
Is test p = test (word_at p.tokens) ≡ true

-- ---- bodies

abbrev pub is_beside_bodies : Word → Bool
is_beside_bodies w = not (opens_body w) && not (is_endm w)

-- lines, and among them whole bodies, each from its MACRO, REPT or IRP to its ENDM
pub data IsWholeBody : List Piece → Type 0 where
  EmptyBody : IsWholeBody []
  LineAndBody : (p : Piece) (ps : List Piece) → Is is_beside_bodies p → IsWholeBody ps → IsWholeBody (p ∷ ps)
  BodyAndBody : (first last : Piece) (body ps : List Piece) → Is opens_body first → Is is_endm last → IsWholeBody body → IsWholeBody ps →
      IsWholeBody (first ∷ (body ++ last ∷ ps))

-- ---- parts of an IF

abbrev pub is_beside_ifs : Word → Bool
is_beside_ifs w = not (opens_if w) && (not (is_else w) && not (is_endif w))

-- lines, and among them whole IFs, each with one ELSE or without
pub data IsWholePart : List Piece → Type 0 where
  EmptyPart : IsWholePart []
  LineAndPart : (p : Piece) (ps : List Piece) → Is is_beside_ifs p → IsWholePart ps → IsWholePart (p ∷ ps)
  IfAndPart : (first last : Piece) (part ps : List Piece) → Is opens_if first → Is is_endif last → IsWholePart part → IsWholePart ps →
      IsWholePart (first ∷ (part ++ last ∷ ps))
  IfElseAndPart : (first mid last : Piece) (part other ps : List Piece) → Is opens_if first → Is is_else mid → Is is_endif last →
      IsWholePart part → IsWholePart other → IsWholePart ps → IsWholePart (first ∷ (part ++ mid ∷ (other ++ last ∷ ps)))

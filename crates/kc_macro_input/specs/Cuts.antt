-- What a construct takes off the text ahead: a body up to its ENDM, the part of an IF up to its ELSE or ENDIF.
use Rattle.std.specs.Prelude.{ℕ, ◌+◌, ◌-◌, Bool, ◌&&◌, ◌||◌, ◌==◌, if◌then◌else◌, List, [], ◌∷◌, ◌++◌, Option, Some, None}
use Rattle.std.specs.Global.{Vec}
use Rattle.kc_macro_body.specs.declared.words.Word.{Word}
use Rattle.kc_macro_body.specs.Words.{opens_body, is_endm, opens_if, is_endif, is_else}
use Rattle.kc_macro_input.specs.declared.piece.Piece.{Piece}
use Rattle.kc_macro_input.specs.declared.piece.Extent.{Extent}
use Rattle.kc_macro_input.specs.declared.piece.Extent.TheVariants.{Body, Part, Condition}
use Rattle.kc_macro_input.specs.Pieces.{word_at}

-- a body, the part of an IF before its ELSE or ENDIF, or all up to its ENDIF
abbrev pub opens : Extent → Word → Bool
opens Body w = opens_body w
opens Part w = opens_if w
opens Condition w = opens_if w

abbrev pub closes : Extent → Word → Bool
closes Body w = is_endm w
closes Part w = is_endif w
closes Condition w = is_endif w

abbrev pub ends : Extent → Word → Bool
ends Body w = is_endm w
ends Part w = is_endif w || is_else w
ends Condition w = is_endif w

abbrev pub depth_after : Extent → Word → ℕ → ℕ
depth_after e w depth = if opens e w then depth + 1 else if closes e w then depth - 1 else depth

-- what stands before the end, the line that ends it, and what follows
pub record Cut : Type 0 where
  pub prefix : List Piece
  pub ender : Piece
  pub rest : List Piece

abbrev pub after_piece : Piece → Option Cut → Option Cut
after_piece p None = None
after_piece p (Some cut) = Some (record cut { prefix = p ∷ cut.prefix })

-- lines are matched as they stand; calls among them are not yet replaced
unfoldable pub cut_at : Extent → ℕ → List Piece → Option Cut
cut_at e depth [] = None
cut_at e depth (p ∷ ps) =
    if ends e (word_at p.tokens) && (depth == 0) then Some (record { prefix = []; ender = p; rest = ps })
    else after_piece p (cut_at e (depth_after e (word_at p.tokens) depth) ps)

-- ---- the lines that an IF keeps, and what follows its ENDIF; a second ELSE stays, and is a fault when it is reached

abbrev pub kept_before : List Piece → Option Cut → Option (List Piece × List Piece)
kept_before prefix None = None
kept_before prefix (Some cut) = Some (prefix, cut.rest)

abbrev pub second_part : List Piece → Option Cut → Option (List Piece × List Piece)
second_part prefix None = None
second_part prefix (Some cut) =
    if is_endif (word_at cut.ender.tokens) then Some (prefix, cut.rest)
    else kept_before (prefix ++ cut.ender ∷ []) (cut_at Condition 0 cut.rest)

abbrev pub else_part : Option Cut → Option (List Piece × List Piece)
else_part None = None
else_part (Some cut) = Some (cut.prefix, cut.rest)

abbrev pub kept_of : Bool → Option Cut → Option (List Piece × List Piece)
kept_of holds None = None
kept_of holds (Some cut) =
    if is_endif (word_at cut.ender.tokens) then Some (if holds then cut.prefix else [], cut.rest)
    else if holds then second_part cut.prefix (cut_at Part 0 cut.rest)
    else else_part (cut_at Condition 0 cut.rest)

unfoldable pub kept : Bool → List Piece → Option (List Piece × List Piece)
kept holds ps = kept_of holds (cut_at Part 0 ps)

-- ---- what calls answer, with what is left

abbrev pub seen_cut : Option (Vec Piece × Piece) → List Piece → Option Cut
seen_cut None rest = None
seen_cut (Some p) rest = Some (record { prefix = p.0.items; ender = p.1; rest = rest })

abbrev pub seen_kept : Option (Vec Piece) → List Piece → Option (List Piece × List Piece)
seen_kept None rest = None
seen_kept (Some v) rest = Some (v.items, rest)

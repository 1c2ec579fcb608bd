-- EXITM ends the innermost call or repetition, and nothing else (after the MCS-96 Macro Assembler User's Guide, "Macros").
use Rattle.std.specs.Prelude.{◌≡◌, ℕ, ◌+◌, ◌<◌, Bool, true, false, not, ◌&&◌, if◌then◌else◌, List, ◌∷◌, ◌++◌, drop, map, Option, Some, None, is_some, Ok, ◌⊎◌}
use Rattle.std.specs.List.{list_all, list_any}
use Rattle.kc_lex.specs.declared.token.Token.{Token}
use Rattle.kc_lex.specs.Kinds.{has_label}
use Rattle.kc_macro_body.specs.declared.words.Word.TheVariants as words
use Rattle.kc_macro_body.specs.declared.macros.Macro.{Macro}
use Rattle.kc_base.specs.ByName.{ByName}
use Rattle.kc_macro_body.specs.Words.{word_of, is_other}
use Rattle.kc_macro_body.specs.Arguments.{arguments}
use Rattle.kc_macro_body.specs.Calls.{called}
use Rattle.kc_macro_input.specs.declared.piece.Mark.{Mark}
use Rattle.kc_macro_input.specs.declared.piece.Piece.{Piece}
use Rattle.kc_macro_input.specs.Pieces.{innermost, comes_from, body_line}
use Rattle.kc_macro_input.specs.Filled.{fill_body}
use Rattle.kc_macro.specs.declared.state.State.{State}
use Rattle.kc_macro.specs.Operands.{operand}
use Rattle.kc_macro.specs.Steps.{names_run_out}
use Rattle.kc_macro.specs.Expansion.{run_out}
use Rattle.kc_macro_laws.specs.Course.{IsReached, at_text, on_text, matched, one_counted, HasOldMarks, IsTooDeep}
use Rattle.kc_macro_laws.specs.Nests.{Is}
use Rattle.kc_macro_laws.specs.Constructs.{is_exitm, Block, text_of, IsBlock, IsJoined, IsCall}

-- an EXITM splits the text behind it: all that comes from the innermost call or repetition goes, and none of it stays
pub record IsLeft (m : Mark) (rest inner outer : List Piece) : Type 0 where
  pub whole : rest ≡ inner ++ outer
  pub goes : list_all (comes_from m) inner ≡ true
  pub stays : list_any (comes_from m) outer ≡ false

abbrev pub ExitmEndsTheInnermost : Type 0
ExitmEndsTheInnermost = (s : State) (number : ℕ) (from : List Mark) (tokens : List Token) (rest : List Piece) (m : Mark) →
    IsReached (at_text s (body_line number from tokens ∷ rest)) → matched s.labelled tokens ≡ Some words.Exitm → innermost from ≡ Some m →
    (inner : List Piece) × ((outer : List Piece) × (IsLeft m rest inner outer
    × (run_out (at_text s (body_line number from tokens ∷ rest)) ≡ run_out (on_text s outer))))

-- ---- an EXITM in a body, behind lines that come out as they stand

-- what stands behind the label of a line, if it has one
abbrev pub behind_its_label : List Token → List Token
behind_its_label ts = if has_label ts then drop 2 ts else ts

abbrev pub are_plain : ByName Macro → Option (List Token) → Bool
are_plain macros None = false
are_plain macros (Some ts) = is_other (word_of ts) && not (is_some (called macros (behind_its_label ts)))

abbrev pub come_out : ByName Macro → List Piece → Type 0
come_out macros ps = list_all (λ p. are_plain macros p.tokens) ps ≡ true

-- a call whose LOCAL names do not run out comes to no more than what stands before its EXITM
abbrev pub ExitmInACall : Type 0
ExitmInACall = (s : State) (number : ℕ) (from : List Mark) (tokens : List Token) (rest : List Piece) (m : Macro) (prefix : List Piece) (last : Piece) (back : List Piece) →
    IsCall s tokens m → names_run_out s.given m.formals.locals.count ≡ false → HasOldMarks (at_text s (body_line number from tokens ∷ rest)) →
    fill_body m.formals (arguments (drop 1 tokens)) s.given (map (body_line number from) m.body) ≡ Ok (prefix ++ last ∷ back) →
    come_out s.macros prefix → Is is_exitm last →
    (run_out (at_text s (body_line number from tokens ∷ rest))
    ≡ run_out (record (on_text s (one_counted number from ∷ (prefix ++ rest))) { given = s.given + m.formals.locals.count }))
    ⊎ IsTooDeep (run_out (at_text s (body_line number from tokens ∷ rest)))

-- and a REPT to its first turn up to there: the later turns are left out, too
abbrev pub ExitmInARept : Type 0
ExitmInARept = (s : State) (b : Block) (n : ℕ) (prefix : List Piece) (last : Piece) (back : List Piece) → IsBlock s words.Rept b →
    HasOldMarks (at_text s (text_of b)) → operand (drop 1 b.tokens) s.values ≡ Ok n → 0 < n → IsJoined b.body (prefix ++ last ∷ back) →
    come_out s.macros prefix → Is is_exitm last →
    run_out (at_text s (text_of b)) ≡ run_out (on_text s (one_counted b.number b.from ∷ (prefix ++ b.rest)))

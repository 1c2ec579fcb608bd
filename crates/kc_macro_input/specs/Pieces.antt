-- The text that is still to be read, as a flat list of pieces: lines, and places where a turn begins. Each piece knows
-- from which calls, repetitions and IFs it comes.
use Rattle.std.specs.Prelude.{ℕ, zero, suc, ◌==◌, Bool, true, false, if◌then◌else◌, List, [], ◌∷◌, ◌++◌, Option, Some, None, is_some}
use Rattle.std.specs.List.{list_any, filter_map}
use Rattle.kc_lex.specs.declared.token.Token.{Token}
use Rattle.kc_lex.specs.declared.token.Line.{Line}
use Rattle.kc_macro_body.specs.declared.words.Word.{Word}
use Rattle.kc_macro_body.specs.declared.words.Word.TheVariants as words
use Rattle.kc_macro_body.specs.Words.{word_of}
use Rattle.kc_macro_input.specs.declared.piece.Mark.{Mark}
use Rattle.kc_macro_input.specs.declared.piece.Mark.TheVariants.{Call, Turns, If}
use Rattle.kc_macro_input.specs.declared.piece.Piece.{Piece}

-- ---- marks

abbrev pub is_call : Mark → Bool
is_call (Call n) = true
is_call (Turns n) = false
is_call If = false

abbrev pub is_if : Mark → Bool
is_if If = true
is_if (Call n) = false
is_if (Turns n) = false

abbrev pub same_mark : Mark → Mark → Bool
same_mark (Call m) (Call n) = m == n
same_mark (Turns m) (Turns n) = m == n
same_mark If If = true
same_mark a b = false

-- the innermost call or repetition
abbrev pub innermost : List Mark → Option Mark
innermost [] = None
innermost (m ∷ ms) = if is_if m then innermost ms else Some m

abbrev pub marked : Mark → Piece → Piece
marked m p = record p { from = m ∷ p.from }

abbrev pub comes_from : Mark → Piece → Bool
comes_from m p = list_any (same_mark m) p.from

-- without the pieces in front that come from a call or repetition
unfoldable pub left_out : Mark → List Piece → List Piece
left_out m [] = []
left_out m (p ∷ ps) = if comes_from m p then left_out m ps else p ∷ ps

-- ---- pieces

-- a line of the source
abbrev pub first_piece : Line → Piece
first_piece l = record { number = l.number; from = []; tokens = Some l.tokens }

-- a line of a body
abbrev pub body_line : ℕ → List Mark → List Token → Piece
body_line number from ts = record { number = number; from = from; tokens = Some ts }

abbrev pub is_line : Piece → Bool
is_line p = is_some p.tokens

abbrev pub text_in : Piece → Option (List Token)
text_in p = p.tokens

abbrev pub texts_of : List Piece → List (List Token)
texts_of ps = filter_map text_in ps

abbrev pub word_at : Option (List Token) → Word
word_at None = words.Other
word_at (Some ts) = word_of ts

-- a list, so many times
unfoldable pub repeated : {A : Type 0} → ℕ → List A → List A
repeated zero xs = []
repeated (suc n) xs = xs ++ repeated n xs

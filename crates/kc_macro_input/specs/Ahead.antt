-- A stack of texts, seen as the flat text that it stands for.
use Rattle.std.specs.Prelude.{List, [], ◌∷◌, ◌++◌, drop, Option, Some, None}
use Rattle.kc_macro_input.specs.declared.piece.Piece.{Piece}
use Rattle.kc_macro_input.specs.declared.ahead.Held.{Held}
use Rattle.kc_macro_input.specs.declared.ahead.Held.TheVariants as held
use Rattle.kc_macro_input.specs.Pieces.{repeated}
use Rattle.kc_macro_input.specs.Filled.{turns_over}

-- what one element stands for
abbrev pub pieces_of : Held → List Piece
pieces_of (held.One p) = p ∷ []
pieces_of (held.Turns head body left) = repeated left (head ∷ body.items)
pieces_of (held.Over over next) = turns_over over.formals over.head over.body.items (drop next over.args)

-- the last element stands for what comes first
unfoldable pub flat : List Held → List Piece
flat [] = []
flat (h ∷ hs) = flat hs ++ pieces_of h

-- a piece that was taken off, if there was one
abbrev pub taken : Option Piece → List Piece
taken None = []
taken (Some p) = p ∷ []

-- a piece that was taken off, in front of what is left
abbrev pub put_back : Option Piece → List Piece → List Piece
put_back None ps = []
put_back (Some p) ps = p ∷ ps

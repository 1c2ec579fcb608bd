-- Where the lines of an expansion were written (this kit's own). Expansion does not read the value of a token that is no
-- number: there each of these tokens keeps the number of the line that it stands on.
use Rattle.std.specs.Prelude.{ℕ, Bool, not, ◌&&◌, ◌==◌, if◌then◌else◌, List, [], ◌∷◌, drop, map, Option, Some, None}
use Rattle.kc_lex.specs.declared.token.Token.{Token}
use Rattle.kc_lex.specs.declared.token.Line.{Line}
use Rattle.kc_lex.specs.Kinds.{is_number_kind, has_label}

-- ---- the lines of a source, marked

abbrev pub marked_token : ℕ → Token → Token
marked_token number t = record { kind = t.kind; text = t.text; value = if is_number_kind t.kind then t.value else number }

abbrev pub marked_line : Line → Line
marked_line l = record { number = l.number; tokens = map (marked_token l.number) l.tokens }

abbrev pub marked : List Line → List Line
marked lines = map marked_line lines

-- ---- a line of the expansion of marked lines

-- what an expansion makes itself, as the name that stands for a local one, is marked with no line
abbrev pub has_mark : Token → Bool
has_mark t = not (is_number_kind t.kind) && not (t.value == 0)

unfoldable pub first_mark : List Token → Option ℕ
first_mark [] = None
first_mark (t ∷ ts) = if has_mark t then Some t.value else first_mark ts

-- where the first token behind its label was written: a name before the colon may be an argument of a call
abbrev pub written_at : List Token → Option ℕ
written_at tokens = first_mark (if has_label tokens then drop 1 tokens else tokens)

abbrev pub elsewhere : ℕ → Option ℕ → Option ℕ
elsewhere number None = None
elsewhere number (Some line) = if line == number then None else Some line

-- of the lines of this number each, where it was written if elsewhere
unfoldable pub places_of : ℕ → List Line → List (Option ℕ)
places_of number [] = []
places_of number (l ∷ ls) = if l.number == number then elsewhere number (written_at l.tokens) ∷ places_of number ls else places_of number ls

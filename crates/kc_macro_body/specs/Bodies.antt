-- What a definition keeps of a macro's body: its lines without those of LOCAL, and the names of these.
use Rattle.std.specs.Prelude.{ℕ, ◌+◌, ◌-◌, Bool, ◌&&◌, ◌||◌, ◌==◌, if◌then◌else◌, List, [], ◌∷◌, ◌++◌, drop, position, Option, Some, None, is_some}
use Rattle.std.specs.Str.{bytes_eq}
use Rattle.std.specs.FinMap as fm
use Rattle.kc_lex.specs.declared.token.Token.{Token}
use Rattle.kc_macro_body.specs.declared.words.Word.{Word}
use Rattle.kc_macro_body.specs.declared.macros.Locals.{Locals}
use Rattle.kc_macro_body.specs.declared.macros.Formals.{Formals}
use Rattle.kc_macro_body.specs.declared.macros.Macro.{Macro}
use Rattle.kc_macro_body.specs.Words.{word_of, opens_body, is_macro, is_endm, is_local}
use Rattle.kc_macro_body.specs.Arguments.{names_at}

-- ---- LOCAL lines: they hold for the whole body, but not where they stand in a definition of the body

-- in how many texts that end with ENDM a line leaves the body, counted from the outermost definition in it
abbrev pub depth_after : Word → ℕ → ℕ
depth_after w depth =
    if depth == 0 then (if is_macro w then 1 else 0)
    else if opens_body w then depth + 1 else if is_endm w then depth - 1 else depth

abbrev pub declares : ℕ → List Token → Bool
declares depth ts = is_local (word_of ts) && (depth == 0)

-- the lines that declare no names
unfoldable pub plain_lines : ℕ → List (List Token) → List (List Token)
plain_lines depth [] = []
plain_lines depth (l ∷ ls) = if declares depth l then plain_lines depth ls else l ∷ plain_lines (depth_after (word_of l) depth) ls

abbrev pub both : Option (List (List ℕ)) → Option (List (List ℕ)) → Option (List (List ℕ))
both None o = None
both (Some ms) None = None
both (Some ms) (Some ns) = Some (ms ++ ns)

-- the names that are declared, in their order; none where a LOCAL line is no list of names
unfoldable pub local_names : ℕ → List (List Token) → Option (List (List ℕ))
local_names depth [] = Some []
local_names depth (l ∷ ls) = if declares depth l then both (names_at (drop 1 l)) (local_names depth ls) else local_names (depth_after (word_of l) depth) ls

-- ---- the places of declared names

abbrev pub no_locals : Locals
no_locals = record { places = fm.empty; count = 0 }

-- a parameter, and a name that has a place, get none
abbrev pub with_local : List (List ℕ) → Locals → List ℕ → Locals
with_local params l n =
    if is_some (position (bytes_eq n) params) || is_some (fm.get l.places n) then l
    else record { places = fm.insert l.places n l.count; count = l.count + 1 }

unfoldable pub placed : List (List ℕ) → Locals → List (List ℕ) → Locals
placed params l [] = l
placed params l (n ∷ ns) = placed params (with_local params l n) ns

-- ---- a macro

abbrev pub names_or_none : Option (List (List ℕ)) → List (List ℕ)
names_or_none None = []
names_or_none (Some ns) = ns

abbrev pub with_names : List (List ℕ) → List (List Token) → Option (List (List ℕ)) → Macro
with_names params lines names =
    record { formals = record { params = params; locals = placed params no_locals (names_or_none names) }; sound = is_some names; body = plain_lines 0 lines }

-- what is kept of a definition with these parameters and lines
unfoldable pub macro_of : List (List ℕ) → List (List Token) → Macro
macro_of params lines = with_names params lines (local_names 0 lines)

-- the names that a repetition replaces
abbrev pub only : List (List ℕ) → Formals
only params = record { params = params; locals = no_locals }

-- The first lines of a number in a text (this kit's own).
use Rattle.std.specs.Prelude.{ℕ, ◌-◌, ◌==◌, nat_lt, Bool, true, false, if◌then◌else◌, List, [], ◌∷◌}
use Rattle.kc_lex.specs.declared.token.Line.{Line}

-- a line that is moved has a number beyond those of all lines: what is known of it stands behind all else
abbrev pub placed : Bool → Line → Line
placed true l = l
placed false l = record { number = 4294967295; tokens = l.tokens }

-- a text of whose lines of this number only the first k keep it
unfoldable pub with_first : ℕ → ℕ → List Line → List Line
with_first number k [] = []
with_first number k (l ∷ ls) =
    if l.number == number then placed (nat_lt 0 k) l ∷ with_first number (k - 1) ls
    else l ∷ with_first number k ls
